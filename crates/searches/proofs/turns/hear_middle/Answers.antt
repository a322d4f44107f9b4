-- One write after another.
use Rattle.std.proofs.Common.{◌≡◌, subst, arith}
use Rattle.areas.specs.Shapes.{dims}
use Rattle.areas.proofs.Memories.{dims_kept, done_at, writes_on, writes_then}
use Rattle.store.specs.Decoding.{model_of}
use Rattle.searches.specs.Searching.{Halves}
use Rattle.searches.proofs.Hearing.{heard}
use Rattle.searches.proofs.turns.hear_middle.Goals as goal

pub returns : goal.returns
returns c =
    let added = c.add_entry.ensures in
    let counted = writes_on added c.set_bisected.ensures in
    writes_then counted c.enter.ensures
    (heard c.args.memory.now.words.now c.add_entry.new.memory.words.now c.set_bisected.new.memory.words.now _ (dims c.args.memory.now.shape) c.args.search c.half-next.result c.middle.result c.answers-told.result c.bisected-times.result c.saturating_add.result c.args.answer c.mixed-word.result (omega arith) c.answers-told.ensures.count c.middle.ensures c.mixed-word.ensures added.words (subst (λ d. c.bisected-times.result ≡ (model_of c.add_entry.new.memory.words.now d).bisected) (dims_kept added) c.bisected-times.ensures) c.saturating_add.ensures (done_at c.set_bisected.ensures (dims_kept added)) (subst (λ d. Halves c.set_bisected.new.memory.words.now d c.args.search c.answers-told.result c.half-next.result) (dims_kept counted) c.half-next.ensures.exact) (done_at c.enter.ensures (dims_kept counted)))
