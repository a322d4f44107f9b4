-- Letters, an entry and a counter are written.
use Rattle.std.proofs.Common.{length, arith}
use Rattle.areas.specs.Shapes.{dims}
use Rattle.areas.proofs.Bases.{limits_of}
use Rattle.areas.proofs.Memories.{dims_kept, done_at, writes_on, writes_then}
use Rattle.refuting.proofs.Keeping.{refutation_kept, refutes_few}
use Rattle.refuting.proofs.refutation.keep.Goals as goal

pub returns : goal.returns
returns c =
    let lettered = c.add_letters.ensures in
    let added = writes_on lettered c.add_entry.ensures in
    writes_then added c.set_refutes.ensures (λ s room.
    let w = c.args.memory.now.words.now in
    let d = dims c.args.memory.now.shape in
    let letters = c.letters.ensures.count s.holds.long s.holds.fits in
    refutation_kept w c.add_letters.new.memory.words.now c.add_entry.new.memory.words.now c.set_refutes.new.memory.words.now d c.args.word.now c.args.answer c.saturating_add.result _ (limits_of c.args.memory.now.shape) (omega (arith, s.holds.long)) s room
    (λ i. record { row = 0; key = 0; span = record { start = letters i; size = length c.args.word.now }; shown = c.args.answer })
    (omega (arith, c.saturating_add.ensures, c.refutes-times.ensures, refutes_few w d c.args.word.now s))
    lettered.words (done_at c.add_entry.ensures (dims_kept lettered)) (done_at c.set_refutes.ensures (dims_kept added)))
