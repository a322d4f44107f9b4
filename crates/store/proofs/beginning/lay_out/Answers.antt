use Rattle.areas.specs.Shapes.{dims}
use Rattle.areas.proofs.Bases.{limits_of}
use Rattle.areas.proofs.Memories.{dims_kept, done_at, writes_on, writes_then}
use Rattle.store.proofs.Fresh.{laid_fresh}
use Rattle.store.proofs.beginning.lay_out.Goals as goal

pub returns : goal.returns
returns c =
    let cleared = c.clear_before.ensures in
    let marked = writes_on cleared c.save.ensures in
    let keyed = writes_on marked c.save-2.ensures in
    let sized = writes_on keyed c.save-3.ensures in
    let rowed = writes_on sized c.save-4.ensures in
    writes_then rowed c.save-5.ensures (λ long.
    laid_fresh c.args.memory.now.words.now c.clear_before.new.self.words.now c.save.new.self.words.now c.save-2.new.self.words.now c.save-3.new.self.words.now c.save-4.new.self.words.now c.save-5.new.self.words.now (dims c.args.memory.now.shape) (limits_of c.args.memory.now.shape) long
    c.keys-keys.result c.most-most.result c.keys-keys.ensures c.most-most.ensures cleared.words (done_at c.save.ensures (dims_kept cleared)) (done_at c.save-2.ensures (dims_kept marked)) (done_at c.save-3.ensures (dims_kept keyed)) (done_at c.save-4.ensures (dims_kept sized)) (done_at c.save-5.ensures (dims_kept rowed)))
