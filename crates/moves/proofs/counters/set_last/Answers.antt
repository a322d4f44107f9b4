use Rattle.areas.specs.Shapes.{dims}
use Rattle.areas.proofs.Bases.{limits_of}
use Rattle.areas.proofs.Memories.{writes_so}
use Rattle.moves.proofs.Setting.{last_set}
use Rattle.moves.proofs.counters.set_last.Goals as goal

pub returns : goal.returns
returns c = writes_so c.save.ensures (λ e. last_set c.args.memory.now.words.now _ (dims c.args.memory.now.shape) c.args.rows (limits_of c.args.memory.now.shape) e c.save.ensures.words)
