use Rattle.areas.specs.Shapes.{dims}
use Rattle.areas.proofs.Memories.{writes_so}
use Rattle.moves.proofs.Setting.{successor_set}
use Rattle.moves.proofs.successors.set_successor.Goals as goal

pub returns : goal.returns
returns c = writes_so c.save.ensures (successor_set c.args.memory.now.words.now _ (dims c.args.memory.now.shape) c.args.edge.0 c.args.row.0 c.save.ensures.words)
