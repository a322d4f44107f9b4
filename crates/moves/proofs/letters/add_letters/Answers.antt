use Rattle.std.proofs.Common.{arith}
use Rattle.areas.specs.Shapes.{dims}
use Rattle.areas.proofs.Bases.{limits_of}
use Rattle.areas.proofs.Memories.{dims_kept, done_at, writes_then}
use Rattle.moves.proofs.Adding.{letters_added}
use Rattle.moves.proofs.letters.add_letters.Goals as goal

pub returns-then-word-room : goal.returns-then-word-room
returns-then-word-room c =
    writes_then c.copy_in.ensures c.save_wide.ensures
    (λ e h. letters_added c.args.memory.now.words.now c.copy_in.new.self.words.now _ (dims c.args.memory.now.shape) c.letters-count.result c.args.word.now (limits_of c.args.memory.now.shape) e (omega (arith, h, c.letters-count.ensures.word)) c.letters-count.ensures.word c.copy_in.ensures.words (done_at c.save_wide.ensures (dims_kept c.copy_in.ensures)))
