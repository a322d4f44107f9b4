use Rattle.std.proofs.Common.{arith}
use Rattle.areas.specs.Shapes.{dims}
use Rattle.areas.proofs.Bases.{limits_of}
use Rattle.areas.proofs.Memories.{dims_kept, done_at, writes_then}
use Rattle.moves.proofs.Adding.{entry_added}
use Rattle.moves.proofs.answers.add_entry.Goals as goal

pub returns-then-count-answers : goal.returns-then-count-answers
returns-then-count-answers c =
    writes_then c.save_record.ensures c.save.ensures
    (λ e h. entry_added c.args.memory.now.words.now c.save_record.new.self.words.now _ (dims c.args.memory.now.shape) c.answers-count.result c.args.answer (limits_of c.args.memory.now.shape) e (omega (arith, h, c.answers-count.ensures.count)) c.answers-count.ensures.word c.save_record.ensures.words (done_at c.save.ensures (dims_kept c.save_record.ensures)))
