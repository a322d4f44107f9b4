use Rattle.std.proofs.Common.{arith}
use Rattle.areas.specs.Shapes.{dims}
use Rattle.areas.proofs.Bases.{limits_of}
use Rattle.areas.proofs.Memories.{dims_kept, done_at, writes_then}
use Rattle.moves.proofs.Adding.{suffix_added}
use Rattle.moves.proofs.suffixes.add_suffix.Goals as goal

pub returns-then-count-most : goal.returns-then-count-most
returns-then-count-most c =
    writes_then c.save_span.ensures c.save.ensures
    (λ e h. suffix_added c.args.memory.now.words.now c.save_span.new.self.words.now _ (dims c.args.memory.now.shape) c.suffixes-count.result c.args.span (limits_of c.args.memory.now.shape) e (omega (arith, h, c.suffixes-count.ensures.count)) c.suffixes-count.ensures.word c.save_span.ensures.words (done_at c.save.ensures (dims_kept c.save_span.ensures)))
