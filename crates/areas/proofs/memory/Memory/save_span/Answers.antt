use Rattle.std.proofs.Common.{arith}
use Rattle.areas.specs.declared.area.Area.TheVariants.{Suffixes}
use Rattle.areas.specs.Layout.{area_of}
use Rattle.areas.specs.Shapes.{dims}
use Rattle.areas.proofs.Bases.{limits_of}
use Rattle.areas.proofs.Inside.{area_short, rewritten_same}
use Rattle.areas.proofs.Ends.{span_saved, span_written, set_span_past, size_suffixes}
use Rattle.areas.proofs.Memories.{dims_kept, done_at, writes_none, writes_then}
use Rattle.areas.proofs.memory.Memory.save_span.Goals as goal

pub returns-then-i-most : goal.returns-then-i-most
returns-then-i-most c = writes_then c.save_wide.ensures c.save_wide-then-i-most.ensures
    (span_saved c.args.self.now.words.now _ (dims c.args.self.now.shape) c.args.i c.args.span (limits_of c.args.self.now.shape)
    (span_written c.args.self.now.words.now c.save_wide.new.self.words.now _ (dims c.args.self.now.shape) c.args.i c.args.span c.save_wide.ensures.words (done_at c.save_wide-then-i-most.ensures (dims_kept c.save_wide.ensures))))

pub returns-else-i-most : goal.returns-else-i-most
returns-else-i-most c = writes_none c.args.self.now
    (span_saved c.args.self.now.words.now c.args.self.now.words.now (dims c.args.self.now.shape) c.args.i c.args.span (limits_of c.args.self.now.shape)
    (rewritten_same c.args.self.now.words.now (dims c.args.self.now.shape) Suffixes _
    (set_span_past (area_of c.args.self.now.words.now (dims c.args.self.now.shape) Suffixes) c.args.i c.args.span (omega (arith, area_short c.args.self.now.words.now (dims c.args.self.now.shape) Suffixes, size_suffixes (dims c.args.self.now.shape), c.most.ensures)))))
