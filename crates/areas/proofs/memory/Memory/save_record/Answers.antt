use Rattle.std.proofs.Common.{◌*◌, arith}
use Rattle.areas.specs.declared.area.Area.TheVariants.{Answers}
use Rattle.areas.specs.Layout.{area_of}
use Rattle.areas.specs.Shapes.{dims}
use Rattle.areas.proofs.Bases.{limits_of}
use Rattle.areas.proofs.Inside.{area_short, rewritten_same}
use Rattle.areas.proofs.Entries.{record_saved, record_written, set_record_past, size_answers}
use Rattle.areas.proofs.Memories.{dims_kept, done_at, writes_none, writes_on, writes_then}
use Rattle.areas.proofs.memory.Memory.save_record.Goals as goal

pub returns-then-i-answers : goal.returns-then-i-answers
returns-then-i-answers c =
    let one = c.save.ensures in
    let two = c.save-then-i-answers.ensures in
    let three = c.save_wide.ensures in
    let four = c.save_wide-then-i-answers.ensures in
    let both = writes_on one two in
    let more = writes_on both three in
    let most = writes_on more four in
    writes_then most c.save-then-i-answers-2.ensures
    (record_saved c.args.self.now.words.now _ (dims c.args.self.now.shape) c.args.i c.args.answer (limits_of c.args.self.now.shape)
    (record_written c.args.self.now.words.now c.save.new.self.words.now c.save-then-i-answers.new.self.words.now c.save_wide.new.self.words.now c.save_wide-then-i-answers.new.self.words.now _ (dims c.args.self.now.shape) c.args.i c.args.answer
    one.words (done_at two (dims_kept one)) (done_at three (dims_kept both)) (done_at four (dims_kept more)) (done_at c.save-then-i-answers-2.ensures (dims_kept most))))

pub returns-else-i-answers : goal.returns-else-i-answers
returns-else-i-answers c = writes_none c.args.self.now
    (record_saved c.args.self.now.words.now c.args.self.now.words.now (dims c.args.self.now.shape) c.args.i c.args.answer (limits_of c.args.self.now.shape)
    (rewritten_same c.args.self.now.words.now (dims c.args.self.now.shape) Answers _
    (set_record_past (area_of c.args.self.now.words.now (dims c.args.self.now.shape) Answers) (8 * c.args.i) c.args.answer (omega (arith, area_short c.args.self.now.words.now (dims c.args.self.now.shape) Answers, size_answers (dims c.args.self.now.shape), c.answers.ensures.exact)))))
