use Rattle.std.proofs.Common.{sym, ap}
use Rattle.areas.specs.Shapes.{dims}
use Rattle.areas.proofs.Bases.{limits_of}
use Rattle.moves.specs.Phases.{phase_value}
use Rattle.areas.proofs.Memories.{dims_kept, done_at, writes_on, writes_so, writes_then}
use Rattle.moves.proofs.Entering.{enters_plain, enters_one, enters_two, enters_search}
use Rattle.moves.proofs.phase.enter.Goals as goal

pub returns-in-Filling : goal.returns-in-Filling
returns-in-Filling c = writes_so c.save.ensures (λ e. enters_plain c.args.memory.now.words.now _ (dims c.args.memory.now.shape) 0 _ (limits_of c.args.memory.now.shape) e (λ a b l. ap phase_value (sym c.in-Filling.is)) c.save.ensures.words)

pub returns-in-ShowsTable : goal.returns-in-ShowsTable
returns-in-ShowsTable c = writes_so c.save-in-ShowsTable.ensures (λ e. enters_plain c.args.memory.now.words.now _ (dims c.args.memory.now.shape) 2 _ (limits_of c.args.memory.now.shape) e (λ a b l. ap phase_value (sym c.in-ShowsTable.is)) c.save-in-ShowsTable.ensures.words)

pub returns-in-Broken : goal.returns-in-Broken
returns-in-Broken c = writes_so c.save-in-Broken.ensures (λ e. enters_plain c.args.memory.now.words.now _ (dims c.args.memory.now.shape) 6 _ (limits_of c.args.memory.now.shape) e (λ a b l. ap phase_value (sym c.in-Broken.is)) c.save-in-Broken.ensures.words)

pub returns-in-AsksCell : goal.returns-in-AsksCell
returns-in-AsksCell c =
    let first = c.save-in-AsksCell.ensures in
    let both = writes_on first c.save-in-AsksCell-2.ensures in
    writes_then both c.save-in-AsksCell-3.ensures
    (λ e. enters_two c.args.memory.now.words.now c.save-in-AsksCell.new.self.words.now c.save-in-AsksCell-2.new.self.words.now _ (dims c.args.memory.now.shape) 1 c.in-AsksCell.edge.0 c.in-AsksCell.suffix _ (limits_of c.args.memory.now.shape) e (λ l. ap phase_value (sym c.in-AsksCell.is)) first.words (done_at c.save-in-AsksCell-2.ensures (dims_kept first)) (done_at c.save-in-AsksCell-3.ensures (dims_kept both)))

pub returns-in-Larger : goal.returns-in-Larger
returns-in-Larger c = writes_then c.save-in-Larger.ensures c.save-in-Larger-2.ensures
    (λ e. enters_one c.args.memory.now.words.now c.save-in-Larger.new.self.words.now _ (dims c.args.memory.now.shape) 5 c.in-Larger.edge.0 _ (limits_of c.args.memory.now.shape) e (λ b l. ap phase_value (sym c.in-Larger.is)) c.save-in-Larger.ensures.words (done_at c.save-in-Larger-2.ensures (dims_kept c.save-in-Larger.ensures)))

pub returns-in-Bisecting : goal.returns-in-Bisecting
returns-in-Bisecting c = writes_then c.put_search.ensures c.save-in-Bisecting.ensures
    (λ e. enters_search c.args.memory.now.words.now c.put_search.new.memory.words.now _ (dims c.args.memory.now.shape) 3 c.in-Bisecting.search _ (limits_of c.args.memory.now.shape) e (λ a b. ap phase_value (sym c.in-Bisecting.is)) c.put_search.ensures.words (done_at c.save-in-Bisecting.ensures (dims_kept c.put_search.ensures)))

pub returns-in-AsksMiddle : goal.returns-in-AsksMiddle
returns-in-AsksMiddle c = writes_then c.put_search-in-AsksMiddle.ensures c.save-in-AsksMiddle.ensures
    (λ e. enters_search c.args.memory.now.words.now c.put_search-in-AsksMiddle.new.memory.words.now _ (dims c.args.memory.now.shape) 4 c.in-AsksMiddle.search _ (limits_of c.args.memory.now.shape) e (λ a b. ap phase_value (sym c.in-AsksMiddle.is)) c.put_search-in-AsksMiddle.ensures.words (done_at c.save-in-AsksMiddle.ensures (dims_kept c.put_search-in-AsksMiddle.ensures)))
