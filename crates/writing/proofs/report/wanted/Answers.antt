-- What each phase wants.
use Rattle.std.proofs.Common.{◌≡◌, ℕ, sym, arith}
use Rattle.areas.specs.Shapes.{dims}
use Rattle.writing.proofs.Reported.{cell_wants, middle_wants, table_wants}
use Rattle.writing.proofs.report.wanted.Goals as goal

pub returns-in-AsksCell : goal.returns-in-AsksCell
returns-in-AsksCell g c = record {
  wants = λ h room. cell_wants (g.M.Readable.held c.args.memory.now) (dims (g.M.Readable.laid_for c.args.memory.now)) c.in-AsksCell.edge.0 c.in-AsksCell.suffix c.cell_answer-word.result c.args.out.now c.ask.new.out c.ask.result h room (sym c.in-AsksCell.ensures) c.cell_answer-word.ensures c.ask.ensures.word;
  stored = c.ask.ensures.stored;
}

pub returns-in-AsksMiddle : goal.returns-in-AsksMiddle
returns-in-AsksMiddle g c = record {
  wants = λ h room. middle_wants (g.M.Readable.held c.args.memory.now) (dims (g.M.Readable.laid_for c.args.memory.now)) c.in-AsksMiddle.search c.middle.result c.mixed-word.result c.args.out.now c.ask-in-AsksMiddle.new.out c.ask-in-AsksMiddle.result h room (sym c.in-AsksMiddle.ensures) c.middle.ensures c.mixed-word.ensures c.ask-in-AsksMiddle.ensures.word;
  stored = c.ask-in-AsksMiddle.ensures.stored;
}

pub returns-in-ShowsTable : goal.returns-in-ShowsTable
returns-in-ShowsTable g c = record {
  wants = λ h room. table_wants (g.M.Readable.held c.args.memory.now) (dims (g.M.Readable.laid_for c.args.memory.now)) c.args.out.now c.write_table.new.out c.write_table.result h room (sym c.in-ShowsTable.ensures) (c.write_table.ensures h);
  stored = λ e. let z : ◌≡◌ {A = ℕ} 0 1 = cc in omega arith;
}
