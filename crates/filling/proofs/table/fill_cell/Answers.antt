-- A cell is filled or asked about.
use Rattle.std.proofs.Common.{sym, ◌∙◌, arith}
use Rattle.areas.specs.Shapes.{dims}
use Rattle.areas.proofs.Bases.{limits_of}
use Rattle.spelling.specs.Spelt.{spelt}
use Rattle.areas.proofs.Memories.{writes_so}
use Rattle.moves.proofs.Seeing.{seen_none}
use Rattle.lookup.proofs.Spelled.{spelt_viewed}
use Rattle.filling.proofs.Trying.{cell_asked, cell_taken}
use Rattle.filling.proofs.table.fill_cell.Goals as goal

pub returns-in_default : goal.returns-in_default
returns-in_default c = writes_so c.enter.ensures (λ f hu he.
    cell_asked c.args.memory.now.words.now c.enter.new.memory.words.now (dims c.args.memory.now.shape) c.args.edge.0 c.args.suffix c.cell_answer-word.result (spelt c.spell.result) f hu he (sym c.cell.ensures ∙ seen_none c.cell.result (sym c.is_some.ensures ∙ c.if-is_some.false)) c.cell_answer-word.ensures (spelt_viewed c.view.ensures.words c.view.ensures.shape c.spell.ensures) c.in_default.ensures c.enter.ensures.words)

pub returns : goal.returns
returns c = writes_so c.set_cell.ensures (λ f hu he.
    cell_taken c.args.memory.now.words.now c.set_cell.new.memory.words.now (dims c.args.memory.now.shape) c.args.edge.0 c.args.suffix c.cell_answer-word.result (spelt c.spell.result) f hu he (sym c.cell.ensures ∙ seen_none c.cell.result (sym c.is_some.ensures ∙ c.if-is_some.false)) c.cell_answer-word.ensures (spelt_viewed c.view.ensures.words c.view.ensures.shape c.spell.ensures) c.in-Some.number (limits_of c.args.memory.now.shape) (omega (arith, f.holds.long)) c.in-Some.ensures c.set_cell.ensures.words)
