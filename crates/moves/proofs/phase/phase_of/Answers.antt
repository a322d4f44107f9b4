use Rattle.std.proofs.Common.{sym, refl, ap, ◌∙◌, arith}
use Rattle.areas.specs.Shapes.{dims}
use Rattle.model.specs.Learners.{asks_cell, bisecting, asks_middle, larger}
use Rattle.moves.proofs.Entering.{phase_from, phase_past}
use Rattle.moves.proofs.phase.phase_of.Goals as goal

pub returns-in-0 : goal.returns-in-0
returns-in-0 g c = phase_from (g.M.Readable.held c.args.memory.now) (dims (g.M.Readable.laid_for c.args.memory.now)) 0 _ (sym c.in-0.is ∙ c.load.ensures) refl

pub returns-in-1 : goal.returns-in-1
returns-in-1 g c = phase_from (g.M.Readable.held c.args.memory.now) (dims (g.M.Readable.laid_for c.args.memory.now)) 1 _ (sym c.in-1.is ∙ c.load.ensures) (λ i. asks_cell (c.load-first.ensures i) (c.load-second.ensures i))

pub returns-in-2 : goal.returns-in-2
returns-in-2 g c = phase_from (g.M.Readable.held c.args.memory.now) (dims (g.M.Readable.laid_for c.args.memory.now)) 2 _ (sym c.in-2.is ∙ c.load.ensures) refl

pub returns-in-3 : goal.returns-in-3
returns-in-3 g c = phase_from (g.M.Readable.held c.args.memory.now) (dims (g.M.Readable.laid_for c.args.memory.now)) 3 _ (sym c.in-3.is ∙ c.load.ensures) (ap bisecting c.search_of.ensures)

pub returns-in-4 : goal.returns-in-4
returns-in-4 g c = phase_from (g.M.Readable.held c.args.memory.now) (dims (g.M.Readable.laid_for c.args.memory.now)) 4 _ (sym c.in-4.is ∙ c.load.ensures) (ap asks_middle c.search_of-in-4.ensures)

pub returns-in-5 : goal.returns-in-5
returns-in-5 g c = phase_from (g.M.Readable.held c.args.memory.now) (dims (g.M.Readable.laid_for c.args.memory.now)) 5 _ (sym c.in-5.is ∙ c.load.ensures) (ap larger c.load-first.ensures)

pub returns-in_default : goal.returns-in_default
returns-in_default g c = phase_from (g.M.Readable.held c.args.memory.now) (dims (g.M.Readable.laid_for c.args.memory.now)) c.load.result _ c.load.ensures (sym (phase_past c.load.result _ _ _ (omega arith)))
