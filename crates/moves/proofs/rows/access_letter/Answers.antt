use Rattle.std.proofs.Common.{ℕ, ◌+◌, ◌*◌, get_or, sym, ap, ◌∙◌}
use Rattle.areas.specs.declared.area.Area.TheVariants.{Access}
use Rattle.areas.specs.Layout.{area_of}
use Rattle.areas.specs.Shapes.{dims}
use Rattle.areas.proofs.Bases.{limits_of}
use Rattle.moves.proofs.Spelled.{access_letter_read}
use Rattle.moves.proofs.rows.access_letter.Goals as goal

pub returns : goal.returns
returns g c =
    λ h i. c.load.ensures
    ∙ ap (λ (z : ℕ). get_or (area_of (g.M.Readable.held c.args.memory.now) (dims (g.M.Readable.laid_for c.args.memory.now)) Access) (c.args.row.0 * z + c.args.i) 0) c.most.ensures
    ∙ sym (access_letter_read (g.M.Readable.held c.args.memory.now) (dims (g.M.Readable.laid_for c.args.memory.now)) c.args.row.0 c.args.i (limits_of (g.M.Readable.laid_for c.args.memory.now)) h i)
