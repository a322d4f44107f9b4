use Rattle.areas.proofs.Sums.{layout_fits}
use Rattle.areas.proofs.shape.layout.layout_fits.Goals as goal

pub returns : goal.returns
returns c = layout_fits
