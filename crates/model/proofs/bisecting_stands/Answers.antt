-- What bisecting_stands ensures, from the lemmas.
use Rattle.model.proofs.bisecting_stands.Goals as goal
use Rattle.model.proofs.Bisecting.{starts_a_bisection, asks_a_middle, hears_a_middle, narrows}
use Rattle.model.proofs.Splitting.{ends_a_bisection, ends_too_many}

pub returns : goal.returns
returns c = record { starts = starts_a_bisection; asks = asks_a_middle; hears = hears_a_middle; narrows = narrows; ends = ends_a_bisection; too_many = ends_too_many }
