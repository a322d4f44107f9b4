-- Models that differ in one thing.
use Rattle.std.specs.Prelude.{ℕ, List}
use Rattle.model.specs.Pages.{Page}
use Rattle.model.specs.Models.{Model, with_page}

-- A model with another page.
abbrev pub on_page : Model → Page → Model
on_page m p = with_page m p m.successors m.bisected m.refutes m.last m.phase

-- A model with other successors.
abbrev pub leading_by : Model → List ℕ → Model
leading_by m successors = with_page m m.page successors m.bisected m.refutes m.last m.phase

-- A model with another number of answers got in searches.
abbrev pub bisected_by : Model → ℕ → Model
bisected_by m n = with_page m m.page m.successors n m.refutes m.last m.phase

-- A model with another number of refutations.
abbrev pub refuted_times : Model → ℕ → Model
refuted_times m n = with_page m m.page m.successors m.bisected n m.last m.phase

-- A model whose last table had so many rows.
abbrev pub last_shown : Model → ℕ → Model
last_shown m n = with_page m m.page m.successors m.bisected m.refutes n m.phase
