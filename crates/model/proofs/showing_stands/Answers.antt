-- What showing_stands ensures, from the lemmas.
use Rattle.model.proofs.showing_stands.Goals as goal
use Rattle.model.proofs.Refuting.{shows_a_table, refutes_anew, refutes_told, edges_apart}

pub returns : goal.returns
returns c = record { shows = shows_a_table; anew = refutes_anew; told = refutes_told; edges = edges_apart }
