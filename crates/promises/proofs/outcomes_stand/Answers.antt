-- What outcomes_stand ensures, from the lemmas.
use Rattle.promises.proofs.outcomes_stand.Goals as goal
use Rattle.promises.proofs.Kept.{ask_kept, table_kept, table_again, larger_kept, broken_kept}

pub returns : goal.returns
returns c = record { ask = ask_kept; table = table_kept; again = table_again; larger = larger_kept; broken = broken_kept }
