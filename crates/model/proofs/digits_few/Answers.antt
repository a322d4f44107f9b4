-- What digits_few ensures, from the lemmas.
use Rattle.model.proofs.digits_few.Goals as goal
use Rattle.model.proofs.Digits.{digits, few_bits, fits}

pub returns : goal.returns
returns c = record { digits = digits; few_bits = few_bits; fits = fits }
