-- What filling_stands ensures, from the lemmas.
use Rattle.model.proofs.filling_stands.Goals as goal
use Rattle.model.proofs.Filling.{begins, asks_a_cell, hears_a_cell, fills_a_cell, adds_a_row, finds_too_many, sets_successors}

pub returns : goal.returns
returns c =
    record {
      begins = begins;
      asks = asks_a_cell;
      hears = hears_a_cell;
      fills = fills_a_cell;
      adds = adds_a_row;
      too_many = finds_too_many;
      successors = sets_successors;
    }
