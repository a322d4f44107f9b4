-- What pages_stand ensures, from the lemmas.
use Rattle.model.proofs.pages_stand.Goals as goal
use Rattle.model.proofs.Paging.{
  model_begins,
  model_asks_cell,
  model_hears_cell,
  model_fills_cell,
  model_adds_row,
  model_too_many,
  model_sets_successors,
  model_shows,
  model_starts_bisection,
  model_refutes_anew,
  model_refutes_told,
  model_asks_middle,
  model_hears_middle,
  model_narrows,
  model_ends_bisection,
  model_ends_many,
}

pub returns : goal.returns
returns c =
    record {
      begins = model_begins;
      asks_cell = model_asks_cell;
      hears_cell = model_hears_cell;
      fills_cell = model_fills_cell;
      adds_row = model_adds_row;
      too_many = model_too_many;
      successors = model_sets_successors;
      shows = model_shows;
      starts = model_starts_bisection;
      anew = model_refutes_anew;
      told = model_refutes_told;
      asks_middle = model_asks_middle;
      hears_middle = model_hears_middle;
      narrows = model_narrows;
      ends = model_ends_bisection;
      ends_many = model_ends_many;
    }
