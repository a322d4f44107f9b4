use Rattle.std.proofs.Common.{◌≡◌, ◌<◌, List, [], ◌∷◌, ◌++◌, reverse, vec_items, vec_len}
use Rattle.machines.specs.Words.{Word}
use Rattle.differences.specs.Searches.{Linked, word_at}
use Rattle.differences.proofs.search.Search.word_to.Given as goal

abbrev pub invariant-loop-step : goal.invariant-loop-step
invariant-loop-step l = record {
  there : l.place < vec_len l.self.visits;
  read : (ws : List Word) → Linked (vec_items l.self.visits) ws → word_at ws l.place ++ reverse (vec_items l.word) ≡ word_at ws l.at ++ (l.key ∷ []);
}

abbrev pub decreases-loop-step : goal.decreases-loop-step
decreases-loop-step l = l.place
