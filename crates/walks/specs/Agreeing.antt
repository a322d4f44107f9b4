-- The first answer with which a hypothesis doesn't agree.
use Rattle.std.specs.Prelude.{◌≡◌, ℕ, suc, ◌<◌, List, Some, None, Option}
use Rattle.areas.specs.Layout.{Dims}
use Rattle.model.specs.Observations.{count, edge_of, seen, shown_at, end_row, Closed, Agreed}
use Rattle.model.specs.Moves.{WrongAt}
use Rattle.store.specs.Decoding.{model_of}
use Rattle.moves.specs.Holding.{Holds}
use Rattle.moves.specs.Observed.{observed_at}

-- What is seen where the word of answer c leads is what the answer showed.
abbrev pub RightAt : List ℕ → Dims → ℕ → Type 0
RightAt w d c = seen d.most (observed_at w d) (edge_of (observed_at w d) (end_row d.keys (observed_at w d) (model_of w d).successors c)) 0 ≡ suc (shown_at (observed_at w d) c)

-- The hypothesis doesn't agree with answer z, and agrees with each earlier one.
pub record WrongFirst (w : List ℕ) (d : Dims) (z : ℕ) : Type 0 where
  pub answer_in : z < count (observed_at w d)
  pub wrong : WrongAt d.keys d.most (observed_at w d) (model_of w d).successors z
  pub earlier : (c : ℕ) → c < z → RightAt w d c

-- The first answer with which the hypothesis doesn't agree; none where it agrees with all.
abbrev pub FirstWrong : List ℕ → Dims → Option ℕ → Type 0
FirstWrong w d None = Holds w d → Closed d.keys d.most (observed_at w d) (model_of w d).successors → Agreed d.keys d.most (observed_at w d) (model_of w d).successors
FirstWrong w d (Some z) = Holds w d → Closed d.keys d.most (observed_at w d) (model_of w d).successors → WrongFirst w d z
