-- What a write makes of a memory's model.
use Rattle.std.specs.Prelude.{◌≡◌, ℕ, ◌≤◌, List, length}
use Rattle.areas.specs.declared.area.Area.TheVariants.{Header, Letters}
use Rattle.areas.specs.Words.{wide}
use Rattle.areas.specs.Layout.{Dims, size_of, area_of}
use Rattle.model.specs.Models.{Model}
use Rattle.store.specs.Decoding.{letters_word, model_of}
use Rattle.store.specs.Reading.{MovesTo}

-- The letters of the log fit their area.
abbrev pub LogFits : List ℕ → Dims → Type 0
LogFits w d = wide (area_of w d Header) letters_word ≤ size_of d Letters

-- A write leaves a memory whose model is m, and a log that still fits.
pub record Makes (w w' : List ℕ) (d : Dims) (m : Model) : Type 0 where
  pub moves : MovesTo w w' d m
  pub fits : LogFits w d → LogFits w' d

-- A write changes the model so.
abbrev pub MakesBy : List ℕ → List ℕ → Dims → (Model → Model) → Type 0
MakesBy w w' d change = Makes w w' d (change (model_of w d))

-- A write to a memory of the right length changes the model so.
abbrev pub ChangesBy : List ℕ → List ℕ → Dims → (Model → Model) → Type 0
ChangesBy w w' d change = length w ≡ d.length → MakesBy w w' d change
