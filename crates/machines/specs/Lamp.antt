-- A worked example: a box of two keys, where key 0 does nothing and key 1 changes a lamp that shows 0 or 9.
use Rattle.std.specs.Prelude.{◌≡◌, List, [], ◌∷◌}
use Rattle.machines.specs.Tables.{Table, Sound, shows}
use Rattle.machines.specs.Answers.{Told, Said, ToldApart}

-- The table of the lamp: two rows.
abbrev pub lamp : Table
lamp = 0 ∷ 0 ∷ 1 ∷ 9 ∷ 1 ∷ 0 ∷ []

-- Two answers: before any key 0, after key 1 it shows 9.
abbrev pub lamp_answers : List Told
lamp_answers = record { word = []; shown = 0 } ∷ record { word = 1 ∷ []; shown = 9 } ∷ []

-- After 1 0 the lamp is on, after 1 0 1 it is off, and the two answers tell the empty word and 1 apart.
pub record LampWorks : Type 0 where
  pub sound : Sound 2 2 lamp
  pub lit : shows 2 lamp (1 ∷ 0 ∷ []) ≡ 9
  pub dark : shows 2 lamp (1 ∷ 0 ∷ 1 ∷ []) ≡ 0
  pub apart : ToldApart (Said lamp_answers) [] (1 ∷ [])
