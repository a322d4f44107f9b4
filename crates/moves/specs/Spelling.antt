-- The access words of rows and the words of edges, as they are read.
use Rattle.std.specs.Prelude.{◌≡◌, ℕ, ◌<◌, ◌≤◌, List, length, take, slice_index}
use Rattle.areas.specs.Layout.{Dims}
use Rattle.model.specs.Observations.{rows, edges_used, access_word, edge_word}
use Rattle.moves.specs.Observed.{observed_at}

-- Row j is there, there are not too many rows, and its access word is shorter than its room.
pub record RowIn (w : List ℕ) (d : Dims) (j : ℕ) : Type 0 where
  pub long : length w ≡ d.length
  pub few : rows (observed_at w d) ≤ d.most
  pub there : j < rows (observed_at w d)
  pub short : length (access_word (observed_at w d) j) < d.most

-- Letter i of the access word of row j, if it has so many.
abbrev pub AccessLetter : List ℕ → Dims → ℕ → ℕ → ℕ → Type 0
AccessLetter w d j i r = RowIn w d j → i < length (access_word (observed_at w d) j) → r ≡ slice_index (access_word (observed_at w d) j) i

-- The first r letters of out are the access word of row j, if out has room for as many letters as there may be states.
abbrev pub AccessWritten : List ℕ → Dims → ℕ → List ℕ → ℕ → Type 0
AccessWritten w d j out r = RowIn w d j → d.most ≤ length out → take r out ≡ access_word (observed_at w d) j

-- Edge u is in use, there are not too many rows, and each access word is shorter than its room.
pub record EdgeIn (w : List ℕ) (d : Dims) (u : ℕ) : Type 0 where
  pub long : length w ≡ d.length
  pub few : rows (observed_at w d) ≤ d.most
  pub there : u < edges_used d.keys (observed_at w d)
  pub short : (j : ℕ) → j < rows (observed_at w d) → length (access_word (observed_at w d) j) < d.most

-- The first r letters of out are the word of edge u, if out has room for as many letters as there may be states.
abbrev pub EdgeWritten : List ℕ → Dims → ℕ → List ℕ → ℕ → Type 0
EdgeWritten w d u out r = EdgeIn w d u → d.most ≤ length out → take r out ≡ edge_word d.keys (observed_at w d) u
