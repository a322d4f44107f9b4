-- The areas of a memory: in which order they stand, and how long each is.
use Rattle.std.specs.Prelude.{ℕ, ◌+◌, ◌-◌, ◌*◌, ◌≤◌, List, [], ◌∷◌, take, drop, sum_by}
use Rattle.areas.specs.declared.area.Area.{Area}
use Rattle.areas.specs.declared.area.Area.TheVariants.{Header, Edges, Access, Sizes, Suffixes, Cells, Successors, Answers, Letters}

-- What a memory is laid out for: so many keys, at most so many states; and its length.
pub record Dims : Type 0 where
  pub keys : ℕ
  pub most : ℕ
  pub length : ℕ

-- These three numbers.
abbrev pub sized : ℕ → ℕ → ℕ → Dims
sized keys most length = record { keys = keys; most = most; length = length }

-- The empty word, and each state's word with each key.
abbrev pub edge_count : ℕ → ℕ → ℕ
edge_count keys most = 1 + most * keys

-- A cell for each edge and suffix.
abbrev pub cell_count : ℕ → ℕ → ℕ
cell_count keys most = edge_count keys most * most

-- How many answers there is room for.
abbrev pub answer_count : ℕ → ℕ → ℕ
answer_count keys most = cell_count keys most + 65 * most

-- The areas, in their order.
abbrev pub order : List Area
order = Header ∷ Edges ∷ Access ∷ Sizes ∷ Suffixes ∷ Cells ∷ Successors ∷ Answers ∷ Letters ∷ []

-- The place of an area in this order.
abbrev pub place : Area → ℕ
place Header = 0
place Edges = 1
place Access = 2
place Sizes = 3
place Suffixes = 4
place Cells = 5
place Successors = 6
place Answers = 7
place Letters = 8

-- How long an area is, if the letters have so many words.
abbrev pub long : Dims → ℕ → Area → ℕ
long d rest Header = 64
long d rest Edges = d.most
long d rest Access = d.most * d.most
long d rest Sizes = d.most
long d rest Suffixes = 4 * d.most
long d rest Cells = cell_count d.keys d.most
long d rest Successors = edge_count d.keys d.most
long d rest Answers = 8 * answer_count d.keys d.most
long d rest Letters = rest

-- Where an area begins: behind all areas before it.
unfoldable pub base_of : Dims → Area → ℕ
base_of d a = sum_by (long d 0) (take (place a) order)

-- How long an area is: the letters have the rest of the memory.
unfoldable pub size_of : Dims → Area → ℕ
size_of d a = long d (d.length - base_of d Letters) a

-- What an area holds.
unfoldable pub area_of : List ℕ → Dims → Area → List ℕ
area_of w d a = take (size_of d a) (drop (base_of d a) w)

-- 1 to 64 keys, 1 to 1,024 states, and a memory that has all areas before the letters.
pub record Limits (d : Dims) : Type 0 where
  pub some_keys : 1 ≤ d.keys
  pub few_keys : d.keys ≤ 64
  pub some_states : 1 ≤ d.most
  pub few_states : d.most ≤ 1024
  pub fits : base_of d Letters ≤ d.length
