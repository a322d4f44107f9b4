-- The entries of the table that is read off.
use Rattle.std.proofs.Common.{◌≡◌, ℕ, ◌+◌, ◌*◌, ◌/◌, ◌%◌, ◌<◌, min, List, ◌++◌, length, get_or, take, drop, set, Option, sym, ap, ◌∙◌, subst, div-add-mod', arith}
use Rattle.std.proofs.lemmas.Nat.{div_below, mod_below}
use Rattle.areas.specs.Layout.{Dims, Limits}
use Rattle.machines.specs.Tables.{Table}
use Rattle.model.specs.Observations.{rows, edge_of, seen, one_less, table_entry, table_of}
use Rattle.model.proofs.Hypotheses.{length-table, table_at}
use Rattle.store.specs.Decoding.{model_of}
use Rattle.moves.specs.Holding.{Holds}
use Rattle.moves.specs.Observed.{observed_at, seen_value, SeenIn}
use Rattle.closing.proofs.Held.{holds_cells_named, rows_few}
use Rattle.spelling.proofs.Letters.{write_more, write_all}
use Rattle.writing.specs.Wants.{TableLaid}

-- What a row shows is read of its cell.
pub row_read : (w : List ℕ) (d : Dims) (row edge place : ℕ) (r : Option ℕ) → Limits d → Holds w d → place ≡ 0 → (row < rows (observed_at w d) → edge ≡ edge_of (observed_at w d) row) → SeenIn w d edge 0 r → row < rows (observed_at w d) → one_less (seen_value r) ≡ table_entry d.keys d.most (observed_at w d) (model_of w d).successors row place
row_read w d row edge place r l h z e s g =
    ap one_less (s (holds_cells_named w d l h edge 0) ∙ ap (λ (x : ℕ). seen d.most (observed_at w d) x 0) (e g))
    ∙ ap (table_entry d.keys d.most (observed_at w d) (model_of w d).successors row) (sym z)

-- The table that a memory is read as.
abbrev pub table_read : List ℕ → Dims → Table
table_read w d = table_of d.keys d.most (observed_at w d) (model_of w d).successors

-- What stands at a place, by its row and its place in the row.
pub place_read : (w : List ℕ) (d : Dims) (p : ℕ) → p < rows (observed_at w d) * (d.keys + 1) → (p / (d.keys + 1) < rows (observed_at w d)) × (table_entry d.keys d.most (observed_at w d) (model_of w d).successors (p / (d.keys + 1)) (p % (d.keys + 1)) ≡ get_or (table_read w d) p 0)
place_read w d p h =
    let k = d.keys in
    let row = div_below p (k + 1) (rows (observed_at w d)) (omega arith) h in (
      row,
      sym (table_at k d.most (observed_at w d) (model_of w d).successors (p / (k + 1)) (p % (k + 1)) row (mod_below p (k + 1) (omega arith)))
          ∙ ap (λ (z : ℕ). get_or (table_read w d) z 0) (div-add-mod' p (k + 1)),
    )

-- One entry more, where k is the number of keys.
pub entry_more : (w : List ℕ) (d : Dims) (k : ℕ) (part : List ℕ) (p x : ℕ) → k ≡ d.keys → p < rows (observed_at w d) * (k + 1) → p < length part → (p / (k + 1) < rows (observed_at w d) → x ≡ table_entry d.keys d.most (observed_at w d) (model_of w d).successors (p / (k + 1)) (p % (k + 1))) → take p part ≡ take p (table_read w d) → take (p + 1) (set part p x) ≡ take (p + 1) (table_read w d)
entry_more w d k part p x q h l e before =
    let h' : p < rows (observed_at w d) * (d.keys + 1) = subst (λ (z : ℕ). p < rows (observed_at w d) * (z + 1)) q h in
    let e' = subst (λ (z : ℕ). (p / (z + 1) < rows (observed_at w d) → x ≡ table_entry d.keys d.most (observed_at w d) (model_of w d).successors (p / (z + 1)) (p % (z + 1)))) q e in
    let place = place_read w d p h' in
    write_more (table_read w d) part p x (omega (arith, h', length-table d.keys d.most (observed_at w d) (model_of w d).successors)) l (e' place.0 ∙ place.1) before

-- As many entries as are counted.
pub entries_counted : (w : List ℕ) (d : Dims) (k r count most : ℕ) → Holds w d → k ≡ d.keys → r ≡ min count most → count ≡ rows (observed_at w d) → most ≡ d.most → (r ≡ rows (observed_at w d)) × (r * (k + 1) ≡ rows (observed_at w d) * (d.keys + 1))
entries_counted w d k r count most h e f g m =
    let all : r ≡ rows (observed_at w d) = omega (arith, rows_few w d h) in
    (all, λ i. all i * (e i + 1))

-- The whole table.
pub table_laid : (w : List ℕ) (d : Dims) (o part : List ℕ) (p n : ℕ) → n ≡ rows (observed_at w d) * (d.keys + 1) → p ≡ n → length part ≡ n → take p part ≡ take p (table_read w d) → TableLaid w d o (part ++ drop n o)
table_laid w d o part p n e ep el all =
    let long = length-table d.keys d.most (observed_at w d) (model_of w d).successors in
    let written = write_all (table_read w d) o part p n (e ∙ sym long) (ep ∙ e ∙ sym long) (el ∙ e ∙ sym long) all in
    record {
      front = subst (λ (z : ℕ). take z (part ++ drop n o) ≡ table_read w d) long written.first;
      behind = subst (λ (z : ℕ). drop z (part ++ drop n o) ≡ drop z o) long written.behind;
    }
