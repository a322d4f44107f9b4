-- Rows of numbers, put one after the other.
use Rattle.std.proofs.Common.{◌≡◌, ℕ, zero, suc, ◌+◌, ◌-◌, ◌*◌, ◌<◌, ◌≤◌, List, [], ◌∷◌, ◌++◌, length, get_or, take, vec_items, vec_len, Vec, sym, ap, ◌∙◌, subst, suc-mul, zero-mul, arith, length-append, below_more}
use Rattle.std.proofs.lemmas.List.{get_or_append_left, get_or-append-add, get_or-map, length-map, take_more, take_all, flat_map_more, nil_from_length}
use Rattle.std.specs.List.{flat_map}
use Rattle.machines.specs.Tables.{next}
use Rattle.answers.specs.Made.{lists, AllLead}

abbrev pub all_of : List (List ℕ) → List ℕ
all_of rows = flat_map (λ r. r) rows

module _ {Z : Type 0} (vs : List (Vec ℕ Z)) where
  pub length-lists : length (lists vs) ≡ length vs
  length-lists = length-map vs vec_items

  -- What was read at i is the list at i.
  pub list_read : (i : ℕ) (x : Vec ℕ Z) → i < length vs → x ≡ get_or vs i x → vec_items x ≡ get_or (lists vs) i []
  list_read i x h e = ap vec_items e ∙ sym (get_or-map vec_items vs i x [] h)

  pub width_read : (i : ℕ) (x : Vec ℕ Z) → i < length vs → x ≡ get_or vs i x → vec_len x ≡ length (get_or (lists vs) i [])
  width_read i x h e = x.ok.0 ∙ ap length (list_read i x h e)

  pub no_lists : length vs ≤ 0 → lists vs ≡ []
  no_lists h = nil_from_length (lists vs) (omega (arith, length-lists, h))

-- The first i rows have the width, lead to rows, and are the cells.
pub record Gathered (rows : List (List ℕ)) (width i : ℕ) (cells : List ℕ) : Type 0 where
  pub even : (j : ℕ) → j < i → length (get_or rows j []) ≡ width
  pub lead : (j : ℕ) → j < i → AllLead (get_or rows j []) (width - 1) (length rows)
  pub cells_are : cells ≡ all_of (take i rows)

pub gathered_more : (rows : List (List ℕ)) (width i : ℕ) (cells more : List ℕ) → Gathered rows width i cells → i < length rows → length (get_or rows i []) ≡ width → AllLead (get_or rows i []) (width - 1) (length rows) → more ≡ cells ++ get_or rows i [] → Gathered rows width (i + 1) more
gathered_more rows width i cells more g h e l m = record {
  even = below_more (λ j. length (get_or rows j []) ≡ width) i g.even e;
  lead = below_more (λ j. AllLead (get_or rows j []) (width - 1) (length rows)) i g.lead l;
  cells_are = m ∙ (ap (λ z. z ++ get_or rows i []) g.cells_are ∙ (flat_map_more (λ r. r) [] (take i rows) (get_or rows i []) ∙ sym (ap all_of (take_more rows i [] h))));
}

-- Of rows of one width, the number at column y of row i stands at i * width + y.
pub at_column : (rows : List (List ℕ)) (c : ℕ) → ((j : ℕ) → j < length rows → length (get_or rows j []) ≡ c) → (i y : ℕ) → i < length rows → y < c → get_or (all_of rows) (i * c + y) 0 ≡ get_or (get_or rows i []) y 0
at_column [] c e i y hi hy = absurd (omega (arith, hi))
at_column (r ∷ rows) c e zero y hi hy =
    let w : y < length r = omega (arith, e 0 (omega arith)) in
    ap (λ z. get_or (r ++ all_of rows) z 0) (omega (arith, zero-mul c)) ∙ get_or_append_left r (all_of rows) 0 y w
at_column (r ∷ rows) c e (suc i) y hi hy =
    ap (λ z. get_or (r ++ all_of rows) z 0) (omega (arith, suc-mul i c, e 0 (omega arith)))
    ∙ (get_or-append-add r (all_of rows) (i * c + y) 0 ∙ at_column rows c (λ j h. e (suc j) (omega (arith, h))) i y (omega (arith, hi)) hy)

pub length-all : (rows : List (List ℕ)) (c : ℕ) → ((j : ℕ) → j < length rows → length (get_or rows j []) ≡ c) → length (all_of rows) ≡ length rows * c
length-all [] c e = sym (zero-mul c)
length-all (r ∷ rows) c e = omega (arith, length-append r (all_of rows), length-all rows c (λ j h. e (suc j) (omega (arith, h))), e 0 (omega arith), suc-mul (length rows) c)

module _ (rows : List (List ℕ)) (width i : ℕ) (cells : List ℕ) (g : Gathered rows width i cells) (all : i ≡ length rows) (wide : 2 ≤ width) where
  pub gathered_all : cells ≡ all_of rows
  gathered_all = g.cells_are ∙ ap all_of (take_all i rows (omega arith))

  even_rows : (j : ℕ) → j < length rows → length (get_or rows j []) ≡ width
  even_rows j h = g.even j (omega (arith, h))

  pub gathered_long : length cells ≡ length rows * (width - 1 + 1)
  gathered_long = ap length gathered_all ∙ (length-all rows width even_rows ∙ ap (λ z. length rows * z) (omega arith))

  pub gathered_inside : (j x : ℕ) → j < length rows → x < width - 1 → next (width - 1) cells j x < length rows
  gathered_inside j x hj hx =
      let w : width ≡ width - 1 + 1 = omega arith in
      let at = at_column rows width even_rows j (1 + x) hj (omega arith) in
      subst (λ z. z < length rows) (sym (ap (λ z. get_or z (j * (width - 1 + 1) + (1 + x)) 0) gathered_all ∙ (ap (λ z. get_or (all_of rows) (j * z + (1 + x)) 0) (sym w) ∙ at))) (g.lead j (omega (arith, hj)) x hx)
