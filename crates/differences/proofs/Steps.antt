-- The steps of a search.
use Rattle.std.proofs.Common.{◌≡◌, ℕ, ◌+◌, ◌*◌, ◌<◌, ◌≤◌, true, false, cond, List, [], ◌∷◌, ◌++◌, length, get_or, vec_items, Some, sym, refl, ap, ◌∙◌, subst, inl, inr, arith}
use Rattle.std.proofs.lemmas.List.{length_push, get_or_read_under}
use Rattle.std.proofs.lemmas.Bool.{cases_Bool}
use Rattle.machines.specs.Words.{Word, Keys}
use Rattle.machines.specs.Tables.{Sound, row_shows, next, walk, shows, Same}
use Rattle.machines.proofs.Walks.{walk-append, walk_first, keys-append}
use Rattle.answers.specs.Values.{keys_of, rows_of, cells_of}
use Rattle.answers.proofs.Cells.{sound_of}
use Rattle.differences.specs.declared.product.Pair.{Pair}
use Rattle.differences.specs.declared.product.Product.{Product}
use Rattle.differences.specs.declared.search.Visit.{Visit}
use Rattle.differences.specs.declared.search.Search.{Search}
use Rattle.differences.specs.Differences.{FirstDifference}
use Rattle.differences.specs.Pairs.{Inside, rows_in, same_rows}
use Rattle.differences.specs.Searches.{begin_visit, visit_at, word_at, rows_at, has_visited, Linked, Paired, Explored, Searched, ComeTo, GoingOn, EndsWith, Visited}
use Rattle.differences.proofs.Covered.{all_same, first_there}
use Rattle.differences.proofs.Pushed.{explored_begin, explored_known, explored_new, explored_next}
use Rattle.differences.proofs.Reached.{few_words, reached_none, reached_known, reached_new}
use Rattle.differences.proofs.Visits.{linked_begin, linked_empty, paired_begin, linked_new, paired_new}

-- A search begins at the first rows.
pub begun :
    (g : Product) (s s' : Search) → s'.product ≡ g → shows (keys_of g.one.now) (cells_of g.one.now) [] ≡ shows (keys_of g.one.now) (cells_of g.other.now) [] → vec_items s.visits ≡ []
    → ((x : ℕ × ℕ) → has_visited s x ≡ false) → Visited begin_visit s s' → ComeTo s' 0 0
begun g s s' same alike none blank went =
    let k = keys_of g.one.now in
    let a = cells_of g.one.now in
    let b = cells_of g.other.now in
    let visits : vec_items s'.visits ≡ begin_visit ∷ [] = went.new (blank (0, 0)) ∙ ap (λ (z : List Visit). z ++ (begin_visit ∷ [])) none in
    subst (λ (z : Product). (ws : List Word) × Searched z.one.now z.other.now s' ws 0 0) (sym same) (
      [] ∷ [],
      record {
        linked = subst (λ z. Linked z ([] ∷ [])) (sym visits) linked_begin;
        paired = subst (λ z. Paired k a b z ([] ∷ [])) (sym visits) (paired_begin k a b);
        reached = reached_new k a b [] [] (has_visited s) (has_visited s') went.among (blank (0, 0)) (reached_none k a b (has_visited s) blank);
        explored = explored_begin k a b alike;
      },
    )

-- After the last key a search goes on to the next visit.
pub next_visit : (s : Search) (at x : ℕ) → x ≡ keys_of s.product.one.now → GoingOn s at x → ComeTo s (at + 1) 0
next_visit s at x last (place, (ws, d)) =
    let k = keys_of s.product.one.now in
    let a = cells_of s.product.one.now in
    let b = cells_of s.product.other.now in (
      ws,
      record {
        linked = d.linked;
        paired = d.paired;
        reached = d.reached;
        explored = explored_next k a b ws at (omega (arith, place, d.linked.long)) (subst (Explored k a b ws at) last d.explored);
      },
    )

-- No visit is left: the tables show the same.
pub found_none :
    (g : Product) (s : Search) (at x : ℕ) → s.product ≡ g → length (vec_items s.visits) ≤ at → ComeTo s at x
    → Same (keys_of g.one.now) (shows (keys_of g.one.now) (cells_of g.one.now)) (shows (keys_of g.one.now) (cells_of g.other.now))
found_none g s at x same h (ws, d) =
    subst (λ (z : Product). Same (keys_of z.one.now) (shows (keys_of z.one.now) (cells_of z.one.now)) (shows (keys_of z.one.now) (cells_of z.other.now))) same
    (all_same (keys_of s.product.one.now) (cells_of s.product.one.now) (cells_of s.product.other.now) ws at x (omega (arith, d.linked.some, d.linked.long)) (linked_empty d.linked) d.explored
    (omega (arith, h, d.linked.long)))

-- A visit that was read is the one at the place.
pub visit_read : (visits : List Visit) (p : ℕ) (v : Visit) → p < length visits → v ≡ get_or visits p v → v ≡ visit_at visits p
visit_read visits p v h e = get_or_read_under visits p (length visits) v begin_visit e h refl

-- The other table is sound for the keys of the one.
other_sound : (g : Product) → Sound (keys_of g.one.now) (rows_of g.other.now) (cells_of g.other.now)
other_sound g = subst (λ k. Sound k (rows_of g.other.now) (cells_of g.other.now)) (sym g.same_keys) (sound_of g.other.now)

-- There are no more visits than pairs.
pub few_visits : (g : Product) (s : Search) (at x : ℕ) → s.product ≡ g → ComeTo s at x → length (vec_items s.visits) ≤ rows_of g.one.now * rows_of g.other.now
few_visits g s at x same (ws, d) =
    let p = s.product in
    let k = keys_of p.one.now in
    let few = few_words k (cells_of p.one.now) (cells_of p.other.now) (rows_of p.one.now) (rows_of p.other.now) ws (has_visited s) (sound_of p.one.now) (other_sound p) d.explored.keys d.reached in
    subst (λ (z : Product). length (vec_items s.visits) ≤ rows_of z.one.now * rows_of z.other.now) same (omega (arith, d.linked.long, few))

-- The word that is read back at the end is the first after which the tables show different things.
pub found_some :
    (g : Product) (s : Search) (at x : ℕ) (w : Word) → s.product ≡ g → EndsWith s at x → ((ws : List Word) → Linked (vec_items s.visits) ws → w ≡ word_at ws at ++ (x ∷ []))
    → FirstDifference (keys_of g.one.now) (cells_of g.one.now) (cells_of g.other.now) w
found_some g s at x w same ends read =
    subst (λ (z : Product). FirstDifference (keys_of z.one.now) (cells_of z.one.now) (cells_of z.other.now) w) same
    (subst (FirstDifference (keys_of s.product.one.now) (cells_of s.product.one.now) (cells_of s.product.other.now)) (sym (read ends.1.0 ends.1.1)) ends.1.2)

-- A key leads from where a word leads to where the word with the key behind it leads.
step_leads : (k : ℕ) (t : List ℕ) (w : Word) (i x r : ℕ) → r ≡ next k t i x → i ≡ walk k t 0 w → r ≡ walk k t 0 (w ++ (x ∷ []))
step_leads k t w i x r e f = e ∙ (ap (λ (z : ℕ). next k t z x) f ∙ sym (walk-append k t 0 w (x ∷ [])))

-- The tables have the rows of the pair of the visit at the place, to which its word leads.
pub record Standing (s : Search) (ws : List Word) (at : ℕ) (p : Pair) : Type 0 where
  pub inside : Inside s.product.one.now s.product.other.now p
  pub one_is : p.one.0 ≡ walk (keys_of s.product.one.now) (cells_of s.product.one.now) 0 (word_at ws at)
  pub other_is : p.other.0 ≡ walk (keys_of s.product.one.now) (cells_of s.product.other.now) 0 (word_at ws at)

pub standing : {s : Search} {at x : ℕ} (v : Visit) (going : GoingOn s at x) → v ≡ get_or (vec_items s.visits) at v → Standing s going.1.0 at v.pair
standing {s = s} {at = at} v (place, (ws, d)) is =
    let g = s.product in
    let read = visit_read (vec_items s.visits) at v place is in
    let one_is = ap (λ (z : Visit). z.pair.one.0) read ∙ d.paired.one_is at place in
    let other_is = ap (λ (z : Visit). z.pair.other.0) read ∙ d.paired.other_is at place in
    let keys = d.explored.keys at (omega (arith, place, d.linked.long)) in
    record {
      inside = record {
        one_in = subst (λ i. i < rows_of g.one.now) (sym one_is) (walk_first (sound_of g.one.now) (word_at ws at) keys);
        other_in = subst (λ i. i < rows_of g.other.now) (sym other_is) (walk_first (other_sound g) (word_at ws at) keys);
      };
      one_is = one_is;
      other_is = other_is;
    }

-- Key x leads from the visit at the place to this pair: so the visit's word with the key behind it leads there.
pub record Leads (s : Search) (at x : ℕ) (p : Pair) : Type 0 where
  pub place : at < length (vec_items s.visits)
  pub ws : List Word
  pub sofar : Searched s.product.one.now s.product.other.now s ws at x
  pub key : x < keys_of s.product.one.now
  pub one_is : p.one.0 ≡ walk (keys_of s.product.one.now) (cells_of s.product.one.now) 0 (word_at ws at ++ (x ∷ []))
  pub other_is : p.other.0 ≡ walk (keys_of s.product.one.now) (cells_of s.product.other.now) 0 (word_at ws at ++ (x ∷ []))

pub leads :
    {s : Search} {at x : ℕ} (v : Visit) (p : Pair) → GoingOn s at x → x < keys_of s.product.one.now → v ≡ get_or (vec_items s.visits) at v
    → p.one.0 ≡ next (keys_of s.product.one.now) (cells_of s.product.one.now) v.pair.one.0 x
    → p.other.0 ≡ next (keys_of s.product.other.now) (cells_of s.product.other.now) v.pair.other.0 x → Leads s at x p
leads {s = s} {at = at} {x = x} v p going key is one_is other_is =
    let g = s.product in
    let k = keys_of g.one.now in
    let b = cells_of g.other.now in
    let ws = going.1.0 in
    let here = standing v going is in
    record {
      place = going.0;
      ws = ws;
      sofar = going.1.1;
      key = key;
      one_is = step_leads k (cells_of g.one.now) (word_at ws at) v.pair.one.0 x p.one.0 one_is here.one_is;
      other_is = step_leads k b (word_at ws at) v.pair.other.0 x p.other.0 (other_is ∙ ap (λ (k : ℕ). next k b v.pair.other.0 x) (sym g.same_keys)) here.other_is;
    }

module _ {s : Search} {at x : ℕ} {p : Pair} (led : Leads s at x p) where
  abbrev k : ℕ
  k = keys_of s.product.one.now

  abbrev a : List ℕ
  a = cells_of s.product.one.now

  abbrev b : List ℕ
  b = cells_of s.product.other.now

  abbrev m : ℕ
  m = rows_of s.product.one.now

  abbrev n : ℕ
  n = rows_of s.product.other.now

  -- The word of the visit at the place with the key behind it.
  abbrev on : Word
  on = word_at led.ws at ++ (x ∷ [])

  here : at < length led.ws
  here = omega (arith, led.place, led.sofar.linked.long)

  keys_on : Keys k on
  keys_on = (keys-append k (word_at led.ws at) (x ∷ [])).1 (led.sofar.explored.keys at here, (led.key, tt))

  shown_on : row_shows (keys_of s.product.other.now) b p.other.0 ≡ shows k b on
  shown_on = ap (λ (k : ℕ). row_shows k b p.other.0) (sym s.product.same_keys) ∙ ap (row_shows k b) led.other_is

  rows_on : rows_in p ≡ rows_at k a b on
  rows_on = ap (λ (z : ℕ). (z, p.other.0)) led.one_is ∙ ap (λ (z : ℕ). (walk k a 0 on, z)) led.other_is

  pub pair_inside : Inside s.product.one.now s.product.other.now p
  pair_inside = record {
    one_in = subst (λ z. z < m) (sym led.one_is) (walk_first (sound_of s.product.one.now) on keys_on);
    other_in = subst (λ z. z < n) (sym led.other_is) (walk_first (other_sound s.product) on keys_on);
  }

  -- Its rows show different things: the search ends.
  pub pair_differs : (row_shows k a p.one.0 ≡ row_shows (keys_of s.product.other.now) b p.other.0 → ⊥) → EndsWith s at x
  pair_differs differ = (
    led.place,
    (
      led.ws,
      led.sofar.linked,
      first_there k a b led.ws at x (omega (arith, led.sofar.linked.some, led.sofar.linked.long)) (linked_empty led.sofar.linked) led.sofar.explored here led.key
          (λ e. differ (ap (row_shows k a) led.one_is ∙ (e ∙ sym shown_on))),
    ),
  )

  -- They show the same, and it is visited: the search goes on to the next key.
  module _ (shown : row_shows k a p.one.0 ≡ row_shows (keys_of s.product.other.now) b p.other.0) (s' : Search) (went : Visited (record { pair = p; step = Some (record { from = at; key = x }) }) s s')
    where
      abbrev Went : Product → Type 0
      Went g = (at < length (vec_items s'.visits)) × ((ws : List Word) × Searched g.one.now g.other.now s' ws at (x + 1))

      pair_known : has_visited s (rows_in p) ≡ true → Went s.product
      pair_known known =
          let d = led.sofar in
          let ws = led.ws in
          let there = went.known known in
          let q = d.reached.only (rows_in p) known in
          let rows = q.2 ∙ rows_on in (
            omega (arith, led.place, ap length there),
            (
              ws,
              record {
                linked = subst (λ z. Linked z ws) (sym there) d.linked;
                paired = subst (λ z. Paired k a b z ws) (sym there) d.paired;
                reached = reached_known k a b ws (rows_in p) (has_visited s) (has_visited s') went.among known d.reached;
                explored = explored_known k a b ws at x d.explored here q.0 q.1 (ap (λ (z : ℕ × ℕ). z.0) rows) (ap (λ (z : ℕ × ℕ). z.1) rows);
              },
            ),
          )

      pair_new : has_visited s (rows_in p) ≡ false → Went s.product
      pair_new clear =
          let d = led.sofar in
          let ws = led.ws in
          let there = went.new clear in
          let visits = vec_items s.visits in
          let new : Visit = record { pair = p; step = Some (record { from = at; key = x }) } in
          let more = subst (λ (z : ℕ × ℕ). (y : ℕ × ℕ) → has_visited s' y ≡ cond (same_rows z y) true (has_visited s y)) rows_on went.among in (
            omega (arith, led.place, ap length there, length_push visits new),
            (
              ws ++ (on ∷ []),
              record {
                linked = subst (λ z. Linked z (ws ++ (on ∷ []))) (sym there) (linked_new visits ws new _ refl led.place d.linked);
                paired = subst (λ z. Paired k a b z (ws ++ (on ∷ []))) (sym there) (paired_new k a b visits ws new on d.linked.long led.one_is led.other_is d.paired);
                reached = reached_new k a b ws on (has_visited s) (has_visited s') more (subst (λ z. has_visited s z ≡ false) rows_on clear) d.reached;
                explored = explored_new k a b ws at x d.explored here led.key (sym (ap (row_shows k a) led.one_is) ∙ (shown ∙ shown_on));
              },
            ),
          )

      pub pair_visited : s'.product ≡ s.product → GoingOn s' at (x + 1)
      pair_visited same = subst Went (sym same) (elim (cases_Bool (has_visited s (rows_in p))) [ inl known ↦ pair_known known | inr clear ↦ pair_new clear ])
