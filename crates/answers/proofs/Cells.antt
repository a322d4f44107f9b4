-- Where a table's numbers stand, and a walk along a word one key at a time.
use Rattle.std.proofs.Common.{◌≡◌, ℕ, ◌+◌, ◌<◌, List, [], ◌∷◌, ◌++◌, map, length, get_or, take, drop, Option, Some, None, Bor, sym, refl, ap, ◌∙◌, subst, inl, inr, arith}
use denote.Param.Members.{Mut}
use Rattle.std.specs.declared.ops.ControlFlow.{ControlFlow}
use Rattle.std.specs.ControlFlow.{continue_value}
use Rattle.std.specs.Fn.{Called}
use Rattle.std.specs.Iterator.{TryFoldTurn, TryFoldsItems}
use Rattle.std.proofs.lemmas.Fn.{chained_keeps}
use Rattle.std.proofs.lemmas.Iterator.{YieldsList}
use Rattle.std.proofs.lemmas.Iterator.Consumers.{YieldsList-so_far, YieldsList-turn, YieldsList-end}
use Rattle.std.proofs.lemmas.List.{get_or_read, drop_more, take-append-drop, map_push, length-map}
use Rattle.machines.specs.Words.{Word, Keys}
use Rattle.machines.specs.Tables.{Sound, next}
use Rattle.machines.proofs.Walks.{keys-append, walk-append}
use Rattle.answers.specs.declared.table.Row.{Row}
use Rattle.answers.specs.declared.table.Table.{Table}
use Rattle.answers.specs.Values.{keys_of, rows_of, cells_of, Next, Lead}

-- A table is sound.
pub sound_of : (t : Table) → Sound (keys_of t) (rows_of t) (cells_of t)
sound_of t = record { some_rows = t.some_rows; long = t.long; inside = t.inside }

-- A word with one key more behind it leads on along that key.
lead_more : (t : Table) (w : Word) (r s : Row) (x : ℕ) → Lead t w (Some r) → Next t r.0 x (Some s) → Lead t (w ++ (x ∷ [])) (Some s)
lead_more t w r s x h n = (
  (keys-append (keys_of t) w (x ∷ [])).1 (h.0, (n.1, tt)),
  subst (λ z. z < rows_of t) (sym n.2) (t.inside r.0 x n.0 n.1),
  n.2 ∙ (ap (λ z. next (keys_of t) (cells_of t) z x) h.2 ∙ sym (walk-append (keys_of t) (cells_of t) 0 w (x ∷ []))),
)

-- A word is not of keys if after its first letters comes one that is none.
lead_stops : (t : Table) (w front : Word) (r : Row) (x : ℕ) → front ≡ take (length front) w → Lead t front (Some r) → (length front < length w) × (x ≡ get_or w (length front) 0) → Next t r.0 x None → Lead t w None
lead_stops t w front r x e h at n keys =
    let whole : front ++ (get_or w (length front) 0 ∷ drop (length front + 1) w) ≡ w = ap (λ z. z ++ (get_or w (length front) 0 ∷ drop (length front + 1) w)) e ∙ (ap (λ z. take (length front) w ++ z) (sym (drop_more w (length front) 0 at.0)) ∙ take-append-drop (length front) w) in
    let key : get_or w (length front) 0 < keys_of t = ((keys-append (keys_of t) front (get_or w (length front) 0 ∷ drop (length front + 1) w)).0 (subst (Keys (keys_of t)) (sym whole) keys)).1.0 in
    elim n [ inl beyond ↦ omega (arith, beyond, h.1) | inr other ↦ omega (arith, other, key, at.1) ]

-- Steps along the keys of a word, for as long as each is a key, lead where the word leads.
module _ {S F : Type 0} {steps : S → Option (Bor ℕ) → S → Type 0} (E : Type 0) (t : Table) (w : Word) (g : Mut F (Row × (Bor ℕ × Unit {0})) (Option Row)) (s : S) (f : F)
    (road : YieldsList steps (λ y. y.now) s w) (call : (a : Row) (x : Bor ℕ) (v : Option Row) (q : F) → Called g f (a, (x, tt)) v q → (q ≡ f) × Next t a.0 x.now v) where
  abbrev goes : Option Row → ControlFlow E Row → Type 0
  goes v b = v ≡ continue_value b

  abbrev Sofar : List (Bor ℕ) → F × Row → Type 0
  Sofar xs q = (q.0 ≡ f) × Lead t (map (λ (y : Bor ℕ). y.now) xs) (Some q.1)

  more : (xs : List (Bor ℕ)) (q : F × Row) (x : Bor ℕ) (v : F × Row) → Sofar xs q → TryFoldTurn g goes q x v → Sofar (xs ++ (x ∷ [])) v
  more xs q x v sofar turn =
      let said = call q.1 x turn.0 v.0 (subst (λ z. Called g z (q.1, (x, tt)) turn.0 v.0) sofar.0 turn.1) in (
        said.0,
        subst (λ z. Lead t z (Some v.1)) (sym (map_push (λ (y : Bor ℕ). y.now) xs x)) (lead_more t (map (λ (y : Bor ℕ). y.now) xs) q.1 v.1 x.now sofar.1 (subst (Next t q.1.0 x.now) turn.2 said.1)),
      )

  pub lead_folds : (r : Option Row) (u : S) → TryFoldsItems steps g goes (λ _ r. r ≡ None) s f (record { 0 = 0 }) r u → Lead t w r
  lead_folds r u (xs, None, q, a, then, folds, end) =
      let sofar = chained_keeps (TryFoldTurn g goes) Sofar more xs (f, record { 0 = 0 }) (q, a) (refl, (tt, t.some_rows, refl)) folds in
      subst (Lead t w) (sym end) (subst (λ z. Lead t z (Some a)) (YieldsList-end road xs then.0 then.1 None u refl then.2).0 sofar.1)
  lead_folds r u (xs, Some x, q, a, then, folds, end) =
      let sofar = chained_keeps (TryFoldTurn g goes) Sofar more xs (f, record { 0 = 0 }) (q, a) (refl, (tt, t.some_rows, refl)) folds in
      let n = length-map xs (λ (y : Bor ℕ). y.now) in
      let at = YieldsList-turn road xs then.0 then.1 (Some x) u x refl then.2 in
      let said = call a x end.0 end.1 (subst (λ z. Called g z (a, (x, tt)) end.0 end.1) sofar.0 end.3) in
      let none : Next t a.0 x.now None = subst (Next t a.0 x.now) end.4 said.1 in
      subst (Lead t w) (sym end.5) (lead_stops t w (map (λ (y : Bor ℕ). y.now) xs) a x.now (YieldsList-so_far road xs then.0 then.1 ∙ ap (λ z. take z w) (sym n)) sofar.1 (rw n (at.0, get_or_read w (length xs) x.now at.0 at.1 0)) none)
