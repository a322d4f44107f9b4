-- What the looks of a check say of an answer or a row.
use Rattle.std.proofs.Common.{◌≡◌, ℕ, ◌+◌, ◌*◌, ◌<◌, inl, inr, ap, arith, Bool, true, false, not, is_some, List, [], ◌++◌, Option, Some, None, Decides, MatchBool, sym, refl, ◌∙◌, subst, append-nil}
use Rattle.std.specs.Bool.{then_some}
use Rattle.std.proofs.lemmas.Bool.{false≢true}
use Rattle.machines.specs.Words.{Word, Keys}
use Rattle.machines.specs.Tables.{Table, next, walk}
use Rattle.machines.specs.Answers.{Told, ToldApart}
use Rattle.answers.specs.declared.apart.Apart.{Apart}
use Rattle.answers.specs.declared.table.Row.{Row}
use Rattle.answers.specs.declared.table.Key.{Key}
use Rattle.answers.specs.declared.table.Table.{Table as ValueTable}
use Rattle.answers.specs.Values.{keys_of, rows_of, cells_of, Next}
use Rattle.answers.proofs.Alike.{never_decides, holds_decides}
use Rattle.verdicts.specs.declared.words.WordFault.{WordFault}
use Rattle.verdicts.specs.declared.words.WordFault.TheVariants.{NotEmpty, OtherKeys, LeadsTo, NotTold}
use Rattle.verdicts.specs.Faults.{Consistent, Fit, FirstAnswer, IsWordFault, RowsApart, PairApart, ApartOrThere, EdgeApart}
use Rattle.verdicts.specs.Listings.{Checks, row_at, key_at, pair_at, edge_at}
use Rattle.verdicts.specs.Orders.{word_at, shown_at, FirstSaid, Other, Parts}
use Rattle.verdicts.proofs.Listed.{check_by}
use Rattle.verdicts.proofs.Places.{at_pair, from_pair, at_edge, from_edge}
use Rattle.verdicts.proofs.Quiet.{both_first_apart}

pub consistent_by : (answers : List Told) (i : ℕ) (w : Word) (o : Option ℕ) (b : Bool) → w ≡ word_at answers i → Other answers (w ++ []) (shown_at answers i) o → is_some o ≡ not b → Decides b (Consistent answers i)
consistent_by answers i w None true e h t = holds_decides (λ m s. h m (subst (λ z. FirstSaid answers z m) (sym (append-nil w ∙ e)) s))
consistent_by answers i w None false e h t = absurd (cc)
consistent_by answers i w (Some j) true e h t = absurd (cc)
consistent_by answers i w (Some j) false e h t = never_decides (λ says. h.2 (sym (says _ (j, h.0, h.1 ∙ (append-nil w ∙ e), refl, h.3))))

unfit : (k : ℕ) (t : Table) (answers : List Told) (i : ℕ) (w : Word) (f : WordFault) → IsWordFault k t answers i w (Some f) → Fit k t answers i w → ⊥
unfit k t answers i w NotEmpty h fit = h.1 (fit.empty h.0)
unfit k t answers i w OtherKeys h fit = h fit.keys
unfit k t answers i w (LeadsTo r) h fit = h.2 (sym h.1 ∙ fit.leads)
unfit k t answers i w NotTold h fit = h fit.told.0 fit.told.1

pub fit_by : (k : ℕ) (t : Table) (answers : List Told) (i : ℕ) (w v : Word) (o : Option WordFault) (b : Bool) → w ≡ v → IsWordFault k t answers i w o → is_some o ≡ not b → Decides b (Fit k t answers i v)
fit_by k t answers i w v None true e h s = holds_decides (subst (Fit k t answers i) e h)
fit_by k t answers i w v None false e h s = absurd (cc)
fit_by k t answers i w v (Some f) true e h s = absurd (cc)
fit_by k t answers i w v (Some f) false e h s = never_decides (λ g. unfit k t answers i w f h (subst (Fit k t answers i) (sym e) g))

renamed : {says : Word → ℕ → Type 0} (u v a b : Word) → u ≡ a → v ≡ b → ToldApart says u v → ToldApart says a b
renamed {says} u v a b e f t = subst (λ z. ToldApart says z b) e (subst (ToldApart says u) f t)

-- Whether two words are told apart, under other names.
pub apart_by : (answers : List Told) (u v a b : Word) (o : Option Apart) (r : Bool) → u ≡ a → v ≡ b → Parts answers u v o → r ≡ is_some o → Decides r (ToldApart (FirstSaid answers) a b)
apart_by answers u v a b None r e f h t = subst (λ z. Decides z (ToldApart (FirstSaid answers) a b)) (sym t) (never_decides (λ d. h (renamed a b u v (sym e) (sym f) d)))
apart_by answers u v a b (Some p) r e f h t = subst (λ z. Decides z (ToldApart (FirstSaid answers) a b)) (sym t) (holds_decides (renamed u v a b e f (both_first_apart answers u v p h)))

-- What is asked only where P holds, where P holds.
pub asked_by : {P Q : Type 0} (r : Bool) → P → Decides r Q → Decides r (P → Q)
asked_by r p d = (λ e _. d.0 e, λ f. d.1 (f p))

-- Where a table does not lead to a row, another is next.
pub not_there : (t : ValueTable) (row key other : ℕ) (o : Option Row) → row < rows_of t → key < keys_of t → Next t row key o → (o ≡ Some (row_at other) → ⊥) → other ≡ next (keys_of t) (cells_of t) row key → ⊥
not_there t row key other None hr hk h never e = elim h [ inl l ↦ omega (arith, l, hr) | inr l ↦ omega (arith, l, hk) ]
not_there t row key other (Some r) hr hk h never e = never (ap (λ (z : ℕ). Some (row_at z)) (h.2 ∙ sym e))

pub told_by : (k : ℕ) (t : Table) (answers : List Told) (i : ℕ) (w : Word) (o : Option ℕ) (b : Bool) (r : Option WordFault) → (i ≡ 0 → w ≡ []) → Keys k w → walk k t 0 w ≡ i
    → FirstAnswer answers w o → b ≡ is_some o → r ≡ then_some (not b) NotTold → IsWordFault k t answers i w r
told_by k t answers i w None b r empty keys leads h e f =
    subst (IsWordFault k t answers i w) (sym (f ∙ ap (λ (z : Bool). then_some (not z) NotTold) e)) (λ m s. h s.0 s.1 s.2)
told_by k t answers i w (Some j) b r empty keys leads h e f =
    subst (IsWordFault k t answers i w) (sym (f ∙ ap (λ (z : Bool). then_some (not z) NotTold) e))
    (record { empty = empty; keys = keys; leads = leads; told = (shown_at answers j, (j, h.0, h.1, refl, h.2)) })

-- What a check says of a pair of rows, by their number.
pub pair_check : (rows : ℕ) (ws : List Word) (answers : List Told) (i j : ℕ) (b : Bool) (o : Option (Row × Row)) → j < rows → Decides b (RowsApart ws answers i j) → o ≡ then_some (not b) (row_at i, row_at j)
    → Checks (pair_at rows) (PairApart rows ws answers) (i * rows + j) o
pair_check rows ws answers i j b o h d e =
    check_by (pair_at rows) (PairApart rows ws answers) (i * rows + j) b (row_at i, row_at j) o
    ((λ y. at_pair (RowsApart ws answers) i rows j h (d.0 y)), (λ g. d.1 (from_pair (RowsApart ws answers) i rows j h g)))
    (at_pair (λ y z. ◌≡◌ {A = Row × Row} (row_at i, row_at j) (row_at y, row_at z)) i rows j h refl) e

pub edge_check : (k rows : ℕ) (t : Table) (ws : List Word) (answers : List Told) (i x j : ℕ) (b : Bool) (o : Option (Row × Key × Row)) → x < k → j < rows → Decides b (ApartOrThere k t ws answers i x j)
    → o ≡ then_some (not b) (row_at i, key_at x, row_at j) → Checks (edge_at k rows) (EdgeApart k rows t ws answers) ((i * k + x) * rows + j) o
edge_check k rows t ws answers i x j b o hx hj d e =
    check_by (edge_at k rows) (EdgeApart k rows t ws answers) ((i * k + x) * rows + j) b (row_at i, key_at x, row_at j) o
    ((λ y. at_edge (ApartOrThere k t ws answers) i k x rows j hx hj (d.0 y)), (λ g. d.1 (from_edge (ApartOrThere k t ws answers) i k x rows j hx hj g)))
    (at_edge (λ y z v. ◌≡◌ {A = Row × Key × Row} (row_at i, key_at x, row_at j) (row_at y, key_at z, row_at v)) i k x rows j hx hj refl) e

pub not_unequal : (b : Bool) → false ≡ not b → b ≡ true
not_unequal true e = refl
not_unequal false e = absurd (false≢true e)

-- Whether nothing tells two words apart, under other names.
pub alike_by : (answers : List Told) (u v a b : Word) (o : Option Apart) (r : Bool) → u ≡ a → v ≡ b → Parts answers u v o → is_some o ≡ not r → MatchBool r (ToldApart (FirstSaid answers) a b → ⊥) (ToldApart (FirstSaid answers) a b)
alike_by answers u v a b None true e f h t = λ d. h (renamed a b u v (sym e) (sym f) d)
alike_by answers u v a b None false e f h t = absurd (false≢true t)
alike_by answers u v a b (Some p) true e f h t = absurd (false≢true (sym t))
alike_by answers u v a b (Some p) false e f h t = renamed u v a b e f (both_first_apart answers u v p h)
