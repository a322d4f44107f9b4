-- Lists of a function's values: one value more, or one changed.
use Rattle.std.proofs.Common.{◌≡◌, ℕ, zero, suc, ◌<◌, [], ◌∷◌, ◌++◌, length, get_or, set, refl, ap, ◌∙◌, suc-le-suc, zero-le, le_of_suc-le-suc, arith}
use Rattle.model.specs.Observations.{tabulate}

pub length-tabulate : {A : Type 0} (m : ℕ) (f : ℕ → A) → length (tabulate m f) ≡ m
length-tabulate zero f = refl
length-tabulate (suc m) f = ap suc (length-tabulate m (λ x. f (suc x)))

pub get_d_tabulate : {A : Type 0} (m : ℕ) (f : ℕ → A) (i : ℕ) (d : A) → i < m → get_or (tabulate m f) i d ≡ f i
get_d_tabulate zero f i d h = absurd (omega arith)
get_d_tabulate (suc m) f zero d h = refl
get_d_tabulate (suc m) f (suc i) d h = get_d_tabulate m (λ x. f (suc x)) i d (omega arith)

-- Functions with the same values make the same list.
pub tabulate_same : {A : Type 0} (m : ℕ) (f g : ℕ → A) → ((i : ℕ) → i < m → f i ≡ g i) → tabulate m f ≡ tabulate m g
tabulate_same zero f g h = refl
tabulate_same (suc m) f g h = λ i. h 0 (suc-le-suc zero-le) i ∷ tabulate_same m (λ x. f (suc x)) (λ x. g (suc x)) (λ j l. h (suc j) (suc-le-suc l)) i

-- One value more is at the end.
pub tabulate_more : {A : Type 0} (m : ℕ) (f : ℕ → A) → tabulate (suc m) f ≡ tabulate m f ++ (f m ∷ [])
tabulate_more zero f = refl
tabulate_more (suc m) f = ap (λ l. f 0 ∷ l) (tabulate_more m (λ x. f (suc x)))

-- The old values as they were and a new one make the old list and the new one.
pub tabulate_push : {A : Type 0} (m : ℕ) (f g : ℕ → A) (a : A) → ((i : ℕ) → i < m → g i ≡ f i) → g m ≡ a → tabulate (suc m) g ≡ tabulate m f ++ (a ∷ [])
tabulate_push m f g a old new = tabulate_more m g ∙ (λ i. tabulate_same m g f old i ++ (new i ∷ []))

-- One value changed is one element set.
pub tabulate_set : {A : Type 0} (m : ℕ) (f g : ℕ → A) (i : ℕ) (a : A) → i < m → ((j : ℕ) → j < m → (j ≡ i → ⊥) → g j ≡ f j) → g i ≡ a → tabulate m g ≡ set (tabulate m f) i a
tabulate_set zero f g i a h old new = absurd (omega arith)
tabulate_set (suc m) f g zero a h old new = λ j. new j ∷ tabulate_same m (λ x. g (suc x)) (λ x. f (suc x)) (λ x l. old (suc x) (suc-le-suc l) (λ e. omega arith)) j
tabulate_set (suc m) f g (suc i) a h old new =
    λ j. old 0 (suc-le-suc zero-le) (λ e. omega arith) j ∷ tabulate_set m (λ x. f (suc x)) (λ x. g (suc x)) i a (le_of_suc-le-suc h) (λ x l ne. old (suc x) (suc-le-suc l) (λ e. ne (omega arith))) new j
