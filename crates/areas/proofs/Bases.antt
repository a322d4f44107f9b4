-- Where areas begin and how long they are: none reaches into another, and all lie within the memory.
use Rattle.std.proofs.Common.{◌≡◌, ℕ, zero, suc, ◌+◌, ◌-◌, ◌<◌, ◌≤◌, false, eqb, List, [], ◌∷◌, length, get_or, take, sum_by, sym, refl, ap, ◌∙◌, subst, ⊎_elim, arith, lit<}
use Rattle.std.proofs.lemmas.List.Sums.{sum_by-cons}
use Rattle.std.proofs.lemmas.Bool.{cases_lt, eqb-false}
use Rattle.areas.specs.declared.area.Area.{Area}
use Rattle.areas.specs.declared.area.Area.TheVariants.{Header, Edges, Access, Sizes, Suffixes, Cells, Successors, Answers, Letters}
use Rattle.areas.specs.declared.shape.Shape.{Shape}
use Rattle.areas.specs.Layout.{Dims, sized, order, place, long, base_of, size_of, Limits}
use Rattle.areas.specs.Shapes.{dims}

-- A shape keeps the limits.
pub limits_of : (s : Shape) → Limits (dims s)
limits_of s = record { some_keys = s.counts.some_keys; few_keys = s.counts.few_keys; some_states = s.counts.some_states; few_states = s.counts.few_states; fits = s.fits }

-- Where an area begins does not depend on the memory's length.
pub base_any_length : (keys most l l' : ℕ) (a : Area) → base_of (sized keys most l) a ≡ base_of (sized keys most l') a
unfolding base_of
base_any_length keys most l l' a = refl

-- The base of an area, found in the arm of that area.
pub base_in : (d : Dims) (a b : Area) (r : ℕ) → a ≡ b → r ≡ base_of d b → r ≡ base_of d a
base_in d a b r e h = h ∙ ap (base_of d) (sym e)

-- The size of an area, found in the arm of that area.
pub size_in : (d : Dims) (a b : Area) (r : ℕ) → a ≡ b → r ≡ size_of d b → r ≡ size_of d a
size_in d a b r e h = h ∙ ap (size_of d) (sym e)

-- The area at a place.
abbrev at_place : ℕ → Area
at_place i = get_or order i Letters

at_place_place : (a : Area) → at_place (place a) ≡ a
at_place_place Header = refl
at_place_place Edges = refl
at_place_place Access = refl
at_place_place Sizes = refl
at_place_place Suffixes = refl
at_place_place Cells = refl
at_place_place Successors = refl
at_place_place Answers = refl
at_place_place Letters = refl

-- Areas at the same place are the same.
pub same_place : (a b : Area) → place a ≡ place b → a ≡ b
same_place a b e = sym (at_place_place a) ∙ ap at_place e ∙ at_place_place b

-- Areas at different places differ: `other-area Edges Header refl`.
pub other_area : (a b : Area) → eqb (place a) (place b) ≡ false → a ≡ b → ⊥
other_area a b h e = eqb-false (place a) (place b) h (ap place e)

place_below : (a : Area) → place a < 9
place_below Header = lit< tt
place_below Edges = lit< tt
place_below Access = lit< tt
place_below Sizes = lit< tt
place_below Suffixes = lit< tt
place_below Cells = lit< tt
place_below Successors = lit< tt
place_below Answers = lit< tt
place_below Letters = lit< tt

-- The areas but the letters stand before the letters.
before_letters : (d : Dims) (r : ℕ) (a : Area) → place a < 8 → long d r a ≡ long d 0 a
before_letters d r Header h = refl
before_letters d r Edges h = refl
before_letters d r Access h = refl
before_letters d r Sizes h = refl
before_letters d r Suffixes h = refl
before_letters d r Cells h = refl
before_letters d r Successors h = refl
before_letters d r Answers h = refl
before_letters d r Letters h = absurd (omega arith)

sum_take : (f : Area → ℕ) (areas : List Area) (i j : ℕ) → i < j → j ≤ length areas → sum_by f (take i areas) + f (get_or areas i Letters) ≤ sum_by f (take j areas)
sum_take f [] i j h l = absurd (omega arith)
sum_take f (a ∷ areas) i zero h l = absurd (omega arith)
sum_take f (a ∷ areas) zero (suc j) h l = omega (arith, sum_by-cons f a (take j areas))
sum_take f (a ∷ areas) (suc i) (suc j) h l =
    omega (arith, sum_take f areas i j (omega arith) (omega arith), sum_by-cons f a (take i areas), sum_by-cons f a (take j areas))

-- An area ends before the areas behind it begin.
pub ends_before : (d : Dims) (a b : Area) → place a < place b → base_of d a + size_of d a ≤ base_of d b
unfolding base_of size_of
ends_before d a b h =
    let below = place_below b in
    let s = sum_take (long d 0) order (place a) (place b) h (omega arith) in
    omega (arith, s, ap (long d 0) (at_place_place a), before_letters d (d.length - base_of d Letters) a (omega arith))

-- Areas begin in their order.
pub bases_rise : (d : Dims) (a b : Area) → place a ≤ place b → base_of d a ≤ base_of d b
bases_rise d a b h = ⊎_elim
    (λ (l : place a < place b). omega (arith, ends_before d a b l))
    (λ (l : place b ≤ place a). omega (arith, ap (base_of d) (same_place a b (omega arith))))
    (cases_lt (place a) (place b))

letters_end : (d : Dims) → Limits d → base_of d Letters + size_of d Letters ≤ d.length
unfolding size_of
letters_end d l = omega (arith, l.fits)

-- An area ends within the memory.
pub ends_within : (d : Dims) (a : Area) → Limits d → base_of d a + size_of d a ≤ d.length
ends_within d a l = ⊎_elim
    (λ (h : place a < 8). omega (arith, ends_before d a Letters h, l.fits))
    (λ (h : 8 ≤ place a).
    let e : a ≡ Letters = same_place a Letters (omega (arith, place_below a)) in
    subst (λ (z : Area). base_of d z + size_of d z ≤ d.length) (sym e) (letters_end d l))
    (cases_lt (place a) 8)
