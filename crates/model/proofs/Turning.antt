-- While nothing is waited for some move can be made, and after finitely many something comes.
use Rattle.std.proofs.Common.{◌≡◌, ℕ, zero, suc, ◌+◌, ◌*◌, ◌<◌, ◌≤◌, ◌⊎◌, List, [], ◌∷◌, ◌++◌, length, get_or, refl, subst, inl, inr, suc-le-suc, zero-le, le_of_suc-le-suc, not-suc-le-zero, arith, length-set}
use native.Mathlib.Decide.{ℕ_discrete}
use Rattle.std.proofs.lemmas.List.{length_push}
use Rattle.std.proofs.lemmas.Bool.{cases_eq, cases_lt}
use Rattle.machines.specs.Words.{Word}
use Rattle.machines.proofs.Search.{all_or}
use Rattle.model.specs.States.{State, asks, showing}
use Rattle.model.specs.Observations.{
  Observations,
  rows,
  suffixes_used,
  count,
  edges_used,
  suffix_word,
  edge_of,
  edge_word,
  answer_at,
  word_at,
  shown_at,
  cell_at,
  seen_by,
  seen,
  nonzero,
  Differ,
  New,
  Full,
  Closed,
  end_row,
  mixed_at,
  with_cell,
  with_row,
}
use Rattle.model.specs.Learners.{Bisection, middle, Phase, filling, asks_cell, shows_table, bisecting, asks_middle, larger, broken, Learner, waits_in, view, Valid}
use Rattle.model.specs.Moves.{in_phase, filling_with, Answered, OtherThanRows, shown_by, first_bisection, WrongAt, bisect_along, chosen, upper_half, lower_half, narrowed, last_edge, split_observations}
use Rattle.model.specs.Steps.{Turn, ask, fill, grow, agree, wrong, Turns, near, look, known, BisectionTurns, Comes, question, table, too_many, two_answers, StepComes}
use Rattle.model.specs.Deciding.{dec_word}
use Rattle.model.proofs.Lists.{nonzero_gap, nonzero_set}
use Rattle.model.proofs.Extends.{edge_used}
use Rattle.model.proofs.Appends.{cell_place}
use Rattle.model.proofs.Filling.{phase_at, asks_a_cell, fills_a_cell, adds_a_row, finds_too_many}
use Rattle.model.proofs.Bisecting.{starts_a_bisection, asks_a_middle, narrows}
use Rattle.model.proofs.Refuting.{shows_a_table}
use Rattle.model.proofs.Splitting.{ends_a_bisection, ends_too_many}

-- A word was told of, or never.
told_or_new : (b : Observations) (w : Word) → ((d : ℕ) × (d < count b) × (word_at b d ≡ w)) ⊎ New b w
told_or_new b w = all_or {P = λ d. word_at b d ≡ w} {Q = λ d. word_at b d ≡ w → ⊥} (count b) (λ d h. elim (dec_word (word_at b d) w) [ yes e ↦ inl e | no ne ↦ inr ne ])

empty_or_seen : (b : Observations) (x : ℕ) → (x ≡ 0) ⊎ (0 < seen_by b x)
empty_or_seen b zero = inl refl
empty_or_seen b (suc c) = inr (omega arith)

unlike_or_same : (m n : ℕ) → (m ≡ n → ⊥) ⊎ (m ≡ n)
unlike_or_same m n = elim (ℕ_discrete m n) [ yes e ↦ inr e | no ne ↦ inl ne ]

-- A list of numbers, each as it must be at its place.
choose : (P : ℕ → ℕ → Type 0) (m : ℕ) → ((v : ℕ) → v < m → (i : ℕ) × P v i) → (l : List ℕ) × ((v : ℕ) → v < m → P v (get_or l v 0))
choose P zero f = ([], λ v h. absurd (not-suc-le-zero h))
choose P (suc m) f =
    let t = choose (λ v. P (suc v)) m (λ v h. f (suc v) (suc-le-suc h)) in
    ((f 0 (suc-le-suc zero-le)).0 ∷ t.0, elim [ zero ↦ λ h. (f 0 (suc-le-suc zero-le)).1 | suc v ↦ λ h. t.1 v (le_of_suc-le-suc h) ])

module _ (k n : ℕ) (b : Observations) where
  -- An edge shows what some row shows, or differs from all.
  row_or_other : Full k n b → (u : ℕ) → u < edges_used k b → ((j : ℕ) → j < rows b → edge_of b j < edges_used k b)
      → ((i : ℕ) × (i < rows b) × ((e : ℕ) → e < suffixes_used b → seen n b u e ≡ seen n b (edge_of b i) e)) ⊎ OtherThanRows n b u
  row_or_other full u h used =
      all_or {P = λ i. (e : ℕ) → e < suffixes_used b → seen n b u e ≡ seen n b (edge_of b i) e} {Q = λ i. Differ n b u (edge_of b i)} (rows b)
      (λ i l.
      elim (all_or {P = λ e. seen n b u e ≡ seen n b (edge_of b i) e → ⊥} {Q = λ e. seen n b u e ≡ seen n b (edge_of b i) e} (suffixes_used b) (λ e p. unlike_or_same (seen n b u e) (seen n b (edge_of b i) e))) [
        | inl q ↦ inr (record { suffix = q.0; suffix_in = q.1; left = full u q.0 h q.1; right = full (edge_of b i) q.0 (used i l) q.1; other = q.2 })
        | inr same ↦ inl same
      ])

pub turns : Turns
turns c v =
    let k = c.keys in
    let n = c.most in
    let b = c.observed in
    elim (all_or {P = λ u. (e : ℕ) × (e < suffixes_used b) × (cell_at n b u e ≡ 0)} {Q = λ u. (e : ℕ) → e < suffixes_used b → 0 < seen n b u e} (edges_used k b)
    (λ u h. all_or {P = λ e. cell_at n b u e ≡ 0} {Q = λ e. 0 < seen n b u e} (suffixes_used b) (λ e l. empty_or_seen b (cell_at n b u e)))) [
      | inl g ↦ empty g.0 g.2.0 g.1 g.2.1 g.2.2
      | inr full ↦ closing (λ u e h l. full u h e l)
    ]
  where
    empty : (u e : ℕ) → u < edges_used c.keys c.observed → e < suffixes_used c.observed → cell_at c.most c.observed u e ≡ 0 → Turn c
    empty u e h l z =
        elim (told_or_new c.observed (edge_word c.keys c.observed u ++ suffix_word c.observed e)) [
          | inl d ↦ fill u e d.0 (record { edge_in = h; suffix_in = l; unknown = z; answer_in = d.1; word = d.2 })
          | inr new ↦ ask u e (record { edge_in = h; suffix_in = l; unknown = z; unasked = new })
        ]

    reading_off : (s : List ℕ) → Full c.keys c.most c.observed → Closed c.keys c.most c.observed s → Turn c
    reading_off s full closed =
        let b = c.observed in
        elim (all_or {P = λ z. WrongAt c.keys c.most b s z} {Q = λ z. seen c.most b (edge_of b (end_row c.keys b s z)) 0 ≡ suc (shown_at b z)} (count b)
        (λ z h. unlike_or_same (seen c.most b (edge_of b (end_row c.keys b s z)) 0) (suc (shown_at b z)))) [
          | inl q ↦ wrong s q.0 full closed q.1 q.2
          | inr agreed ↦ agree s full closed agreed
        ]

    closing : Full c.keys c.most c.observed → Turn c
    closing full =
        let k = c.keys in
        let n = c.most in
        let b = c.observed in
        let used : (j : ℕ) → j < rows b → edge_of b j < edges_used k b = edge_used v.formed in
        let Same : ℕ → ℕ → Type 0 = λ x i. (i < rows b) × ((e : ℕ) → e < suffixes_used b → seen n b (suc x) e ≡ seen n b (edge_of b i) e) in
        elim (all_or {P = λ x. OtherThanRows n b (suc x)} {Q = λ x. (i : ℕ) × Same x i} (rows b * k)
        (λ x h. elim (row_or_other k n b full (suc x) (omega arith) used) [ inl r ↦ inr (r.0, (r.1, r.2)) | inr o ↦ inl o ])) [
          | inl g ↦ grow (suc g.0) (omega (arith, g.1)) g.2
          | inr all ↦
              let s = choose Same (rows b * k) all in
              reading_off (0 ∷ s.0) full (λ x h. record { row_in = (s.1 x h).0; same = (s.1 x h).1 })
        ]

pub bisection_turns : BisectionTurns
bisection_turns c l v p =
    let x = phase_at v p in
    elim (cases_eq l.hi (suc l.lo)) [
      | inl e ↦ near e
      | inr ne ↦
          let wide : l.lo + 1 < l.hi = omega (arith, x.order, ne) in
          elim (told_or_new c.observed (mixed_at c.keys c.observed c.successors l.along (middle l))) [
            | inl d ↦ known d.0 wide d.1 d.2
            | inr new ↦ look (record { wide = wide; unasked = new })
          ]
    ]

-- What comes after finitely many moves, for others.
data Coming (st : State) : Type 0 where
  asked : (d : Learner) → Valid d → waits_in d.phase ≡ 1 → view d ≡ asks st (view d).asked → Coming st
  shown : (d : Learner) → Valid d → waits_in d.phase ≡ 2 → view d ≡ showing st (view d).rows (view d).hypothesis → st.rows < (view d).rows → Coming st
  many : (d : Learner) (u : ℕ) → Valid d → d.phase ≡ larger u → view d ≡ st → Coming st

comes_of : (c : Learner) → Coming (view c) → Comes c
comes_of c (asked d v w e) = question d v w e
comes_of c (shown d v w e m) = table d v w e m
comes_of c (many d u v p e) = too_many d u v p e

-- With one row more something comes.
abbrev ComesGrown : ℕ → Type 0
ComesGrown r = (c : Learner) → Valid c → c.phase ≡ filling → c.most < rows c.observed + r → Coming (view c)

narrowed_shorter : {P : Type 0} (t : Dec P) (l : Bisection) (d g : ℕ) → l.lo + 1 < l.hi → l.hi ≤ l.lo + suc g → (chosen t (upper_half l d) (lower_half l d)).hi ≤ (chosen t (upper_half l d) (lower_half l d)).lo + g
narrowed_shorter (yes p) l d g h m = omega arith
narrowed_shorter (no np) l d g h m = omega arith

module _ (r : ℕ) (next : ComesGrown r) where
  bisect_comes : (g : ℕ) (c : Learner) (l : Bisection) → Valid c → c.phase ≡ bisecting l → c.most ≤ rows c.observed + r → l.hi ≤ l.lo + g → Coming (view c)
  bisect_comes zero c l v p h m = let x = phase_at v p in absurd (omega (arith, x.order))
  bisect_comes (suc g) c l v p h m =
      let b = c.observed in
      let u = last_edge c.keys b c.successors l in
      elim (bisection_turns c l v p) [
        | near e ↦ elim (cases_lt (rows b) c.most) [
          | inl q ↦
              let t = ends_a_bisection c l v p e q in
              let after = filling_with c (split_observations c.keys c.most b c.successors l) in
              subst Coming t.is (next after t.valid refl (omega (arith, h, length_push b.access (edge_word c.keys b u))))
          | inr q ↦ let t = ends_too_many c l v p e (omega (arith, q, v.formed.limits.rows_most)) in many (in_phase c (larger u)) u t.valid refl t.is
        ]
        | look a ↦ let t = asks_a_middle c l v p a in asked (in_phase c (asks_middle l)) t.valid refl t.is
        | known d wide q word ↦
            let t = narrows c l d v p wide q word in
            let half = narrowed b l d in
            subst Coming t.is (bisect_comes g (in_phase c (bisecting half)) half t.valid refl h (narrowed_shorter (ℕ_discrete (shown_at b d) (shown_at b l.left)) l d g wide m))
      ]

  -- One turn of filling, where what comes after a filled cell is known.
  fill_turn : (c : Learner) → Valid c → c.phase ≡ filling → c.most ≤ rows c.observed + r → ((u e d : ℕ) → Answered c.keys c.most c.observed u e d → Coming (view c)) → Coming (view c)
  fill_turn c v p h again =
      let b = c.observed in
      elim (turns c v) [
        | ask u e a ↦ let t = asks_a_cell c u e v p a in asked (in_phase c (asks_cell u e)) t.valid refl t.is
        | fill u e d a ↦ again u e d a
        | grow u q other ↦ elim (cases_lt (rows b) c.most) [
          | inl few ↦
              let t = adds_a_row c u v p q other few in
              subst Coming t.is (next (filling_with c (with_row c.keys b u)) t.valid refl (omega (arith, h, length_push b.access (edge_word c.keys b u))))
          | inr all ↦ let t = finds_too_many c u v p q other (omega (arith, all, v.formed.limits.rows_most)) in many (in_phase c (larger u)) u t.valid refl t.is
        ]
        | agree s full closed agreed ↦ let t = shows_a_table c s v p full closed agreed in shown (shown_by c s) t.0.valid refl t.0.is t.1
        | wrong s i full closed q ne ↦
            let t = starts_a_bisection c s i v p full closed q ne in
            subst Coming t.is (bisect_comes (length (answer_at b i).rest) (bisect_along c s i) (first_bisection c.keys c.most b s i) t.valid refl h (omega arith))
      ]

  fill_comes : (z : ℕ) (c : Learner) → Valid c → c.phase ≡ filling → c.most ≤ rows c.observed + r → length c.observed.cells ≤ nonzero c.observed.cells + z → Coming (view c)
  fill_comes zero c v p h m =
      fill_turn c v p h (λ u e d a.
      absurd (omega (arith, m, nonzero_gap c.observed.cells (u * c.most + e) (cell_place v.formed u e a.edge_in a.suffix_in) a.unknown)))
  fill_comes (suc z) c v p h m =
      fill_turn c v p h (λ u e d a.
      let b = c.observed in
      let t = fills_a_cell c u e d v p a in
      let at = u * c.most + e in
      let fuller = nonzero_set b.cells at d (cell_place v.formed u e a.edge_in a.suffix_in) a.unknown in
      subst Coming t.is (fill_comes z (filling_with c (with_cell c.most b u e d)) t.valid refl h (omega (arith, m, fuller, length-set b.cells at (suc d)))))

grown : (r : ℕ) → ComesGrown r
grown zero c v p h = absurd (omega (arith, h, v.formed.limits.rows_most))
grown (suc r) c v p h = fill_comes r (grown r) (length c.observed.cells) c v p (omega (arith, h)) (omega arith)

step_from : (c : Learner) (p : Phase) → c.phase ≡ p → Valid c → waits_in p ≡ 0 → Comes c
step_from c filling p v w = comes_of c (fill_comes c.most (grown c.most) (length c.observed.cells) c v p (omega arith) (omega arith))
step_from c (asks_cell u e) p v w = absurd (omega arith)
step_from c shows_table p v w = absurd (omega arith)
step_from c (bisecting l) p v w = comes_of c (bisect_comes c.most (grown c.most) l.hi c l v p (omega arith) (omega arith))
step_from c (asks_middle l) p v w = absurd (omega arith)
step_from c (larger u) p v w = too_many c u v p refl
step_from c broken p v w = two_answers p

pub step_comes : StepComes
step_comes c v w = step_from c c.phase refl v w
