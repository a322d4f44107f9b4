-- Words that stand for all words, or for all before a bound.
use Rattle.std.proofs.Common.{◌≡◌, ℕ, ◌<◌, ◌≤◌, ◌⊎◌, List, [], ◌∷◌, ◌++◌, length, sym, ap, ◌∙◌, subst, inl, inr, append_assoc, append-nil, arith}
use Rattle.std.proofs.lemmas.Bool.{cases_order}
use Rattle.machines.specs.Words.{Word, Keys, Less}
use Rattle.machines.specs.Tables.{row_shows, walk, shows, Same}
use Rattle.machines.proofs.Walks.{walk-append, keys-append}
use Rattle.differences.specs.Differences.{FirstDifference}
use Rattle.differences.specs.Searches.{word_at, StandsFor, Explored}
use Rattle.machines.proofs.Shortlex.{less_trans, less_irrefl}
use Rattle.differences.proofs.Later.{no_later_less, no_later_trans, less_push, less_key, no_later_push, front_less}

-- Two words that lead to one row do so with a word behind both.
pub walk_on : (k : ℕ) (t : List ℕ) (u v x : Word) → walk k t 0 u ≡ walk k t 0 v → walk k t 0 (u ++ x) ≡ walk k t 0 (v ++ x)
walk_on k t u v x e = walk-append k t 0 u x ∙ (ap (λ (i : ℕ). walk k t i x) e ∙ sym (walk-append k t 0 v x))

-- No word comes before the empty one.
pub empty_first : (k : ℕ) (a b : List ℕ) → (shows k a [] ≡ shows k b [] → ⊥) → FirstDifference k a b []
empty_first k a b differ = record { keys = tt; differ = differ; first = λ v keys less. absurd (less_irrefl [] (front_less [] v [] less)) }

module _ (k : ℕ) (a b : List ℕ) (ws : List Word) where
  -- What stands for a word that stands for u with a key stands for u with that key.
  pub stands_on : (u : Word) (y : ℕ) (s : StandsFor k a b ws u) → StandsFor k a b ws (word_at ws s.place ++ (y ∷ [])) → StandsFor k a b ws (u ++ (y ∷ []))
  stands_on u y s t = record {
    place = t.place;
    inside = t.inside;
    one_is = t.one_is ∙ walk_on k a (word_at ws s.place) u (y ∷ []) s.one_is;
    other_is = t.other_is ∙ walk_on k b (word_at ws s.place) u (y ∷ []) s.other_is;
    no_later = no_later_trans (word_at ws t.place) (word_at ws s.place ++ (y ∷ [])) (u ++ (y ∷ [])) t.no_later (no_later_push (word_at ws s.place) u y s.no_later);
  }

  -- If the words go on as far as B allows, each word that B allows is stood for.
  module _ (B : Word → Type 0) (fronts : (u t : Word) → B (u ++ t) → B u) (goes : (u : Word) (y : ℕ) (s : StandsFor k a b ws u) → y < k → B (u ++ (y ∷ [])) → StandsFor k a b ws (word_at ws s.place ++ (y ∷ []))) where
    pub stood_on : (u t : Word) → StandsFor k a b ws u → Keys k t → B (u ++ t) → StandsFor k a b ws (u ++ t)
    stood_on u [] s keys h = subst (StandsFor k a b ws) (sym (append-nil u)) s
    stood_on u (y ∷ t) s keys h =
        let joined = append_assoc u (y ∷ []) t in
        let front : B (u ++ (y ∷ [])) = fronts (u ++ (y ∷ [])) t (subst B (sym joined) h) in
        subst (StandsFor k a b ws) joined (stood_on (u ++ (y ∷ [])) t (stands_on u y s (goes u y s keys.0 front)) keys.1 (subst B (sym joined) h))

  empty_stands : 0 < length ws → word_at ws 0 ≡ [] → StandsFor k a b ws []
  empty_stands some empty = record { place = 0; inside = some; one_is = ap (walk k a 0) empty; other_is = ap (walk k b 0) empty; no_later = inl empty }

  -- A word that is stood for by one after which the tables show the same.
  shown_alike : (v : Word) (s : StandsFor k a b ws v) → shows k a (word_at ws s.place) ≡ shows k b (word_at ws s.place) → shows k a v ≡ shows k b v
  shown_alike v s e = ap (row_shows k a) (sym s.one_is) ∙ (e ∙ ap (row_shows k b) s.other_is)

  module _ (at x : ℕ) (some : 0 < length ws) (empty : word_at ws 0 ≡ []) (e : Explored k a b ws at x) where
    -- All words were gone on from: the tables show the same.
    pub all_same : length ws ≤ at → Same k (shows k a) (shows k b)
    all_same h v keys =
        let s = stood_on (λ _. Unit {0}) (λ u t _. tt) (λ u y s l _. e.done s.place y s.inside l (inl (omega (arith, s.inside)))) [] v (empty_stands some empty) keys tt in
        shown_alike v s (e.alike s.place s.inside)

    module _ (here : at < length ws) where
      -- A word with a key behind it that comes before the one to which the search has come was gone on from.
      passed : (p y : ℕ) → p < length ws → Less (word_at ws p ++ (y ∷ [])) (word_at ws at ++ (x ∷ [])) → (p < at) ⊎ ((p ≡ at) × (y < x))
      passed p y l less =
          let u = word_at ws p ++ (y ∷ []) in
          let w = word_at ws at ++ (x ∷ []) in
          elim (cases_order p at) [
            | inl f ↦ elim (cases_order y x) [
              | inl g ↦ absurd (less_irrefl w (subst (λ z. Less (word_at ws at ++ (z ∷ [])) w) g (subst (λ z. Less (word_at ws z ++ (y ∷ [])) w) f less)))
              | inr (inl g) ↦ inr (f, g)
              | inr (inr g) ↦ absurd (less_irrefl w (less_trans w (word_at ws at ++ (y ∷ [])) w (less_key (word_at ws at) x y g) (subst (λ z. Less (word_at ws z ++ (y ∷ [])) w) f less)))
            ]
            | inr (inl g) ↦ inl g
            | inr (inr g) ↦ absurd (less_irrefl w (less_trans w u w (less_push (word_at ws at) (word_at ws p) x y (e.rising at p g l)) less))
          ]

      -- After each word before that one the tables show the same.
      pub first_there : x < k → (shows k a (word_at ws at ++ (x ∷ [])) ≡ shows k b (word_at ws at ++ (x ∷ [])) → ⊥) → FirstDifference k a b (word_at ws at ++ (x ∷ []))
      first_there below differ =
          let w = word_at ws at ++ (x ∷ []) in
          let goes : (u : Word) (y : ℕ) (s : StandsFor k a b ws u) → y < k → Less (u ++ (y ∷ [])) w → StandsFor k a b ws (word_at ws s.place ++ (y ∷ [])) = λ u y s l before.
          e.done s.place y s.inside l (passed s.place y s.inside (no_later_less (word_at ws s.place ++ (y ∷ [])) (u ++ (y ∷ [])) w (no_later_push (word_at ws s.place) u y s.no_later) before)) in
          record {
            keys = (keys-append k (word_at ws at) (x ∷ [])).1 (e.keys at here, (below, tt));
            differ = differ;
            first = λ v keys less. let s = stood_on (λ u. Less u w) (λ u t. front_less u t w) goes [] v (empty_stands some empty) keys less in shown_alike v s (e.alike s.place s.inside);
          }
