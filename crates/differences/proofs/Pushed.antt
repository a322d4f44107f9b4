-- One word more behind those of a search, one key more, or one place more.
use Rattle.std.proofs.Common.{◌≡◌, ℕ, ◌+◌, ◌<◌, ◌⊎◌, List, [], ◌∷◌, ◌++◌, length, get_or, sym, refl, ap, ◌∙◌, subst, inl, inr, arith}
use Rattle.std.proofs.lemmas.List.{length_push, get_or_append_left, get_or_push}
use Rattle.std.proofs.lemmas.Bool.{cases_eq, cases_lt}
use Rattle.machines.specs.Words.{Word, Keys, Less}
use Rattle.machines.specs.Tables.{walk, shows}
use Rattle.machines.proofs.Walks.{keys-append}
use Rattle.differences.specs.Searches.{word_at, NoLater, StandsFor, Explored}
use Rattle.machines.proofs.Shortlex.{less_trans}
use Rattle.differences.proofs.Later.{less_push, less_key}

-- A word before the last is where it was.
pub word_old : (ws : List Word) (w : Word) (p : ℕ) → p < length ws → word_at (ws ++ (w ∷ [])) p ≡ word_at ws p
word_old ws w p h = get_or_append_left ws (w ∷ []) [] p h

pub word_new : (ws : List Word) (w : Word) → word_at (ws ++ (w ∷ [])) (length ws) ≡ w
word_new ws w = get_or_push ws w [] (length ws) refl

-- What holds of each element and of one more holds of each element of the longer list.
pub each_pushed : {X : Type 0} (d : X) (P : ℕ → X → Type 0) (xs : List X) (x : X) → ((p : ℕ) → p < length xs → P p (get_or xs p d)) → P (length xs) x → (p : ℕ) → p < length (xs ++ (x ∷ [])) → P p (get_or (xs ++ (x ∷ [])) p d)
each_pushed d P xs x old new p h =
    elim (cases_lt p (length xs)) [
      | inl l ↦ subst (P p) (sym (get_or_append_left xs (x ∷ []) d p l)) (old p l)
      | inr l ↦ let e : length xs ≡ p = omega (arith, h, l, length_push xs x) in subst (λ z. P z (get_or (xs ++ (x ∷ [])) z d)) e (subst (P (length xs)) (sym (get_or_push xs x d (length xs) refl)) new)
    ]

module _ (k : ℕ) (a b : List ℕ) (ws : List Word) (at x : ℕ) (e : Explored k a b ws at x) where
  -- The word at the place with the key behind it.
  abbrev on : Word
  on = word_at ws at ++ (x ∷ [])

  -- A case of the next key is one of this, or this itself.
  before_next : (p y : ℕ) → (p < at) ⊎ ((p ≡ at) × (y < x + 1)) → ((p < at) ⊎ ((p ≡ at) × (y < x))) ⊎ ((p ≡ at) × (y ≡ x))
  before_next p y (inl h) = inl (inl h)
  before_next p y (inr h) = elim (cases_lt y x) [ inl l ↦ inl (inr (h.0, l)) | inr l ↦ inr (h.0, omega (arith, h.1, l)) ]

  same_word : (p y : ℕ) → p ≡ at → y ≡ x → on ≡ word_at ws p ++ (y ∷ [])
  same_word p y f g = ap (λ (z : ℕ). word_at ws at ++ (z ∷ [])) (sym g) ∙ ap (λ (z : ℕ). word_at ws z ++ (y ∷ [])) (sym f)

  -- The key leads where a word leads.
  pub explored_known : at < length ws → (q : ℕ) → q < length ws → walk k a 0 (word_at ws q) ≡ walk k a 0 on → walk k b 0 (word_at ws q) ≡ walk k b 0 on → Explored k a b ws at (x + 1)
  explored_known h q l f g = record {
    keys = e.keys;
    rising = e.rising;
    alike = e.alike;
    done = λ p y i j c. elim (before_next p y c) [
      | inl d ↦ e.done p y i j d
      | inr d ↦ subst (StandsFor k a b ws) (same_word p y d.0 d.1) (record { place = q; inside = l; one_is = f; other_is = g; no_later = inr (e.ahead h q l) })
    ];
    ahead = λ _ p i. less_trans (word_at ws p) on (word_at ws at ++ ((x + 1) ∷ [])) (e.ahead h p i) (less_key (word_at ws at) x (x + 1) (omega arith));
  }

  -- What is stood for stays so.
  stands_longer : (v w : Word) → StandsFor k a b ws v → StandsFor k a b (ws ++ (w ∷ [])) v
  stands_longer v w s =
      let same_at = sym (word_old ws w s.place s.inside) in
      record {
        place = s.place;
        inside = omega (arith, s.inside, length_push ws w);
        one_is = subst (λ z. walk k a 0 z ≡ walk k a 0 v) same_at s.one_is;
        other_is = subst (λ z. walk k b 0 z ≡ walk k b 0 v) same_at s.other_is;
        no_later = subst (λ z. NoLater z v) same_at s.no_later;
      }

  -- The word at the place with the key behind it is put behind the others.
  pub explored_new : at < length ws → x < k → shows k a on ≡ shows k b on → Explored k a b (ws ++ (on ∷ [])) at (x + 1)
  explored_new h below alike =
      let longer = ws ++ (on ∷ []) in
      let here = word_old ws on at h in
      let further = less_key (word_at ws at) x (x + 1) (omega arith) in
      record {
        keys = each_pushed [] (λ _ w. Keys k w) ws on e.keys ((keys-append k (word_at ws at) (x ∷ [])).1 (e.keys at h, (below, tt)));
        rising = λ p q l i.
            each_pushed [] (λ q w. p < q → Less (word_at longer p) w) ws on
            (λ q j l. subst (λ z. Less z (word_at ws q)) (sym (word_old ws on p (omega (arith, l, j)))) (e.rising p q l j))
            (λ l. subst (λ z. Less z on) (sym (word_old ws on p l)) (e.ahead h p l)) q i l;
        alike = each_pushed [] (λ _ w. shows k a w ≡ shows k b w) ws on e.alike alike;
        done = λ p y i j c. elim (before_next p y c) [
          | inl d ↦ let l : p < length ws = elim d [ inl g ↦ omega (arith, g, h) | inr g ↦ omega (arith, g.0, h) ] in
              subst (λ z. StandsFor k a b longer (z ++ (y ∷ []))) (sym (word_old ws on p l)) (stands_longer (word_at ws p ++ (y ∷ [])) on (e.done p y l j d))
          | inr d ↦ let l : p < length ws = omega (arith, d.0, h) in
              let new = word_new ws on ∙ same_word p y d.0 d.1 in
              subst (λ z. StandsFor k a b longer (z ++ (y ∷ []))) (sym (word_old ws on p l)) (record { place = length ws; inside = omega (arith, length_push ws on); one_is = ap (walk k a 0) new; other_is = ap (walk k b 0) new; no_later = inl new })
        ];
        ahead = λ _. each_pushed [] (λ _ w. Less w (word_at longer at ++ ((x + 1) ∷ []))) ws on
            (λ p i. subst (λ z. Less (word_at ws p) (z ++ ((x + 1) ∷ []))) (sym here) (less_trans (word_at ws p) on (word_at ws at ++ ((x + 1) ∷ [])) (e.ahead h p i) further))
            (subst (λ z. Less on (z ++ ((x + 1) ∷ []))) (sym here) further);
      }

-- After the last key comes the next place.
pub explored_next : (k : ℕ) (a b : List ℕ) (ws : List Word) (at : ℕ) → at < length ws → Explored k a b ws at k → Explored k a b ws (at + 1) 0
explored_next k a b ws at h e = record {
  keys = e.keys;
  rising = e.rising;
  alike = e.alike;
  done = λ p y i j c. e.done p y i j (elim c [
    | inl l ↦ elim (cases_eq p at) [ inl f ↦ inr (f, j) | inr f ↦ inl (omega (arith, l, f)) ]
    | inr l ↦ absurd (omega (arith, l.1))
  ]);
  ahead = λ l p i. less_trans (word_at ws p) (word_at ws at ++ (k ∷ [])) (word_at ws (at + 1) ++ (0 ∷ [])) (e.ahead h p i) (less_push (word_at ws at) (word_at ws (at + 1)) k 0 (e.rising at (at + 1) (omega arith) l));
}

-- A search begins with the empty word.
pub explored_begin : (k : ℕ) (a b : List ℕ) → shows k a [] ≡ shows k b [] → Explored k a b ([] ∷ []) 0 0
explored_begin k a b alike = record {
  keys = each_pushed [] (λ _ w. Keys k w) [] [] (λ p h. absurd (omega (arith, h))) tt;
  rising = λ p q l h. absurd (omega (arith, l, h));
  alike = each_pushed [] (λ _ w. shows k a w ≡ shows k b w) [] [] (λ p h. absurd (omega (arith, h))) alike;
  done = λ p y i j c. elim c [ inl l ↦ absurd (omega (arith, l)) | inr l ↦ absurd (omega (arith, l.1)) ];
  ahead = λ _. each_pushed [] (λ _ w. Less w (0 ∷ [])) [] [] (λ p h. absurd (omega (arith, h))) (inl (omega arith));
}
