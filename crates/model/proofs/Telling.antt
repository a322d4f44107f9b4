-- What was told, by the numbers of answers; and the keys and lengths of words.
use Rattle.std.proofs.Common.{◌≡◌, ℕ, zero, suc, ◌*◌, ◌/◌, ◌%◌, ◌<◌, ◌≤◌, [], ◌∷◌, ◌++◌, map, length, sym, ap, ◌∙◌, subst, arith, length-append}
use Rattle.std.proofs.lemmas.List.{length-map, get_or-map, map_push}
use Rattle.std.proofs.lemmas.Nat.{div_below, mod_below}
use Rattle.machines.specs.Words.{Word, Keys}
use Rattle.machines.specs.Answers.{Told, In, Said, OfKeys, ToldApart}
use Rattle.machines.proofs.Walks.{keys-append}
use Rattle.model.specs.Observations.{
  Answer,
  no_answer,
  Observations,
  rows,
  count,
  edges_used,
  access_word,
  suffix_word,
  edge_of,
  edge_word,
  answer_at,
  word_at,
  shown_at,
  newest_first,
  told_of,
  told,
  Differ,
  WellFormed,
  with_answer,
  with_row,
}
use Rattle.model.proofs.Lists.{newest_push, length-newest, in_newest, newest_in, map_same}
use Rattle.model.proofs.Extends.{edge_used, seen_cell, word_kept}
use Rattle.model.proofs.Appends.{extends_row}

pub told_answer : (b : Observations) (a : Answer) (l : ℕ) → told (with_answer b a l) ≡ told_of b a ∷ told b
unfolding told
told_answer b a l = ap newest_first (map_push (told_of b) b.answers a) ∙ newest_push (map (told_of b) b.answers) (told_of b a)

pub told_row : {k n : ℕ} {b : Observations} → WellFormed k n b → (u : ℕ) → told (with_row k b u) ≡ told b
unfolding told
told_row {k} {n} {b} w u =
    ap newest_first
    (map_same (told_of (with_row k b u)) (told_of b) b.answers no_answer (λ c h. λ i. record { word = word_kept w (extends_row w u) c h i; shown = shown_at b c }))

pub length-told : (b : Observations) → length (told b) ≡ count b
unfolding told
length-told b = length-newest (map (told_of b) b.answers) ∙ length-map b.answers (told_of b)

-- Each answer was told.
pub said_at : (b : Observations) (c : ℕ) → c < count b → Said (told b) (word_at b c) (shown_at b c)
unfolding told
said_at b c h =
    let all = map (told_of b) b.answers in
    let none = told_of b no_answer in
    let long : length all ≡ count b = length-map b.answers (told_of b) in
    subst (λ (x : Told). In x (newest_first all)) (get_or-map (told_of b) b.answers c no_answer none h) (in_newest all c none (omega (arith, long)))

-- What was told is an answer.
pub said_back : (b : Observations) (w : Word) (m : ℕ) → Said (told b) w m → (c : ℕ) × (c < count b) × (word_at b c ≡ w) × (shown_at b c ≡ m)
unfolding told
said_back b w m s =
    let all = map (told_of b) b.answers in
    let none = told_of b no_answer in
    let long : length all ≡ count b = length-map b.answers (told_of b) in
    let p = newest_in all none s in
    let h : p.0 < count b = omega (arith, long, p.1) in
    let e = sym (get_or-map (told_of b) b.answers p.0 no_answer none h) ∙ p.2 in
    (p.0, h, ap (λ (x : Told). x.word) e, ap (λ (x : Told). x.shown) e)

-- Two words are told apart by two answers that differ.
pub apart_by : (b : Observations) (u v s : Word) (c d : ℕ) → c < count b → d < count b → word_at b c ≡ u ++ s → word_at b d ≡ v ++ s → (shown_at b c ≡ shown_at b d → ⊥) → ToldApart (Said (told b)) u v
apart_by b u v s c d h l p q ne =
    record {
      behind = s;
      left = shown_at b c;
      right = shown_at b d;
      left_said = subst (λ (w : Word). Said (told b) w (shown_at b c)) p (said_at b c h);
      right_said = subst (λ (w : Word). Said (told b) w (shown_at b d)) q (said_at b d l);
      differ = ne;
    }

pub apart_sym : {says : Word → ℕ → Type 0} {u v : Word} → ToldApart says u v → ToldApart says v u
apart_sym t = record { behind = t.behind; left = t.right; right = t.left; left_said = t.right_said; right_said = t.left_said; differ = λ e. t.differ (sym e) }

-- Words that are told apart, under other names.
pub apart_as : {says : Word → ℕ → Type 0} {u v y z : Word} → u ≡ y → v ≡ z → ToldApart says u v → ToldApart says y z
apart_as {says} {u} {v} {y} {z} p q t = subst (λ (x : Word). ToldApart says x z) p (subst (λ (x : Word). ToldApart says u x) q t)

module _ {k n : ℕ} {b : Observations} (w : WellFormed k n b) where
  some_keys : 0 < k
  some_keys = omega (arith, w.limits.keys_least)

  -- The two answers by which two edges differ.
  pub differ_answers : (u v : ℕ) → u < edges_used k b → v < edges_used k b → (d : Differ n b u v)
      → (c e : ℕ) × (c < count b) × (e < count b) × (word_at b c ≡ edge_word k b u ++ suffix_word b d.suffix) × (word_at b e ≡ edge_word k b v ++ suffix_word b d.suffix) × (shown_at b c ≡ shown_at b e → ⊥)
  differ_answers u v h l d =
      let p = seen_cell w u d.suffix h d.suffix_in d.left in
      let q = seen_cell w v d.suffix l d.suffix_in d.right in
      (p.0, q.0, p.2.answer_in, q.2.answer_in, p.2.word, q.2.word, λ e. d.other (p.3 ∙ ap suc e ∙ sym q.3))

  -- Edges that differ are told apart.
  pub differ_apart : (u v : ℕ) → u < edges_used k b → v < edges_used k b → Differ n b u v → ToldApart (Said (told b)) (edge_word k b u) (edge_word k b v)
  differ_apart u v h l d =
      let a = differ_answers u v h l d in
      apart_by b (edge_word k b u) (edge_word k b v) (suffix_word b d.suffix) a.0 a.1 a.2 a.3 a.4 a.5 a.6

  -- Any two access words are told apart.
  pub access_apart : (i j : ℕ) → i < rows b → j < rows b → (i ≡ j → ⊥) → ToldApart (Said (told b)) (access_word b i) (access_word b j)
  access_apart i j h l ne =
      apart_as (sym (w.spelt.row i h).word) (sym (w.spelt.row j l).word) (differ_apart (edge_of b i) (edge_of b j) (edge_used w i h) (edge_used w j l) (w.apart i j h l ne))

  pub access_first : access_word b 0 ≡ []
  access_first =
      let r = w.spelt.row 0 w.limits.rows_least in
      let z : edge_of b 0 ≡ 0 = omega (arith, r.earlier) in
      r.word ∙ ap (edge_word k b) z

  edge_keys_if : (j u : ℕ) → u < suc (j * k) → ((i : ℕ) → i < j → Keys k (access_word b i)) → Keys k (edge_word k b u)
  edge_keys_if j zero h all = tt
  edge_keys_if j (suc v) h all = (keys-append k (access_word b (v / k)) (v % k ∷ [])).1 (all (v / k) (div_below v k j some_keys (omega arith)), (mod_below v k some_keys, tt))

  access_keys_within : (m j : ℕ) → j < m → j < rows b → Keys k (access_word b j)
  access_keys_within zero j h l = absurd (omega arith)
  access_keys_within (suc m) j h l =
      let r = w.spelt.row j l in
      subst (Keys k) (sym r.word) (edge_keys_if j (edge_of b j) r.earlier (λ i p. access_keys_within m i (omega arith) (omega arith)))

  pub access_keys : (j : ℕ) → j < rows b → Keys k (access_word b j)
  access_keys j h = access_keys_within (suc j) j (omega arith) h

  pub edge_keys : (u : ℕ) → u < edges_used k b → Keys k (edge_word k b u)
  edge_keys u h = edge_keys_if (rows b) u h access_keys

  pub word_keys : (c : ℕ) → c < count b → Keys k (word_at b c)
  word_keys c h = (keys-append k (access_word b (answer_at b c).row) (answer_at b c).rest).1 (access_keys (answer_at b c).row (w.spelt.answer c h).row_in, (w.spelt.answer c h).of_keys)

  pub told_keys : OfKeys k (Said (told b))
  told_keys v m s = let p = said_back b v m s in subst (Keys k) p.2 (word_keys p.0 p.1)

  edge_short_if : (j u : ℕ) → u < suc (j * k) → ((i : ℕ) → i < j → length (access_word b i) ≤ i) → length (edge_word k b u) ≤ j
  edge_short_if j zero h all = omega arith
  edge_short_if j (suc v) h all =
      let p : v / k < j = div_below v k j some_keys (omega arith) in
      omega (arith, length-append (access_word b (v / k)) (v % k ∷ []), all (v / k) p)

  access_short_within : (m j : ℕ) → j < m → j < rows b → length (access_word b j) ≤ j
  access_short_within zero j h l = absurd (omega arith)
  access_short_within (suc m) j h l =
      let r = w.spelt.row j l in
      omega (arith, ap (λ (z : Word). length z) r.word, edge_short_if j (edge_of b j) r.earlier (λ i p. access_short_within m i (omega arith) (omega arith)))

  -- The access word of row j has at most j keys.
  pub access_short : (j : ℕ) → j < rows b → length (access_word b j) ≤ j
  access_short j h = access_short_within (suc j) j (omega arith) h

  pub edge_short : (u : ℕ) → u < edges_used k b → length (edge_word k b u) ≤ rows b
  edge_short u h = edge_short_if (rows b) u h access_short
