-- Words told apart, in tables that agree with what was said.
use Rattle.std.proofs.Common.{◌≡◌, ℕ, ◌-◌, ◌<◌, ◌≤◌, List, [], ◌++◌, length, get_or, sym, ap, ◌∙◌, ⊎_elim, arith}
use Rattle.std.proofs.lemmas.Bool.{cases_lt}
use Rattle.machines.specs.Words.{Word, Keys}
use Rattle.machines.specs.Tables.{Box, Table, Sound, row_shows, walk, shows, Same}
use Rattle.machines.specs.Answers.{RightOf, OfKeys, Agrees, ToldApart, AllApart}
use Rattle.machines.specs.Theorems.{ApartLeadsApart, ApartWordsFew}
use Rattle.machines.proofs.Pigeonhole.{Distinct, pigeonhole}
use Rattle.machines.proofs.Walks.{keys-append, walk-append, walk_first}

-- Words that lead to one row show the same with any word behind both.
pub shows_behind : (k : ℕ) (t : Table) (u v x : Word) → walk k t 0 u ≡ walk k t 0 v → shows k t (u ++ x) ≡ shows k t (v ++ x)
shows_behind k t u v x e = ap (row_shows k t) (walk-append k t 0 u x ∙ ap (λ (i : ℕ). walk k t i x) e ∙ sym (walk-append k t 0 v x))

-- The row to which the word at a place of a list leads.
abbrev pub row_at : ℕ → Table → List Word → ℕ → ℕ
row_at k t ws i = walk k t 0 (get_or ws i [])

module _ (says : Word → ℕ → Type 0) where
  -- A table that shows what a box shows agrees with what is right of the box.
  pub agrees_of : (k : ℕ) (b : Box) (t : Table) → Same k (shows k t) b → RightOf b says → OfKeys k says → Agrees k t says
  agrees_of k b t same right keys w m said = same w (keys w m said) ∙ right w m said

  -- Words told apart lead to different rows in every table that agrees.
  pub apart_walks : (k : ℕ) (t : Table) {u v : Word} → Agrees k t says → ToldApart says u v → walk k t 0 u ≡ walk k t 0 v → ⊥
  apart_walks k t {u} {v} agrees apart e =
      let left = agrees (u ++ apart.behind) apart.left apart.left_said in
      let right = agrees (v ++ apart.behind) apart.right apart.right_said in
      apart.differ (sym left ∙ shows_behind k t u v apart.behind e ∙ right)

  -- A word told apart from another is of keys.
  pub apart_keys : (k : ℕ) {u v : Word} → OfKeys k says → ToldApart says u v → Keys k u
  apart_keys k {u} keys apart = ((keys-append k u apart.behind).0 (keys (u ++ apart.behind) apart.left apart.left_said)).0

  pub apart_leads_apart : ApartLeadsApart says
  apart_leads_apart k n b t u v sound same right keys = apart_walks k t (agrees_of k b t same right keys)

  -- Words any two of which are told apart lead to different rows.
  pub apart_distinct : (k : ℕ) (t : Table) (ws : List Word) → Agrees k t says → AllApart says ws → Distinct (length ws) (row_at k t ws)
  apart_distinct k t ws agrees apart i j l h = apart_walks k t agrees (apart i j (omega arith) h (omega arith))

  -- So they are no more than the rows.
  pub apart_few : {k n : ℕ} {t : Table} (ws : List Word) → Sound k n t → Agrees k t says → ((i : ℕ) → i < length ws → Keys k (get_or ws i [])) → AllApart says ws → length ws ≤ n
  apart_few {k} {n} {t} ws sound agrees keys apart =
      pigeonhole (length ws) n (row_at k t ws) (λ i h. walk_first sound (get_or ws i []) (keys i h)) (apart_distinct k t ws agrees apart)

  pub apart_words_few : ApartWordsFew says
  apart_words_few k n b ws states right keys apart = ⊎_elim many few (cases_lt 1 (length ws))
    where
      many : 1 < length ws → length ws ≤ n
      many h = apart_few ws states.1 (agrees_of k b states.0 states.2 right keys) (λ i l. apart_keys k keys (apart i (1 - i) l (omega arith) (omega arith))) apart

      few : length ws ≤ 1 → length ws ≤ n
      few h = omega (arith, states.1.some_rows)
