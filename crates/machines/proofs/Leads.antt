-- A table whose rows' words are told apart, beside another that agrees with what was said; and a table that is borne out.
use Rattle.std.proofs.Common.{◌≡◌, ℕ, ◌<◌, ◌≤◌, List, [], ◌∷◌, get_or, sym, refl, ap, ◌∙◌, inl, inr, le_antisymm, arith}
use Rattle.std.proofs.lemmas.Bool.{cases_eq}
use Rattle.machines.specs.Words.{Word, Keys}
use Rattle.machines.specs.Tables.{Table, Sound, row_shows, next, walk, shows}
use Rattle.machines.specs.Answers.{Agrees}
use Rattle.machines.specs.Borne.{IsBorneOut, Separated}
use Rattle.machines.specs.Theorems.{BorneLeast, BorneRight, LeadsAlike}
use Rattle.machines.proofs.Pigeonhole.{Into, Distinct, pigeonhole, onto}
use Rattle.machines.proofs.Walks.{walk-append, walk_first}
use Rattle.machines.proofs.Apart.{row_at, agrees_of, apart_walks, apart_distinct, apart_words_few}

-- A table that is borne out has its rows' words told apart.
pub borne_separated : {says : Word → ℕ → Type 0} {k rows : ℕ} {t : Table} {ws : List Word} → IsBorneOut k rows t ws says → Separated k rows t ws says
borne_separated b = record { sound = b.sound; as_many = b.as_many; keys = b.keys; first = b.first; apart = b.apart; leads = b.leads }

module _ (says : Word → ℕ → Type 0) {k rows n : ℕ} {t other : Table} {ws : List Word} (s : Separated k rows t ws says) (o : Sound k n other) (agrees : Agrees k other says) where
  row_into : Into rows n (row_at k other ws)
  row_into i h = walk_first o (get_or ws i []) (s.keys i h)

  row_distinct : Distinct rows (row_at k other ws)
  row_distinct i j l h = apart_distinct says k other ws agrees s.apart i j l (omega (arith, s.as_many))

  -- It has no more rows than the other.
  pub separated_least : rows ≤ n
  separated_least = pigeonhole rows n (row_at k other ws) row_into row_distinct

  pub same_states : n ≤ rows → rows ≡ n
  same_states = le_antisymm separated_least

  -- A key leads in the other where it leads in ours.
  pub next_alike : n ≤ rows → (i x : ℕ) → i < rows → x < k → next k other (row_at k other ws i) x ≡ row_at k other ws (next k t i x)
  next_alike few i x h below =
      let at = row_at k other ws in
      let found = onto rows n at row_into row_distinct few (next k other (at i) x) (o.inside (at i) x (row_into i h) below) in
      elim (cases_eq found.0 (next k t i x)) [
        | inl e ↦ sym found.2 ∙ ap at e
        | inr ne ↦ absurd (apart_walks says k other agrees (s.leads i x found.0 h below found.1 ne) (walk-append k other 0 (get_or ws i []) (x ∷ []) ∙ sym found.2))
      ]

  -- So does a word.
  pub walk_alike : n ≤ rows → (i : ℕ) (w : Word) → i < rows → Keys k w → walk k other (row_at k other ws i) w ≡ row_at k other ws (walk k t i w)
  walk_alike few i [] h keys = refl
  walk_alike few i (x ∷ w) h keys =
      ap (λ (y : ℕ). walk k other y w) (next_alike few i x h keys.0) ∙ walk_alike few (next k t i x) w (s.sound.inside i x h keys.0) keys.1

module _ (says : Word → ℕ → Type 0) where
  pub leads_alike : LeadsAlike says
  leads_alike k rows n t other ws s o few agrees w keys =
      let first : row_at k other ws 0 ≡ 0 = ap (walk k other 0) s.first in
      ap (λ (i : ℕ). walk k other i w) (sym first) ∙ walk_alike says s o agrees few 0 w s.sound.some_rows keys

  pub borne_least : BorneLeast says
  borne_least k n rows b t ws states right keys borne = omega (arith, apart_words_few says k n b ws states right keys borne.apart, borne.as_many)

  pub borne_right : BorneRight says
  borne_right k n rows b t ws states right keys borne few w word =
      let other = states.0 in
      let agrees = agrees_of says k b other states.2 right keys in
      let j = walk k t 0 w in
      let row : j < rows = walk_first borne.sound w word in
      let said = borne.asked j row in
      let ours : row_shows k t j ≡ said.0 = ap (row_shows k t) (sym (borne.reach j row)) ∙ borne.agrees (get_or ws j []) said.0 said.1 in
      let theirs : shows k other w ≡ said.0 = ap (row_shows k other) (leads_alike k rows n t other ws (borne_separated borne) states.1 few agrees w word) ∙ agrees (get_or ws j []) said.0 said.1 in
      ours ∙ sym theirs ∙ states.2 w word
