-- What a search leads to, as turns.
use Rattle.std.proofs.Common.{◌≡◌, ℕ, ◌<◌, ◌≤◌, List, length, sym, refl, ap, ◌∙◌, subst, add-one, arith}
use Rattle.std.proofs.lemmas.List.{length_push}
use Rattle.areas.specs.Layout.{Dims}
use Rattle.model.specs.States.{State, asks}
use Rattle.model.specs.Observations.{rows, edge_word}
use Rattle.model.specs.Learners.{Bisection, Phase, bisecting, asks_middle, larger, waits_in, AsksAlong}
use Rattle.model.specs.Moves.{last_edge}
use Rattle.model.specs.Models.{Model, ModelAs, view_model, model_in}
use Rattle.model.proofs.Paging.{model_asks_middle, model_ends_bisection, model_ends_many}
use Rattle.store.specs.Decoding.{model_of}
use Rattle.moves.specs.declared.phase.Search.{Search}
use Rattle.moves.specs.Holding.{Holds, Turned, asking, too_many, Grown, Settles}
use Rattle.moves.specs.Making.{ChangesBy}
use Rattle.moves.specs.Observed.{observed_at}
use Rattle.moves.specs.Phases.{search_value}
use Rattle.moves.proofs.Holding.{as_dims, as_model, turned_by}
use Rattle.searches.specs.Searching.{Splits, Ended, Halted}

-- All searches look the same to others.
same_view : (m : Model) (l s : Bisection) → m.phase ≡ bisecting l → view_model (model_in m (bisecting s)) ≡ view_model m
same_view m l s p = sym (ap (λ (z : Phase). view_model (model_in m z)) p)

-- A turn leads to the state that is read after it.
turned_so : {w w' : List ℕ} {d : Dims} {st : State} → Turned w w' d st → Turned w w' d (view_model (model_of w' d))
turned_so t = record { makes = t.makes; valid = t.valid; is = refl }

module _ (w w' : List ℕ) (d : Dims) (l : Bisection) (s : Search) (h : Holds w d) (p : (model_of w d).phase ≡ bisecting l) where
  -- The middle's word is asked about.
  pub asked_about : Halted w d s → ChangesBy w w' d (λ m. model_in m (asks_middle (search_value s))) → Settles w w' d
  asked_about g changes =
      let m = model_of w d in
      let q = search_value s in
      let along = as_model w d (λ k n. AsksAlong k (observed_at w d) m.successors q) g.asks in
      let t = turned_by (changes h.long) (model_asks_middle (model_in m (bisecting q)) q g.valid refl along) in
      record {
        turned = turned_so t;
        settled =
            asking (ap (λ (z : Model). waits_in z.phase) (changes h.long).moves.model)
            (t.is ∙ (λ i. asks (same_view m l q p i) (sym (ap (λ (z : State). z.asked) t.is) i)));
      }

  -- There are as many rows as there may be, and the edge is one more.
  pub found_many : (u : ℕ) → Ended w d s → d.most ≤ rows (observed_at w d) → u ≡ last_edge d.keys (observed_at w d) (model_of w d).successors (search_value s) → ChangesBy w w' d (λ m. model_in m (larger u)) → Settles w w' d
  found_many u g full e changes =
      let m = model_of w d in
      let q = search_value s in
      let all = as_model w d (λ k n. rows (observed_at w d) ≡ n) (omega (arith, full, as_dims w d (λ k n. rows (observed_at w d) ≤ n) h.valid.valid.formed.limits.rows_most)) in
      let edge = as_model w d (λ k n. u ≡ last_edge k (observed_at w d) m.successors q) e in
      let a = model_ends_many (model_in m (bisecting q)) q g.valid refl g.near all in
      let t = turned_by (changes h.long) (subst (λ (z : ℕ). ModelAs (model_in m (larger z)) (view_model (model_in m (bisecting q)))) (sym edge) a) in
      record {
        turned = turned_so t;
        settled = too_many u (ap (λ (z : Model). z.phase) (changes h.long).moves.model) (t.is ∙ same_view m l q p);
      }

  -- The edge is a row more.
  pub grown : Ended w d s → rows (observed_at w d) < d.most → Splits w w' d s → Grown w w' d
  grown g room splits =
      let m = model_of w d in
      let q = search_value s in
      let makes = splits (record { held = h; valid = g.valid }) room in
      let a = model_ends_bisection (model_in m (bisecting q)) q g.valid refl g.near (as_model w d (λ k n. rows (observed_at w d) < n) room) in
      let word = edge_word m.keys (observed_at w d) (last_edge m.keys (observed_at w d) m.successors q) in
      record {
        turned = subst (Turned w w' d) (same_view m l q p) (turned_by makes a);
        phase = ap (λ (z : Model). z.phase) makes.moves.model;
        more = ap (λ (z : Model). length z.page.access) makes.moves.model ∙ length_push m.page.access word ∙ add-one (length m.page.access);
      }
