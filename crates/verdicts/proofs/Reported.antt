-- What the first number of each listing says of the table.
use Rattle.std.proofs.Common.{◌≡◌, ℕ, ◌*◌, ◌/◌, ◌%◌, ◌<◌, List, length, Some, None, vec_items, sym, refl, subst, inl, inr, arith}
use Rattle.std.proofs.lemmas.Bool.{cases_lt}
use Rattle.machines.specs.Words.{Word}
use Rattle.machines.specs.Tables.{next}
use Rattle.machines.specs.Answers.{Told}
use Rattle.answers.specs.declared.table.Row.{Row}
use Rattle.answers.specs.declared.table.Key.{Key}
use Rattle.answers.specs.declared.table.Table.{Table}
use Rattle.answers.specs.Values.{keys_of, rows_of, cells_of}
use Rattle.verdicts.specs.declared.report.Report.{Report}
use Rattle.verdicts.specs.declared.verdict.Flaw.TheVariants.{Conflict, Wrong, Unfit, Alike, Open}
use Rattle.verdicts.specs.Faults.{Consistent, Agreed, RowFit, PairApart, EdgeApart}
use Rattle.verdicts.specs.Listings.{Head, itself, row_at, pair_at, edge_at}
use Rattle.verdicts.specs.Verdicts.{Reports, Judged}
use Rattle.verdicts.proofs.Judged.{AllGood, good_is_borne, consistent_single, apart_to_first, borne_agreed, borne_consistent, borne_fit}
use Rattle.verdicts.proofs.Listed.{lists_empty, lists_head}
use Rattle.verdicts.proofs.Places.{row_below, column_below}

module _ (t : Table) (ws : List Word) (answers : List Told) (most : ℕ) (some : 0 < most) (r : Report) (h : Reports t ws answers most r) where
  pub conflict_judged : (i : ℕ) → Head (vec_items r.conflicts.first) (Some i) → Judged t ws answers (Some (Conflict i))
  conflict_judged i e =
      let found = lists_head itself (Consistent answers) most (length answers) r.conflicts i some h.conflicts e in
      subst (λ z. Judged t ws answers (Some (Conflict z))) (sym found.1) (record { says = (found.2, found.3, found.4); exact = λ _ b keys. found.3 (borne_consistent t ws answers b keys found.0 found.2) })

  module _ (no-conflict : Head (vec_items r.conflicts.first) None) where
    consistent : (i : ℕ) → i < length answers → Consistent answers i
    consistent = lists_empty itself (Consistent answers) most (length answers) r.conflicts some h.conflicts no-conflict

    pub wrong_judged : (i : ℕ) → Head (vec_items r.wrong.first) (Some i) → Judged t ws answers (Some (Wrong i))
    wrong_judged i e =
        let found = lists_head itself (Agreed (keys_of t) (cells_of t) answers) most (length answers) r.wrong i some h.wrong e in
        subst (λ z. Judged t ws answers (Some (Wrong z))) (sym found.1) (record { says = (consistent_single answers consistent, found.2, found.3, found.4); exact = λ _ b keys. found.3 (borne_agreed t ws answers b keys found.0 found.2) })

    pub unfit_judged : (row : Row) → Head (vec_items r.words.first) (Some row) → Judged t ws answers (Some (Unfit row))
    unfit_judged row e =
        let found = lists_head row_at (RowFit (keys_of t) (cells_of t) ws answers) most (rows_of t) r.words row some h.words e in
        subst (λ z. Judged t ws answers (Some (Unfit z))) (sym found.1) (record { says = (consistent_single answers consistent, found.2, found.3, found.4); exact = λ _ b keys. found.3 (borne_fit t ws answers b keys found.0 found.2) })

    pub alike_judged : (pair : Row × Row) → Head (vec_items r.pairs.first) (Some pair) → Judged t ws answers (Some (Alike pair.0 pair.1))
    alike_judged pair e =
        let found = lists_head (pair_at (rows_of t)) (PairApart (rows_of t) ws answers) most (rows_of t * rows_of t) r.pairs pair some h.pairs e in
        let p = found.0 in
        let before : p / rows_of t < p % rows_of t = elim (cases_lt (p / rows_of t) (p % rows_of t)) [ inl l ↦ l | inr l ↦ absurd (found.3 (λ k. absurd (omega (arith, k, l)))) ] in
        let below = column_below p (rows_of t) t.some_rows in
        subst (λ (z : Row × Row). Judged t ws answers (Some (Alike z.0 z.1))) (sym found.1) (record {
          says = (consistent_single answers consistent, before, below, λ a. found.3 (λ _. apart_to_first answers consistent a));
          exact = λ _ b keys. found.3 (λ _. apart_to_first answers consistent (b.apart (p / rows_of t) (p % rows_of t) (omega (arith, before, below, h.as_many)) (omega (arith, below, h.as_many)) (λ s. omega (arith, s, before))));
        })

    pub open_judged : (edge : Row × Key × Row) → Head (vec_items r.edges.first) (Some edge) → Judged t ws answers (Some (Open edge.0 edge.1 edge.2))
    open_judged edge e =
        let found = lists_head (edge_at (keys_of t) (rows_of t)) (EdgeApart (keys_of t) (rows_of t) (cells_of t) ws answers) most ((rows_of t * keys_of t) * rows_of t) r.edges edge some h.edges e in
        let p = found.0 in
        let place = row_below p (rows_of t) (rows_of t * keys_of t) t.some_rows found.2 in
        let row = row_below (p / rows_of t) (keys_of t) (rows_of t) t.some_keys place in
        let key = column_below (p / rows_of t) (keys_of t) t.some_keys in
        let other = column_below p (rows_of t) t.some_rows in
        let elsewhere : p % rows_of t ≡ next (keys_of t) (cells_of t) ((p / rows_of t) / keys_of t) ((p / rows_of t) % keys_of t) → ⊥ = λ s. found.3 (λ ne. absurd (ne s)) in
        subst (λ (z : Row × Key × Row). Judged t ws answers (Some (Open z.0 z.1 z.2))) (sym found.1) (record {
          says = (consistent_single answers consistent, row, key, other, elsewhere, λ a. found.3 (λ _. apart_to_first answers consistent a));
          exact = λ _ b keys. found.3 (λ ne. apart_to_first answers consistent (b.leads ((p / rows_of t) / keys_of t) ((p / rows_of t) % keys_of t) (p % rows_of t) row key other ne));
        })

    pub borne_judged : Head (vec_items r.wrong.first) None → Head (vec_items r.words.first) None → Head (vec_items r.pairs.first) None → Head (vec_items r.edges.first) None → Judged t ws answers None
    borne_judged wrong words pairs edges =
        let good : AllGood t ws answers = record {
          consistent = consistent;
          agreed = lists_empty itself (Agreed (keys_of t) (cells_of t) answers) most (length answers) r.wrong some h.wrong wrong;
          fit = lists_empty row_at (RowFit (keys_of t) (cells_of t) ws answers) most (rows_of t) r.words some h.words words;
          pairs = lists_empty (pair_at (rows_of t)) (PairApart (rows_of t) ws answers) most (rows_of t * rows_of t) r.pairs some h.pairs pairs;
          edges = lists_empty (edge_at (keys_of t) (rows_of t)) (EdgeApart (keys_of t) (rows_of t) (cells_of t) ws answers) most ((rows_of t * keys_of t) * rows_of t) r.edges some h.edges edges;
        } in
        record { says = good_is_borne t ws answers h.as_many good; exact = λ other. absurd (other refl) }
