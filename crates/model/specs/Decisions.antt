-- The decision of the invariant, by decisions of its parts.
use Rattle.std.specs.Prelude.{◌≡◌, ℕ, zero, suc, ◌+◌, ◌-◌, ◌*◌, ◌<◌, List, [], ◌++◌, length, drop, ◌≢◌, slice_index, refl}
use Rattle.std.proofs.Common.{sym, subst, suc-ne-zero}
use Rattle.std.proofs.Math.Logic.Dec
use Rattle.std.proofs.Math.Nat.{suc_inj}
use Rattle.std.proofs.Math.Decide.{ℕ_discrete, dec_le, dec_lt, map_dec}
use Rattle.machines.specs.Words.{Word}
use Rattle.model.specs.Deciding.{dec_imp, dec_not, dec_all, dec_any, dec_pairs, dec_word, dec_keys}
use Rattle.model.specs.Bits.{bits}
use Rattle.model.specs.Observations.{
  Observations,
  rows,
  suffixes_used,
  count,
  edges_used,
  access_word,
  suffix_word,
  edge_of,
  edge_word,
  answer_at,
  word_at,
  shown_at,
  cell_at,
  seen,
  nonzero,
  Differ,
  New,
  Once,
  Limits,
  RowSpelt,
  SuffixSpelt,
  AnswerSpelt,
  Spelt,
  InCell,
  Cells,
  RowsApart,
  WellFormed,
  Full,
  LeadsToRow,
  Closed,
  end_row,
  Agreed,
  mixed_at,
}
use Rattle.model.specs.Learners.{
  Bisection,
  middle,
  Phase,
  filling,
  asks_cell,
  shows_table,
  bisecting,
  asks_middle,
  larger,
  broken,
  Learner,
  Counted,
  Fills,
  Asks,
  Shows,
  Bisects,
  AsksAlong,
  SplitBy,
  SplitWords,
  TooMany,
  Breaks,
  InPhase,
  Valid,
}

module _ (k n : ℕ) (b : Observations) where
  -- Whether the limits hold.
  pub dec_limits : Dec (Limits k n b)
  dec_limits =
      map_dec
      (λ h. record {
        keys_least = h.0.0;
        keys_most = h.0.1;
        most_least = h.1.0.0;
        most_most = h.1.0.1;
        rows_least = h.1.1.0.0;
        rows_most = h.1.1.0.1;
        suffixes_least = h.1.1.1.0.0;
        suffixes_most = h.1.1.1.0.1;
        edges_long = h.1.1.1.1.0;
        cells_long = h.1.1.1.1.1;
      })
      (λ r. ((r.keys_least, r.keys_most), ((r.most_least, r.most_most), ((r.rows_least, r.rows_most), ((r.suffixes_least, r.suffixes_most), (r.edges_long, r.cells_long))))))
      (Dec.and (Dec.and (dec_le 1 k) (dec_le k 64))
      (Dec.and (Dec.and (dec_le 1 n) (dec_le n 1024))
      (Dec.and (Dec.and (dec_le 1 (rows b)) (dec_le (rows b) n))
      (Dec.and (Dec.and (dec_le 1 (suffixes_used b)) (dec_le (suffixes_used b) n)) (Dec.and (ℕ_discrete (length b.edges) (rows b)) (ℕ_discrete (length b.cells) (suc (n * k) * n)))))))

  -- Whether a row is spelt well.
  pub dec_row : (j : ℕ) → Dec (RowSpelt k b j)
  dec_row j = map_dec (λ h. record { earlier = h.0; word = h.1 }) (λ r. (r.earlier, r.word)) (Dec.and (dec_lt (edge_of b j) (suc (j * k))) (dec_word (access_word b j) (edge_word k b (edge_of b j))))

  -- Whether a suffix is spelt well.
  pub dec_suffix : (e : ℕ) → Dec (SuffixSpelt k b e)
  dec_suffix e = map_dec (λ h. record { of_keys = h.0; short = h.1 }) (λ r. (r.of_keys, r.short)) (Dec.and (dec_keys k (suffix_word b e)) (dec_le (length (suffix_word b e)) b.letters))

  -- Whether an answer is spelt well.
  pub dec_answer : (c : ℕ) → Dec (AnswerSpelt k b c)
  dec_answer c =
      map_dec (λ h. record { row_in = h.0; of_keys = h.1.0; short = h.1.1 }) (λ r. (r.row_in, (r.of_keys, r.short)))
      (Dec.and (dec_lt (answer_at b c).row (rows b)) (Dec.and (dec_keys k (answer_at b c).rest) (dec_le (length (answer_at b c).rest) (suc b.letters))))

  -- Whether all words are spelt well.
  pub dec_spelt : Dec (Spelt k b)
  dec_spelt =
      map_dec (λ h. record { row = h.0.0; empty = h.0.1; suffix = h.1.0; answer = h.1.1 }) (λ r. ((r.row, r.empty), (r.suffix, r.answer)))
      (Dec.and (Dec.and (dec_all dec_row (rows b)) (dec_word (suffix_word b 0) [])) (Dec.and (dec_all dec_suffix (suffixes_used b)) (dec_all dec_answer (count b))))

  -- Whether an answer is the one of a cell.
  pub dec_in_cell : (u e c : ℕ) → Dec (InCell k b u e c)
  dec_in_cell u e c =
      map_dec (λ h. record { edge_in = h.0.0; suffix_in = h.0.1; answer_in = h.1.0; word = h.1.1 }) (λ r. ((r.edge_in, r.suffix_in), (r.answer_in, r.word)))
      (Dec.and (Dec.and (dec_lt u (edges_used k b)) (dec_lt e (suffixes_used b))) (Dec.and (dec_lt c (count b)) (dec_word (word_at b c) (edge_word k b u ++ suffix_word b e))))

  -- Whether a number in a cell is 0 or has the cell's answer.
  dec_cell : (u e x : ℕ) → Dec ((c : ℕ) → x ≡ suc c → InCell k b u e c)
  dec_cell u e zero = yes (λ c p. absurd (suc-ne-zero c (sym p)))
  dec_cell u e (suc d) = map_dec (λ h c p. subst (InCell k b u e) (suc_inj p) h) (λ f. f d refl) (dec_in_cell u e d)

  -- Whether each cell has its answer.
  pub dec_cells : Dec (Cells k n b)
  dec_cells =
      map_dec (λ f u e c h l p. f u e h l c p) (λ f u e h l c p. f u e c h l p)
      (dec_pairs {P = λ u e. (c : ℕ) → cell_at n b u e ≡ suc c → InCell k b u e c} (λ u e. dec_cell u e (cell_at n b u e)) (suc (n * k)) n)

  -- Whether two edges differ.
  pub dec_differ : (u v : ℕ) → Dec (Differ n b u v)
  dec_differ u v =
      map_dec (λ h. record { suffix = h.0; suffix_in = h.1; left = h.2.0; right = h.2.1.0; other = h.2.1.1 }) (λ r. (r.suffix, r.suffix_in, (r.left, (r.right, r.other))))
      (dec_any {P = λ e. (0 < seen n b u e) × ((0 < seen n b v e) × (seen n b u e ≢ seen n b v e))}
      (λ e. Dec.and (dec_lt 0 (seen n b u e)) (Dec.and (dec_lt 0 (seen n b v e)) (dec_not (ℕ_discrete (seen n b u e) (seen n b v e)))))
      (suffixes_used b))

  -- Whether any two rows differ.
  pub dec_apart : Dec (RowsApart n b)
  dec_apart = dec_pairs {P = λ i j. (i ≢ j) → Differ n b (edge_of b i) (edge_of b j)} (λ i j. dec_imp (dec_not (ℕ_discrete i j)) (dec_differ (edge_of b i) (edge_of b j))) (rows b) (rows b)

  -- Whether observations are well formed.
  pub dec_formed : Dec (WellFormed k n b)
  dec_formed =
      map_dec (λ h. record { limits = h.0.0; spelt = h.0.1; cells = h.1.0; apart = h.1.1 }) (λ r. ((r.limits, r.spelt), (r.cells, r.apart)))
      (Dec.and (Dec.and dec_limits dec_spelt) (Dec.and dec_cells dec_apart))

  -- Whether a word was never told of.
  pub dec_new : (w : Word) → Dec (New b w)
  dec_new w = dec_all {P = λ c. word_at b c ≢ w} (λ c. dec_not (dec_word (word_at b c) w)) (count b)

  -- Whether there are no two answers to one word.
  pub dec_once : Dec (Once b)
  dec_once = dec_pairs {P = λ c d. word_at b c ≡ word_at b d → c ≡ d} (λ c d. dec_imp (dec_word (word_at b c) (word_at b d)) (ℕ_discrete c d)) (count b) (count b)

  -- Whether every cell in use is known.
  pub dec_full : Dec (Full k n b)
  dec_full = dec_pairs {P = λ u e. 0 < seen n b u e} (λ u e. dec_lt 0 (seen n b u e)) (edges_used k b) (suffixes_used b)

  -- Whether an edge shows what the row shows that it leads to.
  pub dec_leads : (s : List ℕ) (u : ℕ) → Dec (LeadsToRow n b s u)
  dec_leads s u =
      map_dec (λ h. record { row_in = h.0; same = h.1 }) (λ r. (r.row_in, r.same))
      (Dec.and (dec_lt (slice_index s u) (rows b)) (dec_all (λ e. ℕ_discrete (seen n b u e) (seen n b (edge_of b (slice_index s u)) e)) (suffixes_used b)))

  -- Whether every edge leads to a row.
  pub dec_closed : (s : List ℕ) → Dec (Closed k n b s)
  dec_closed s = dec_all (λ v. dec_leads s (suc v)) (rows b * k)

  -- Whether the table read off agrees with every answer.
  pub dec_agreed : (s : List ℕ) → Dec (Agreed k n b s)
  dec_agreed s = dec_all {P = λ c. seen n b (edge_of b (end_row k b s c)) 0 ≡ suc (shown_at b c)} (λ c. ℕ_discrete (seen n b (edge_of b (end_row k b s c)) 0) (suc (shown_at b c))) (count b)

  -- Whether answers are counted right.
  pub dec_counted : (bisected refutes last : ℕ) → Dec (Counted b bisected refutes last)
  dec_counted bisected refutes last =
      map_dec (λ h. record { narrow = h.0.0; all = h.0.1; tables = h.1.0; shown = h.1.1.0; halved = h.1.1.1 }) (λ r. ((r.narrow, r.all), (r.tables, (r.shown, r.halved))))
      (Dec.and (Dec.and (dec_le (suffixes_used b) (rows b)) (dec_le (count b) (nonzero b.cells + (refutes + bisected))))
      (Dec.and (dec_le refutes last) (Dec.and (dec_le last (rows b)) (dec_le bisected (rows b * bits b.letters)))))

  -- Whether a search is in hand, and there is a row more.
  pub dec_fills : (bisected last : ℕ) → Dec (Fills b bisected last)
  dec_fills bisected last =
      map_dec (λ h. record { once = h.0; more = h.1.0; spare = h.1.1 }) (λ r. (r.once, (r.more, r.spare)))
      (Dec.and dec_once (Dec.and (dec_lt last (rows b)) (dec_le (bisected + bits b.letters) (rows b * bits b.letters))))

  -- Whether a cell can be asked about.
  pub dec_asks : (u e : ℕ) → Dec (Asks k n b u e)
  dec_asks u e =
      map_dec (λ h. record { edge_in = h.0.0; suffix_in = h.0.1; unknown = h.1.0; unasked = h.1.1 }) (λ r. ((r.edge_in, r.suffix_in), (r.unknown, r.unasked)))
      (Dec.and (Dec.and (dec_lt u (edges_used k b)) (dec_lt e (suffixes_used b))) (Dec.and (ℕ_discrete (cell_at n b u e) 0) (dec_new (edge_word k b u ++ suffix_word b e))))

  -- Whether a table can be shown.
  pub dec_shows : (s : List ℕ) (bisected refutes last : ℕ) → Dec (Shows k n b s bisected refutes last)
  dec_shows s bisected refutes last =
      map_dec (λ h. record { once = h.0.0; all_rows = h.0.1; unrefuted = h.1.0.0; spare = h.1.0.1; full = h.1.1.0; closed = h.1.1.1.0; agreed = h.1.1.1.1 })
      (λ r. ((r.once, r.all_rows), ((r.unrefuted, r.spare), (r.full, (r.closed, r.agreed)))))
      (Dec.and (Dec.and dec_once (ℕ_discrete last (rows b)))
      (Dec.and (Dec.and (dec_lt refutes last) (dec_le (bisected + bits b.letters) (rows b * bits b.letters))) (Dec.and dec_full (Dec.and (dec_closed s) (dec_agreed s)))))

  -- Whether a search is under way.
  pub dec_bisects : (s : List ℕ) (bisected : ℕ) (l : Bisection) → Dec (Bisects k n b s bisected l)
  dec_bisects s bisected l =
      map_dec
      (λ h. record {
        once = h.0.0.0;
        full = h.0.0.1;
        closed = h.0.1.0;
        along_in = h.0.1.1;
        order = h.1.0.0.0;
        within = h.1.0.0.1;
        left_in = h.1.0.1.0;
        right_in = h.1.0.1.1;
        left_word = h.1.1.0.0;
        right_word = h.1.1.0.1;
        other = h.1.1.1.0;
        few = h.1.1.1.1;
      })
      (λ r. (((r.once, r.full), (r.closed, r.along_in)), (((r.order, r.within), (r.left_in, r.right_in)), ((r.left_word, r.right_word), (r.other, r.few)))))
      (Dec.and (Dec.and (Dec.and dec_once dec_full) (Dec.and (dec_closed s) (dec_lt l.along (count b))))
      (Dec.and (Dec.and (Dec.and (dec_lt l.lo l.hi) (dec_le l.hi (length (answer_at b l.along).rest))) (Dec.and (dec_lt l.left (count b)) (dec_lt l.right (count b))))
      (Dec.and (Dec.and (dec_word (word_at b l.left) (mixed_at k b s l.along l.lo)) (dec_word (word_at b l.right) (mixed_at k b s l.along l.hi)))
      (Dec.and (dec_not (ℕ_discrete (shown_at b l.left) (shown_at b l.right))) (dec_le (bisected + bits (l.hi - l.lo - 1)) (rows b * bits b.letters))))))

  -- Whether a middle can be asked about.
  pub dec_asks_along : (s : List ℕ) (l : Bisection) → Dec (AsksAlong k b s l)
  dec_asks_along s l = map_dec (λ h. record { wide = h.0; unasked = h.1 }) (λ r. (r.wide, r.unasked)) (Dec.and (dec_lt (l.lo + 1) l.hi) (dec_new (mixed_at k b s l.along (middle l))))

  -- Whether two words are told apart by some two answers.
  pub dec_split : (u v : Word) → Dec (SplitWords b u v)
  dec_split u v =
      dec_any {P = λ c. (d : ℕ) × (d < count b) × SplitBy b u v c d}
      (λ c. dec_any {P = λ d. SplitBy b u v c d}
      (λ d. map_dec (λ h. record { left = h.0; right = h.1.0; other = h.1.1 }) (λ r. (r.left, (r.right, r.other)))
      (Dec.and (dec_word (word_at b c) (u ++ drop (length u) (word_at b c))) (Dec.and (dec_word (word_at b d) (v ++ drop (length u) (word_at b c))) (dec_not (ℕ_discrete (shown_at b c) (shown_at b d))))))
      (count b))
      (count b)

  -- Whether an edge shows that there are too many rows.
  pub dec_too_many : (u : ℕ) → Dec (TooMany k n b u)
  dec_too_many u =
      map_dec (λ h. record { edge_in = h.0; all_rows = h.1.0; apart = h.1.1 }) (λ r. (r.edge_in, (r.all_rows, r.apart)))
      (Dec.and (dec_lt u (edges_used k b)) (Dec.and (ℕ_discrete (rows b) n) (dec_all {P = λ j. SplitWords b (edge_word k b u) (access_word b j)} (λ j. dec_split (edge_word k b u) (access_word b j)) (rows b))))

  -- Whether two answers to one word differ.
  pub dec_breaks : Dec (Breaks b)
  dec_breaks =
      dec_any {P = λ c. (d : ℕ) × (d < count b) × ((word_at b c ≡ word_at b d) × (shown_at b c ≢ shown_at b d))}
      (λ c. dec_any {P = λ d. (word_at b c ≡ word_at b d) × (shown_at b c ≢ shown_at b d)} (λ d. Dec.and (dec_word (word_at b c) (word_at b d)) (dec_not (ℕ_discrete (shown_at b c) (shown_at b d)))) (count b))
      (count b)

  -- Whether what must hold in a phase holds.
  pub dec_phase : (s : List ℕ) (bisected refutes last : ℕ) (p : Phase) → Dec (InPhase k n b s bisected refutes last p)
  dec_phase s bisected refutes last filling = dec_fills bisected last
  dec_phase s bisected refutes last (asks_cell u e) = Dec.and (dec_fills bisected last) (dec_asks u e)
  dec_phase s bisected refutes last shows_table = dec_shows s bisected refutes last
  dec_phase s bisected refutes last (bisecting l) = dec_bisects s bisected l
  dec_phase s bisected refutes last (asks_middle l) = Dec.and (dec_bisects s bisected l) (dec_asks_along s l)
  dec_phase s bisected refutes last (larger u) = dec_too_many u
  dec_phase s bisected refutes last broken = dec_breaks

-- Whether a learner is valid.
pub dec_valid : (c : Learner) → Dec (Valid c)
dec_valid c =
    map_dec (λ h. record { formed = h.0; counted = h.1.0; phased = h.1.1 }) (λ r. (r.formed, (r.counted, r.phased)))
    (Dec.and (dec_formed c.keys c.most c.observed)
    (Dec.and (dec_counted c.keys c.most c.observed c.bisected c.refutes c.last) (dec_phase c.keys c.most c.observed c.successors c.bisected c.refutes c.last c.phase)))
