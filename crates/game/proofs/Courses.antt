-- What the course of a game says of its store, and how it goes on.
use Rattle.std.proofs.Common.{◌≡◌, ℕ, ◌+◌, ◌^◌, ◌<◌, ◌≤◌, List, [], ◌∷◌, ◌++◌, length, vec_items, sym, refl, ap, ◌∙◌, subst, ⊎_elim, arith}
use mathlib.Core.Option.{some}
use Rattle.std.specs.List.{AllByRecursion}
use Rattle.std.proofs.ByRecursion.{All-push}
use Rattle.machines.specs.Words.{Word, Keys}
use Rattle.machines.specs.Tables.{shows}
use Rattle.areas.specs.Layout.{answer_count}
use Rattle.model.specs.Bits.{fine_words}
use Rattle.model.specs.States.{State, Stands, store_words}
use Rattle.promises.specs.declared.Given.{Given}
use Rattle.promises.specs.declared.Given.TheVariants.{Taken, NotAsked, NoRefute, Full, Unstored}
use Rattle.promises.specs.Calls.{Call, answered, refuting, replay, refutations}
use Rattle.promises.specs.Promises.{Refutes, ToldSays, RefutedSays}
use Rattle.promises.specs.Runs.{tells, refutes}
use Rattle.promises.proofs.Replays.{replayed, holds_all}
use Rattle.promises.proofs.Refutations.{finer_words}
use Rattle.promises.proofs.Taking.{takes_answers}
use Rattle.answers.specs.Values.{keys_of, cells_of}
use Rattle.store.specs.Reading.{state_of}
use Rattle.store.proofs.Doors.{stores_stand}
use Rattle.game.specs.declared.transcript.Counterexample.{Counterexample}
use Rattle.game.specs.declared.transcript.Transcript.{Transcript}
use Rattle.game.specs.Counterexamples.{Refutation, refutation_of, refuted_of, Refuting, Counters, Adds}
use Rattle.game.specs.Courses.{Course, Looked, most_of, most_in, words_of, refuted_in}
use Rattle.game.specs.declared.referee.Referee.{Referee}
use Rattle.game.specs.Endings.{Onward}
use Rattle.game.proofs.Counting.{refuted_count, fine_fits, answers_few}

-- What refutes a table is not taken only for want of room.
full_by :
    (st : State) (w y : List ℕ) (b : ℕ) (u : Word) (a : ℕ) (r : Given) → Refutes st u a → RefutedSays state_of (some st) b u a w y r → (r ≡ Taken → ⊥)
    → (b < store_words st.keys st.most (st.refuted + length u)) × (y ≡ w)
full_by st w y b u a Taken x s kept = absurd (kept refl)
full_by st w y b u a NotAsked x s kept = absurd (s.0 x.waits)
full_by st w y b u a NoRefute x s kept = absurd (⊎_elim (λ (none : Keys st.keys u → ⊥). none x.keys) x.wrong s.1)
full_by st w y b u a Full x s kept = (s.1, s.2)
full_by st w y b u a Unstored x s kept = absurd s

module _ {k n : ℕ} {machine w : List ℕ} {t : Transcript} {cs : List Call} (course : Course k n machine w t cs) where
  -- The store holds what the calls say.
  pub course_holds : state_of w ≡ some (replay k n cs)
  course_holds = holds_all state_of k n (shows k machine) w cs course.run

  pub course_most : most_in w ≡ n
  course_most = ap most_of course_holds ∙ (replayed k n cs).most

  pub course_stands : Stands (replay k n cs)
  course_stands = stores_stand w (replay k n cs) course_holds

  -- As many tables were refuted.
  pub course_refuted : refutations cs ≡ length (refuted_of t)
  course_refuted = sym (refuted_count k n cs) ∙ ap length course.refuted

  pub course_fine : words_of t ≤ fine_words k n n t.letters
  course_fine =
      subst (λ (z : ℕ). words_of t ≤ fine_words k n n z) course.lengths
      (omega (arith, finer_words state_of stores_stand k n (shows k machine) w cs course.run, course.asked, course_refuted))

  -- There are records for all words told of.
  pub course_fits : length w < 2 ^ 64 → words_of t ≤ answer_count k n
  course_fits h = omega (arith, course_fine, fine_fits k n t.letters (omega (arith, course.room)))

  pub course_few : length w < 2 ^ 64 → words_of t ≤ 67176448
  course_few h =
      let s = course_stands in
      omega (arith, course_fits h, answers_few k n (omega (arith, s.keys_most, (replayed k n cs).keys)) (omega (arith, s.most_most, (replayed k n cs).most)))

  -- The answer to the word asked about is taken.
  pub course_heard :
      (y : List ℕ) (a : ℕ) (r : Given) → length y ≡ length w → (replay k n cs).waits ≡ 1 → a ≡ shows k machine (replay k n cs).asked → ToldSays state_of (state_of w) a w y r
      → Course k n machine y (record { asked = t.asked + 1; letters = t.letters; counterexamples = t.counterexamples }) (answered a Taken ∷ cs)
  course_heard y a r long waits is says =
      let taken = takes_answers state_of k n (shows k machine) w y cs a r course.run waits says in
      record {
        run = tells w y a Taken cs course.run (subst (ToldSays state_of (state_of w) a w y) taken says) (λ _. is);
        asked = omega (arith, course.asked);
        lengths = course.lengths;
        room = omega (arith, course.room, long);
        refuted = course.refuted;
        each = course.each;
      }

  -- The counterexample to the table that is looked at refutes it.
  course_refutes : {rows : ℕ} {numbers : List ℕ} {x : Counterexample} → Looked k n machine rows numbers cs → Counters k machine numbers x → Refutes (replay k n cs) (vec_items x.word) x.shown
  course_refutes {x = x} look counter =
      let keys = (replayed k n cs).keys in
      let first = counter.refuting.first in
      record {
        waits = look.at.waits;
        keys = subst (λ (q : ℕ). Keys q (vec_items x.word)) (sym keys) first.keys;
        wrong = λ e. first.differ (ap (λ (z : List ℕ). shows k z (vec_items x.word)) (counter.hypothesis ∙ look.at.same) ∙ (ap (λ (q : ℕ). shows q (replay k n cs).hypothesis (vec_items x.word)) (sym keys) ∙ (e ∙ counter.refuting.shown)));
      }

  -- It is not taken only for want of room.
  pub course_full :
      {rows : ℕ} {numbers : List ℕ} {x : Counterexample} (y : List ℕ) (r : Given) → Looked k n machine rows numbers cs → Counters k machine numbers x
      → RefutedSays state_of (state_of w) (length w) (vec_items x.word) x.shown w y r → (r ≡ Taken → ⊥) → (length w < store_words k n (t.letters + length (vec_items x.word))) × (y ≡ w)
  course_full {x = x} y r look counter says kept =
      let full = full_by (replay k n cs) w y (length w) (vec_items x.word) x.shown r (course_refutes look counter) (rw course_holds at says) kept in
      (rw ((replayed k n cs).keys, (replayed k n cs).most, (replayed k n cs).refuted, course.lengths) at full.0, full.1)

  -- It is taken.
  pub course_corrected :
      {rows : ℕ} {numbers : List ℕ} {x : Counterexample} {t' : Transcript} (y : List ℕ) → length y ≡ length w → Looked k n machine rows numbers cs → Counters k machine numbers x
      → RefutedSays state_of (state_of w) (length w) (vec_items x.word) x.shown w y Taken → Adds x t t'
      → Course k n machine y t' (refuting (vec_items x.word) x.shown Taken ∷ cs)
  course_corrected {x = x} {t' = t'} y long look counter says adds =
      let said : RefutedSays state_of (some (replay k n cs)) (length w) (vec_items x.word) x.shown w y Taken = rw course_holds at says in
      let refuted : refuted_of t' ≡ refuted_of t ++ (refutation_of x ∷ []) = adds.refuted in
      record {
        run = refutes w y (vec_items x.word) x.shown Taken cs course.run says (λ _. counter.refuting.shown);
        asked = course.asked ∙ sym adds.asked;
        lengths = omega (arith, course.lengths, adds.letters);
        room = omega (arith, said.1, (replayed k n cs).refuted, course.lengths, adds.letters, long);
        refuted =
            ap (λ (z : List ℕ). refuted_in k n cs ++ (record { hypothesis = z; word = vec_items x.word; shown = x.shown } ∷ [])) (sym (counter.hypothesis ∙ look.at.same))
            ∙ (ap (λ (z : List Refutation). z ++ (refutation_of x ∷ [])) course.refuted ∙ sym refuted);
        each = subst (AllByRecursion (Refuting k machine)) (sym refuted) (All-push (Refuting k machine) (refuted_of t) (refutation_of x) course.each counter.refuting);
      }

-- A course with one more word told of goes on.
pub onward :
    {r r' : Referee} {w y : List ℕ} {cs : List Call} → r'.machine.now ≡ r.machine.now → Course (keys_of r'.machine.now) (most_in w) (cells_of r'.machine.now) y r'.transcript cs
    → words_of r'.transcript ≡ words_of r.transcript + 1 → Onward r r' w y
onward {r' = r'} {y = y} {cs = cs} machine course more =
    let m = r'.machine.now in
    let e = course_most course in
    record { machine = machine; going = (cs, subst (λ (n : ℕ). Course (keys_of m) n (cells_of m) y r'.transcript cs) (sym e) course); most = e; more = more }
