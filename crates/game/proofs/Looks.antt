-- The table that is looked at, and where its numbers stand.
use Rattle.std.proofs.Common.{◌≡◌, ℕ, List, length, vec_items, Err, sym, ap, ◌∙◌, subst, arith}
use Rattle.std.proofs.lemmas.List.{length_push}
use Rattle.promises.specs.declared.Given.{Given}
use Rattle.promises.specs.declared.Given.TheVariants.{Taken}
use Rattle.promises.specs.Calls.{Call}
use Rattle.promises.specs.Promises.{RefutedSays}
use Rattle.promises.proofs.Replays.{replayed}
use Rattle.answers.specs.declared.table.Table.{Table}
use Rattle.answers.specs.Values.{keys_of, cells_of}
use Rattle.store.specs.Reading.{state_of}
use Rattle.game.specs.declared.transcript.Counterexample.{Counterexample}
use Rattle.game.specs.declared.transcript.Transcript.{Transcript}
use Rattle.game.specs.Counterexamples.{refutation_of, refuted_of, Counters, TableNumbers, Adds}
use Rattle.game.specs.declared.referee.Loss.{Loss}
use Rattle.game.specs.declared.referee.Referee.{Referee}
use Rattle.game.specs.Courses.{Course, Looked, most_in}
use Rattle.game.specs.Endings.{Onward, Ended}
use Rattle.game.proofs.Courses.{course_stands, course_full, course_corrected, onward}

-- These numbers make a table.
pub look_numbers : {k n : ℕ} {machine w : List ℕ} {t : Transcript} {rows : ℕ} {numbers : List ℕ} {cs : List Call} → Course k n machine w t cs → Looked k n machine rows numbers cs → TableNumbers k numbers
look_numbers {k = k} {n = n} {rows = rows} {cs = cs} course look =
    let s = course_stands course in
    let x = replayed k n cs in
    (rows, look.borne.1.borne.sound, omega (arith, s.keys_least, x.keys), omega (arith, s.keys_most, x.keys), omega (arith, look.allowed, s.most_most, x.most))

module _ (m : Table) {n : ℕ} {w : List ℕ} {t : Transcript} {cs : List Call} {rows : ℕ} {numbers : List ℕ} {x : Counterexample} {u : List ℕ}
    (course : Course (keys_of m) n (cells_of m) w t cs) (look : Looked (keys_of m) n (cells_of m) rows numbers cs) (counter : Counters (keys_of m) (cells_of m) numbers x) (is : u ≡ vec_items x.word)
  where
    -- The game ends where the word is not taken.
    pub look_full : (y o : List ℕ) (r : Given) → RefutedSays state_of (state_of w) (length w) u x.shown w y r → (r ≡ Taken → ⊥) → Ended m n y o t (Err (Loss.Full x))
    look_full y o r says kept =
        let full = course_full course y r look counter (subst (λ (z : List ℕ). RefutedSays state_of (state_of w) (length w) z x.shown w y r) is says) kept in
        subst (λ (z : List ℕ). Ended m n z o t (Err (Loss.Full x))) (sym full.1) (cs, course, look.at.waits, sym (counter.hypothesis ∙ look.at.same), counter.refuting, full.0)

-- It goes on where the word is taken.
pub look_taken :
    {r r' : Referee} {w : List ℕ} {cs : List Call} {rows : ℕ} {numbers : List ℕ} {x : Counterexample} {u : List ℕ} → r'.machine.now ≡ r.machine.now
    → Course (keys_of r'.machine.now) (most_in w) (cells_of r'.machine.now) w r.transcript cs → Looked (keys_of r'.machine.now) (most_in w) (cells_of r'.machine.now) rows numbers cs
    → Counters (keys_of r'.machine.now) (cells_of r'.machine.now) numbers x → u ≡ vec_items x.word → (y : List ℕ) → length y ≡ length w
    → RefutedSays state_of (state_of w) (length w) u x.shown w y Taken → Adds x r.transcript r'.transcript → Onward r r' w y
look_taken {r = r} {w = w} {x = x} machine course look counter is y long says adds =
    onward machine (course_corrected course y long look counter (subst (λ (z : List ℕ). RefutedSays state_of (state_of w) (length w) z x.shown w y Taken) is says) adds)
    (omega (arith, adds.asked, ap length adds.refuted, length_push (refuted_of r.transcript) (refutation_of x)))
