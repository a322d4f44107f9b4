-- From the course of a game to what is said of it at its beginning and its end.
use Rattle.std.proofs.Common.{◌≡◌, ℕ, ◌+◌, ◌*◌, List, [], ◌∷◌, length, Ok, Err, Result, sym, refl, ap, ◌∙◌, subst, arith, MatchResult}
use Rattle.std.specs.List.{AllByRecursion}
use Rattle.std.proofs.lemmas.List.Sums.{sum_by_push}
use Rattle.machines.specs.Tables.{shows}
use Rattle.model.specs.States.{most_words}
use Rattle.promises.specs.declared.Began.{Began}
use Rattle.promises.specs.declared.Given.{Given}
use Rattle.promises.specs.declared.Given.TheVariants.{Taken, NotAsked, NoRefute, Full, Unstored}
use Rattle.promises.specs.Calls.{Call, again, stepped, answered, refuting, one, letters}
use Rattle.promises.specs.Promises.{BeganPost}
use Rattle.promises.specs.Runs.{begins}
use Rattle.promises.proofs.Fairness.{fair}
use Rattle.promises.proofs.Refutations.{few_words}
use Rattle.answers.specs.declared.table.Table.{Table}
use Rattle.answers.specs.Values.{keys_of, cells_of}
use Rattle.store.specs.Reading.{state_of}
use Rattle.game.specs.declared.transcript.Transcript.{Transcript}
use Rattle.game.specs.declared.referee.Loss.{Loss}
use Rattle.game.specs.declared.referee.Referee.{Referee}
use Rattle.game.specs.Counterexamples.{Refutation, Refuting, Empty}
use Rattle.game.specs.Courses.{with_refutation, refuted_in, Course, most_in}
use Rattle.game.specs.Endings.{Going, Ended}
use Rattle.game.specs.Games.{finished, letters_of, Recorded, Fit, Learnt, Failed}
use Rattle.game.proofs.Courses.{course_holds, course_most, course_refuted, course_fine}

letters_more : (r : Given) (x : Refutation) (xs : List Refutation) → letters_of (with_refutation r x xs) ≡ one r * length x.word + letters_of xs
letters_more Taken x xs = omega (arith, sum_by_push (λ (y : Refutation). length y.word) xs x)
letters_more NotAsked x xs = omega arith
letters_more NoRefute x xs = omega arith
letters_more Full x xs = omega arith
letters_more Unstored x xs = omega arith

-- The letters that were taken are those of the refuting words.
letters_counted : (k n : ℕ) (cs : List Call) → letters_of (refuted_in k n cs) ≡ letters cs
letters_counted k n [] = refl
letters_counted k n (again k' n' room ∷ cs) = letters_counted k n cs
letters_counted k n (stepped o o' r ∷ cs) = letters_counted k n cs
letters_counted k n (answered a r ∷ cs) = letters_counted k n cs
letters_counted k n (refuting u a r ∷ cs) = letters_more r _ (refuted_in k n cs) ∙ ap (λ (z : ℕ). one r * length u + z) (letters_counted k n cs)

pub recorded : {k n : ℕ} {machine w : List ℕ} {t : Transcript} {cs : List Call} → Course k n machine w t cs → Recorded k n machine w t cs
recorded {k} {n} {machine} {w} {t} {cs} course =
    let words = few_words state_of k n (shows k machine) w cs course.run in
    record {
      course = course;
      holds = course_holds course;
      right = (fair state_of k n (shows k machine) w cs course.run).right;
      once = words.once;
      counted = omega (arith, words.counted, course.asked, course_refuted course);
      letters = sym course.lengths ∙ (sym (letters_counted k n cs) ∙ ap letters_of course.refuted);
      few = omega (arith, words.few, course.asked, course_refuted course, ap (λ (l : ℕ). most_words k n l) course.lengths);
      fine = course_fine course;
    }

-- A store that was begun is one with which a game begins.
pub game_begins :
    (r : Referee) (m : Table) (k n room : ℕ) (w w' : List ℕ) → r.machine.now ≡ m → k ≡ keys_of m → BeganPost state_of k n room w w' Began.Ready → Empty r.transcript
    → Going r w' × (most_in w' ≡ n)
game_begins r m k n room w w' same is began empty =
    let t = r.transcript in
    let b = subst (λ (q : ℕ). BeganPost state_of q n room w w' Began.Ready) is began in
    let course : Course (keys_of m) n (cells_of m) w' t [] =
    record {
      run = begins w w' room b;
      asked = sym empty.asked;
      lengths = sym empty.letters;
      room = omega (arith, empty.letters);
      refuted = sym empty.refuted;
      each = subst (AllByRecursion (Refuting (keys_of m) (cells_of m))) (sym empty.refuted) tt;
    } in
    let most = course_most course in (
      (
        [],
        subst (λ (z : Table). Course (keys_of z) (most_in w') (cells_of z) w' t []) (sym same) (subst (λ (z : ℕ). Course (keys_of m) z (cells_of m) w' t []) (sym most) course),
      ),
      most,
    )

-- Only a store that is long enough is begun.
pub game_fits : (m : Table) (k n room : ℕ) (w w' : List ℕ) → k ≡ keys_of m → BeganPost state_of k n room w w' Began.Ready → Fit m n room w
game_fits m k n room w w' is began unfit =
    let few : Began.Ready ≡ Began.Few = (subst (λ (q : ℕ). BeganPost state_of q n room w w' Began.Ready) is began).few.0 unfit in
    let z : ◌≡◌ {A = ℕ} 0 1 = cc in
    omega arith

-- What is said of a game follows from how it ended.
pub game_ends :
    (m : Table) (n room : ℕ) (w₀ w o₀ o : List ℕ) (t : Transcript) → Fit m n room w₀ → (e : Result ℕ Loss) → Ended m n w o t e
    → MatchResult (finished e t) (Learnt m n room w₀ w o) (Failed m n room w₀ w o₀ o)
game_ends m n room w₀ w o₀ o t fit (Ok rows) (cs, course, look, right) =
    record {
      fit = fit;
      calls = cs;
      recorded = recorded course;
      right = right;
      least = look.least;
      states = (_, look.borne.1.borne.sound, right);
      borne = look.borne;
      allowed = look.allowed;
      fewer = omega (arith, look.fewer, course_refuted course);
      looked = look.at;
    }
game_ends m n room w₀ w o₀ o t fit (Err Loss.Larger) (cs, course, larger) = (fit, record { calls = cs; recorded = recorded course; larger = larger })
game_ends m n room w₀ w o₀ o t fit (Err Loss.Short) (cs, course, short) = (fit, record { calls = cs; recorded = recorded course; short = short })
game_ends m n room w₀ w o₀ o t fit (Err (Loss.Full x)) (cs, course, waits, looked, differs, full) =
    (fit, record { calls = cs; recorded = recorded course; waits = waits; looked = looked; refuting = differs; full = full })
game_ends m n room w₀ w o₀ o t fit (Err Loss.Memory) ended = fit
