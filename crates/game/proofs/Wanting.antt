-- What a step wants in the course of a game.
use Rattle.std.proofs.Common.{◌≡◌, ℕ, ◌+◌, ◌*◌, ◌<◌, ◌≤◌, ◌⊎◌, List, ◌∷◌, length, take, Some, None, Ok, Err, Option, Result, sym, refl, ap, ◌∙◌, subst, inl, inr, arith}
use mathlib.Core.Option.{some}
use Rattle.std.proofs.lemmas.List.{length-take}
use Rattle.std.proofs.lemmas.Bool.{cases_lt}
use Rattle.machines.specs.Words.{Keys}
use Rattle.machines.specs.Tables.{shows, OfStates}
use Rattle.model.specs.States.{out_words}
use Rattle.promises.specs.declared.Wanted.{Wanted}
use Rattle.promises.specs.declared.Wanted.TheVariants.{Ask, Larger, Broken, NoStore, Short}
use Rattle.promises.specs.Calls.{Call, stepped, replay}
use Rattle.promises.specs.Promises.{NextSays}
use Rattle.promises.specs.Runs.{steps}
use Rattle.promises.proofs.Replays.{replayed}
use Rattle.promises.proofs.Fairness.{grown, fair}
use Rattle.promises.proofs.Shown.{tables_shown, never_stuck}
use Rattle.answers.specs.declared.table.Table.{Table}
use Rattle.answers.specs.Values.{keys_of, cells_of}
use Rattle.store.specs.Reading.{state_of}
use Rattle.game.specs.declared.transcript.Transcript.{Transcript}
use Rattle.game.specs.declared.referee.Referee.{Referee}
use Rattle.game.specs.declared.referee.Loss.{Loss}
use Rattle.game.specs.Courses.{Course, Looked, most_in}
use Rattle.game.specs.Endings.{Asked, Showing, Onward, Ended, Turned}
use Rattle.game.proofs.Courses.{course_holds, course_most}

module _ {k n : ℕ} {machine w : List ℕ} {t : Transcript} {cs : List Call} (course : Course k n machine w t cs) (x o o' : List ℕ) where
  said : (q : Wanted) → NextSays state_of (state_of w) w x o o' q → NextSays state_of (some (replay k n cs)) w x o o' q
  said q says = rw (course_holds course) at says

  -- The game has gone on by this step.
  pub step_course : (q : Wanted) → NextSays state_of (state_of w) w x o o' q → length x ≡ length w → Course k n machine x t (stepped o o' q ∷ cs)
  step_course q says long =
      record {
        run = steps w x o o' q cs course.run says;
        asked = course.asked;
        lengths = course.lengths;
        room = omega (arith, course.room, long);
        refuted = course.refuted;
        each = course.each;
      }

  -- A word asked about stands within out.
  pub ask_whole : (l : ℕ) → NextSays state_of (state_of w) w x o o' (Ask l) → l ≡ length (take l o')
  ask_whole l says = sym (said (Ask l) says).0.whole

  pub ask_within : (l : ℕ) → NextSays state_of (state_of w) w x o o' (Ask l) → l ≤ length o'
  ask_within l says = omega (arith, ask_whole l says, length-take l o')

  pub ask_keys : (l : ℕ) → NextSays state_of (state_of w) w x o o' (Ask l) → Keys k (take l o')
  ask_keys l says = subst (λ (q : ℕ). Keys q (take l o')) (replayed k n cs).keys (said (Ask l) says).0.keys

  -- A table that is shown is looked at.
  pub table_looked :
      (rows : ℕ) → NextSays state_of (state_of w) w x o o' (Wanted.Table rows) → Looked k n machine rows (take (rows * (k + 1)) o') (stepped o o' (Wanted.Table rows) ∷ cs)
  table_looked rows says =
      let shown = tables_shown state_of k n (shows k machine) w x o o' cs rows course.run says in
      record {
        at = record { waits = refl; same = ap (λ (q : ℕ). take (rows * (q + 1)) o') (sym (replayed k n cs).keys); as_many = refl };
        borne = shown.borne;
        allowed = shown.allowed;
        least = shown.least;
        fewer = grown (fair state_of k n (shows k machine) w cs course.run) (said (Wanted.Table rows) says).0;
      }

  -- A machine that is larger is one of no fewer states.
  pub larger_means : NextSays state_of (state_of w) w x o o' Larger → (s : ℕ) → OfStates k s (shows k machine) → n < s
  larger_means says s states =
      elim (cases_lt n s) [
        | inl h ↦ h
        | inr h ↦ absurd (never_stuck state_of k n s (shows k machine) w x o o' cs Larger states h course.run says (inl refl))
      ]

  -- A machine does not show two numbers after one word, and the memory is a store.
  pub never_lost : (q : Wanted) → (q ≡ Broken) ⊎ (q ≡ NoStore) → NextSays state_of (state_of w) w x o o' q → ⊥
  never_lost q (inl e) says =
      let two = (subst (λ (z : Wanted). NextSays state_of (some (replay k n cs)) w x o o' z) e (said q says)).0 in
      let right = (fair state_of k n (shows k machine) w cs course.run).right in
      two.differ (sym (right two.word two.one two.one_said) ∙ right two.word two.other two.other_said)
  never_lost q (inr e) says = subst (λ (z : Wanted). NextSays state_of (some (replay k n cs)) w x o o' z) e (said q says)

  -- Out is too short.
  pub short_means : NextSays state_of (state_of w) w x o o' Short → length o' < out_words k n t.letters
  short_means says =
      let short : length o < out_words k n t.letters = rw ((replayed k n cs).keys, (replayed k n cs).most, (replayed k n cs).refuted, course.lengths) at (said Short says).0 in
      omega (arith, short, ap length (said Short says).2)

module _ (r : Referee) {w : List ℕ} {cs : List Call} (course : Course (keys_of r.machine.now) (most_in w) (cells_of r.machine.now) w r.transcript cs) (x o o' : List ℕ) (long : length x ≡ length w) where
  abbrev k : ℕ
  k = keys_of r.machine.now

  abbrev cells : List ℕ
  cells = cells_of r.machine.now

  -- The most states stay.
  pub step_most : (q : Wanted) → NextSays state_of (state_of w) w x o o' q → most_in x ≡ most_in w
  step_most q says = course_most (step_course course x o o' q says long)

  pub step_asks : (l : ℕ) → NextSays state_of (state_of w) w x o o' (Ask l) → Asked r x (take l o')
  step_asks l says =
      subst (λ (n : ℕ). (cs : List Call) × Course k n cells x r.transcript cs × ((replay k n cs).waits ≡ 1) × ((replay k n cs).asked ≡ take l o') × Keys k (take l o')) (sym (step_most (Ask l) says))
      (stepped o o' (Ask l) ∷ cs, step_course course x o o' (Ask l) says long, refl, refl, ask_keys course x o o' l says)

  pub step_shows : (rows : ℕ) → NextSays state_of (state_of w) w x o o' (Wanted.Table rows) → Showing r x rows (take (rows * (k + 1)) o')
  step_shows rows says =
      subst (λ (n : ℕ). (cs : List Call) × Course k n cells x r.transcript cs × Looked k n cells rows (take (rows * (k + 1)) o') cs) (sym (step_most (Wanted.Table rows) says))
      (stepped o o' (Wanted.Table rows) ∷ cs, step_course course x o o' (Wanted.Table rows) says long, table_looked course x o o' rows says)

-- What came of a step comes of the round.
pub onward_from : {r r' : Referee} {w x y : List ℕ} → most_in x ≡ most_in w → Onward r r' x y → Onward r r' w y
onward_from e h = record { machine = h.machine; going = h.going; most = h.most ∙ e; more = h.more }

pub turned_from : (r r' : Referee) (w x y o : List ℕ) (q : Result (Option ℕ) Loss) → most_in x ≡ most_in w → Turned r r' x y o q → Turned r r' w y o q
turned_from r r' w x y o (Ok None) e h = onward_from e h
turned_from r r' w x y o (Ok (Some rows)) e h = subst (λ (n : ℕ). Ended r.machine.now n y o r'.transcript (Ok rows)) e h
turned_from r r' w x y o (Err loss) e h = subst (λ (n : ℕ). Ended r.machine.now n y o r'.transcript (Err loss)) e h

-- How the last round ended is how the game did.
pub ended_since :
    (m m' : Table) (n n' : ℕ) (w o : List ℕ) (t : Transcript) (q : Result ℕ Loss) → m' ≡ m → n' ≡ n → Ended m' n' w o t q → Ended m n w o t q
ended_since m m' n n' w o t q machine most h = subst (λ (z : Table). Ended z n w o t q) machine (subst (λ (z : ℕ). Ended m' z w o t q) most h)
