use Rattle.std.proofs.Common.{◌≡◌, length, refl, arith}
use Rattle.std.proofs.lemmas.Option.{MatchOption-at_some}
use Rattle.game.proofs.Looks.{look_numbers, look_full, look_taken}
use Rattle.game.proofs.referee.Referee.judge.Goals as goal

pub counterexample-requires : goal.counterexample-requires
counterexample-requires c = rw c.keys.ensures (look_numbers c.requires.1 c.requires.2)

pub returns-in_default-refuted : goal.returns-in_default-refuted
returns-in_default-refuted c =
    let counter = rw c.keys.ensures at (MatchOption-at_some _ _ c.in-Some.found c.in-Some.is c.in_ok-found.ensures) in
    look_full c.args.self.now.machine.now c.requires.1 c.requires.2 counter c.as_slice.ensures.value c.refuted.new.store c.args.out.now c.refuted.result c.refuted.ensures c.in_default-refuted.not-Taken

pub returns : goal.returns
returns c =
    let counter = rw c.keys.ensures at (MatchOption-at_some _ _ c.in-Some.found c.in-Some.is c.in_ok-found.ensures) in
    let long : length c.refuted.new.store ≡ length c.args.store.now = omega arith in
    look_taken refl c.requires.1 c.requires.2 counter c.as_slice.ensures.value c.refuted.new.store long c.in-Taken.ensures c.in_ok-add.ensures
