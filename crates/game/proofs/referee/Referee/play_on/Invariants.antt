use Rattle.std.proofs.Common.{◌≡◌, ◌+◌, ◌-◌}
use Rattle.areas.specs.Layout.{answer_count}
use Rattle.answers.specs.Values.{keys_of}
use Rattle.game.specs.Courses.{most_in, words_of}
use Rattle.game.specs.Endings.{Going}
use Rattle.game.proofs.referee.Referee.play_on.Given as goal

abbrev pub invariant-loop-rows : goal.invariant-loop-rows
invariant-loop-rows l = record {
  machine : l.self.machine.now ≡ l.initial.self.machine.now;
  going : Going l.self l.store;
  most : most_in l.store ≡ most_in l.initial.store;
}

abbrev pub decreases-loop-rows : goal.decreases-loop-rows
decreases-loop-rows l = answer_count (keys_of l.self.machine.now) (most_in l.store) + 1 - words_of l.self.transcript
