-- Each round so far has added a row.
use Rattle.areas.specs.Memories.{Writes}
use Rattle.rounds.proofs.Following.{TurnsMade}
use Rattle.rounds.proofs.turns.settle.Given as goal

abbrev pub invariant-loop-turn : goal.invariant-loop-turn
invariant-loop-turn l = Writes l.initial.memory l.memory (λ w w' d. TurnsMade w w' d l._turn)
