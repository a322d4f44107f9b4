use Rattle.std.proofs.Common.{◌≡◌, ℕ, ◌<◌, ◌⊎◌}
use Rattle.store.specs.Room.{Enough}
use Rattle.store.proofs.room.most_states.Given as goal

abbrev pub invariant-loop-most : goal.invariant-loop-most
invariant-loop-most l = ((l.best ≡ 0) ⊎ Enough l.keys l.best 0 l.words) × ((m : ℕ) → l.best < m → m < l.most → Enough l.keys m 0 l.words → ⊥) × (l.best < 4294967296)
