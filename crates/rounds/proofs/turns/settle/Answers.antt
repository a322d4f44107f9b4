-- Round after round.
use Rattle.std.proofs.Common.{ℕ, List, subst, ◌∙◌, arith}
use Rattle.areas.specs.Shapes.{dims}
use Rattle.areas.proofs.Memories.{dims_kept, done_at, writes_so, writes_then}
use Rattle.store.specs.Decoding.{model_of}
use Rattle.moves.proofs.Holding.{turned_holds, settles_after}
use Rattle.rounds.specs.Readiness.{Unsettled}
use Rattle.rounds.proofs.Following.{no_more}
use Rattle.rounds.proofs.turns.settle.Goals as goal

pub returns-then-not-round : goal.returns-then-not-round
returns-then-not-round c =
    let so_far = c.loop-turn.invariant in
    writes_then so_far c.if-not-round.ensures (record {
      moved = λ h u.
          let s = so_far.words.moved h u in
          settles_after s.turned ((done_at c.if-not-round.ensures (dims_kept so_far)).moved (turned_holds h s.turned) s.going);
      kept = λ n.
          let same = so_far.words.kept n in
          ((done_at c.round.ensures (dims_kept so_far)).kept (λ u. n (subst (λ (w : List ℕ). Unsettled (model_of w (dims c.args.memory.now.shape)).phase) same u))).0 ∙ same;
    })

pub returns : goal.returns
returns c = writes_so c.loop-turn.invariant (record {
  moved = λ h u. absurd (no_more c.args.memory.now.words.now c.loop-turn.memory.words.now (dims c.args.memory.now.shape) c.loop-turn._turn h (c.loop-turn.invariant.words.moved h u) (omega (arith, c.most-turn-end.ensures)));
  kept = c.loop-turn.invariant.words.kept;
})
