-- The search is halved again and again.
use Rattle.std.proofs.Common.{arith}
use Rattle.areas.specs.Shapes.{dims}
use Rattle.searches.proofs.Searched.{halved}
use Rattle.searches.proofs.narrowing.narrow.Goals as goal

pub loop-told-preserved : goal.loop-told-preserved
loop-told-preserved g c held p =
    halved (g.M.Readable.held c.args.memory.now) (dims (g.M.Readable.laid_for c.args.memory.now)) c.loop-told.search c.half-search.result c.in-Some.told (c.loop-told.invariant held p) (omega arith) c.in-Some.ensures c.half-search.ensures.exact
