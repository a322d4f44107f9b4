-- One write after another.
use Rattle.std.proofs.Common.{arith}
use Rattle.areas.specs.Shapes.{dims}
use Rattle.areas.proofs.Memories.{dims_kept, done_at, writes_on, writes_then}
use Rattle.searches.proofs.Ending.{split_made}
use Rattle.searches.proofs.splitting.split.Goals as goal

pub returns : goal.returns
returns c =
    let suffixed = c.add_suffix.ensures in
    let left = writes_on suffixed c.set_cell.ensures in
    let right = writes_on left c.set_cell-2.ensures in
    let rowed = writes_on right c.add_row.ensures in
    writes_then rowed c.enter.ensures
    (split_made c.args.memory.now.words.now c.add_suffix.new.memory.words.now c.set_cell.new.memory.words.now c.set_cell-2.new.memory.words.now c.add_row.new.memory.words.now _ (dims c.args.memory.now.shape) c.args.search c.last_edge-edge.result.0 c.successor.result.0 c.edge_of-other.result.0 c.suffixes-suffix.result c.span_behind-span.result (omega arith) c.last_edge-edge.ensures c.successor.ensures c.edge_of-other.ensures c.suffixes-suffix.ensures.count c.span_behind-span.ensures suffixed.words (done_at c.set_cell.ensures (dims_kept suffixed)) (done_at c.set_cell-2.ensures (dims_kept left)) (done_at c.add_row.ensures (dims_kept right)) (done_at c.enter.ensures (dims_kept rowed)))
