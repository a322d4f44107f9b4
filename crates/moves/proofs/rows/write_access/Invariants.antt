use Rattle.std.proofs.Common.{◌≡◌, take}
use Rattle.areas.specs.Shapes.{dims}
use Rattle.model.specs.Observations.{access_word}
use Rattle.model.specs.Models.{observed_in}
use Rattle.store.specs.Decoding.{model_of}
use Rattle.moves.specs.Spelling.{RowIn}
use Rattle.moves.proofs.rows.write_access.Given as goal

abbrev pub invariant-loop-i : goal.invariant-loop-i
invariant-loop-i g l =
    RowIn (g.M.Readable.held l.memory) (dims (g.M.Readable.laid_for l.memory)) l.row.0 → take l.i l.letter-items ≡ take l.i (access_word (observed_in (model_of (g.M.Readable.held l.memory) (dims (g.M.Readable.laid_for l.memory)))) l.row.0)
