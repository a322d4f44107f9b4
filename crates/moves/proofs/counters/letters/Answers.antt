use Rattle.std.proofs.Common.{sym, ◌∙◌}
use Rattle.areas.specs.Shapes.{dims}
use Rattle.areas.proofs.Bases.{limits_of}
use Rattle.moves.proofs.Decoded.{letters_read}
use Rattle.moves.proofs.counters.letters.Goals as goal

pub returns : goal.returns
returns g c = record {
  word = c.load_wide.ensures;
  count = λ e f. c.load_wide.ensures ∙ sym (letters_read (g.M.Readable.held c.args.memory.now) (dims (g.M.Readable.laid_for c.args.memory.now)) (limits_of (g.M.Readable.laid_for c.args.memory.now)) e f);
}
