-- None of the answers before is to the word.
use Rattle.std.proofs.Common.{◌≡◌, ℕ, ◌<◌}
use Rattle.areas.specs.Shapes.{dims}
use Rattle.model.specs.Observations.{word_at}
use Rattle.model.specs.Pages.{observations_of}
use Rattle.store.specs.Decoding.{page_of}
use Rattle.spelling.specs.Spelt.{spelt}
use Rattle.lookup.specs.Named.{AllNamed}
use Rattle.lookup.proofs.search.find.Given as goal

abbrev pub invariant-loop-c : goal.invariant-loop-c
invariant-loop-c g l =
    AllNamed (g.M.Readable.held l.memory) (dims (g.M.Readable.laid_for l.memory))
    → (c : ℕ) → c < l.c → word_at (observations_of (page_of (g.M.Readable.held l.memory) (dims (g.M.Readable.laid_for l.memory)))) c ≡ spelt l.word → ⊥
