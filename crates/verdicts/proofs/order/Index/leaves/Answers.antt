use Rattle.std.proofs.lemmas.Slice.Eq.{starts_is}
use Rattle.std.proofs.lemmas.Bool.Decides.{Decides-eqb}
use Rattle.verdicts.proofs.Followed.{leaves_by}
use Rattle.verdicts.proofs.order.Index.leaves.Goals as goal

pub returns : goal.returns
returns c = leaves_by c.word_of.result.now _ c.args.word.now c.starts_with.result c.word_of.ensures (starts_is Decides-eqb c.word_of.result.now c.args.word.now c.starts_with.result c.starts_with.ensures.value)
