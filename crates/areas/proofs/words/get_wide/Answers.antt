use Rattle.std.proofs.Common.{sym, rules}
use Rattle.areas.specs.Words.{wide}
use Rattle.areas.proofs.Pairs.{wide_past}
use Rattle.areas.proofs.words.get_wide.Goals as goal

pub returns-then-i-store : goal.returns-then-i-store
unfolding wide
returns-then-i-store c = search rules

pub returns-else-i-store : goal.returns-else-i-store
returns-else-i-store c = sym (wide_past c.args.store.now c.args.i c.if-i-store.false)
