use Rattle.std.proofs.Common.{sym, rules}
use Rattle.areas.specs.Words.{set_wide}
use Rattle.areas.proofs.Pairs.{set_wide_past}
use Rattle.areas.proofs.words.put_wide.Goals as goal

pub returns-then-i-store : goal.returns-then-i-store
unfolding set_wide
returns-then-i-store c = search rules

pub returns-else-i-store : goal.returns-else-i-store
returns-else-i-store c = sym (set_wide_past c.args.store.now c.args.i c.args.v c.if-i-store.false)
