use Rattle.std.proofs.Common.{◌≡◌, ◌+◌, drop}
use Rattle.formats.specs.Tokens.{held, tokens_on, line_tokens}
use Rattle.formats.proofs.scan.tokens.Given as goal

abbrev pub invariant-loop-i : goal.invariant-loop-i
invariant-loop-i l = tokens_on (held l.reader) (l.i + 1) (drop l.i l.line) ≡ line_tokens l.line
