use Rattle.std.proofs.lemmas.Result.{MatchResult-at_err}
use Rattle.game.proofs.Sounds.{only_memory}
use Rattle.game.proofs.hypotheses.table_of.Goals as goal

pub map_err-requires : goal.map_err-requires
map_err-requires c = λ fault is.
    let p = c.requires in
    only_memory c.args.keys p.0 c.args.numbers.now p.1 p.2 p.3 p.4 fault (MatchResult-at_err _ _ fault is c.from_numbers.ensures)
