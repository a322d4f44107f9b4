use Rattle.std.proofs.lemmas.Bool.Decides.{not_from_Decides}
use Rattle.differences.proofs.Steps.{standing, leads, pair_inside, pair_differs, pair_visited}
use Rattle.differences.proofs.search.Search.follow.Goals as goal

pub follow-pair-requires-clause-inside : goal.follow-pair-requires-clause-inside
follow-pair-requires-clause-inside c = (standing c.index.result.now c.requires.sofar c.index.ensures).inside

pub alike-requires : goal.alike-requires
alike-requires c = pair_inside (leads c.index.result.now c.follow-pair.result c.requires.sofar c.requires.key c.index.ensures c.follow-pair.ensures.one c.follow-pair.ensures.other)

pub returns-then-not-alike-clause-sofar : goal.returns-then-not-alike-clause-sofar
returns-then-not-alike-clause-sofar c =
    pair_differs (leads c.index.result.now c.follow-pair.result c.requires.sofar c.requires.key c.index.ensures c.follow-pair.ensures.one c.follow-pair.ensures.other) (not_from_Decides _ c.alike.ensures c.if-not-alike.true)

pub returns-clause-sofar : goal.returns-clause-sofar
returns-clause-sofar c =
    let led = leads c.index.result.now c.follow-pair.result c.requires.sofar c.requires.key c.index.ensures c.follow-pair.ensures.one c.follow-pair.ensures.other in
    pair_visited led (c.alike.ensures.0 c.if-not-alike.false) c.visit.new.self c.in_ok-visit.ensures.visit c.visit.ensures.product
