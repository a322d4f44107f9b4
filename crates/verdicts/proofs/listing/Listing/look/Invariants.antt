use Rattle.std.proofs.Common.{◌+◌, ◌≤◌, vec_items}
use Rattle.verdicts.specs.Listings.{Looked}
use Rattle.verdicts.proofs.listing.Listing.look.Given as goal

abbrev pub invariant-loop-i : goal.invariant-loop-i
invariant-loop-i g l = record {
  looked : Looked l.most (goal.F-post g l.check) (vec_items l.initial.self.first) l.initial.self.count l.i (vec_items l.self.first) l.self.count;
  few : l.self.count ≤ l.initial.self.count + l.i;
}
