use Rattle.std.proofs.Common.{sym, subst, vec_items, add-one, arith}
use Rattle.verdicts.specs.Listings.{begun, further, Looked}
use Rattle.verdicts.proofs.Listed.{noted_few}
use Rattle.verdicts.proofs.listing.Listing.look.Goals as goal

pub loop-i-init : goal.loop-i-init
loop-i-init g c = record { looked = begun; few = omega arith }

pub loop-i-preserved : goal.loop-i-preserved
loop-i-preserved g c = record {
  looked = subst (λ n. Looked c.args.most (goal.F-post g c.args.check) (vec_items c.args.self.now.first) c.args.self.now.count n (vec_items c.note.new.self.first) c.note.new.self.count) (sym (add-one c.loop-i.i)) (further c.loop-i.invariant.looked c.check.ensures c.in_ok-note.ensures);
  few = noted_few c.args.most c.check.result (vec_items c.loop-i.self.first) c.loop-i.self.count (vec_items c.note.new.self.first) c.note.new.self.count _ c.loop-i.i c.in_ok-note.ensures c.loop-i.invariant.few;
}
