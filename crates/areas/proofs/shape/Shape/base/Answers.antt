use Rattle.std.proofs.Common.{◌∙◌, arith}
use Rattle.areas.specs.Shapes.{dims}
use Rattle.areas.proofs.Bases.{base_any_length, ends_within, limits_of}
use Rattle.areas.proofs.shape.Shape.base.Goals as goal

pub returns : goal.returns
returns c = record {
  exact = c.start.ensures ∙ base_any_length c.args.self.counts.keys c.args.self.counts.most 0 c.args.self.length c.args.area;
  within = omega (arith, ends_within (dims c.args.self) c.args.area (limits_of c.args.self));
}
