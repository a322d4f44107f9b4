use Rattle.std.proofs.Common.{arith}
use Rattle.areas.specs.declared.area.Area.TheVariants.{Header, Edges, Access, Sizes, Suffixes, Cells, Successors, Answers, Letters}
use Rattle.areas.specs.Layout.{sized, base_of}
use Rattle.areas.proofs.Bases.{base_in}
use Rattle.areas.proofs.shape.layout.start.Goals as goal

pub returns-in-Header : goal.returns-in-Header
unfolding base_of
returns-in-Header c = base_in (sized c.args.counts.keys c.args.counts.most 0) c.args.area Header _ c.in-Header.is (omega arith)

pub returns-in-Edges : goal.returns-in-Edges
unfolding base_of
returns-in-Edges c = base_in (sized c.args.counts.keys c.args.counts.most 0) c.args.area Edges _ c.in-Edges.is (omega arith)

pub returns-in-Access : goal.returns-in-Access
unfolding base_of
returns-in-Access c = base_in (sized c.args.counts.keys c.args.counts.most 0) c.args.area Access _ c.in-Access.is (omega arith)

pub returns-in-Sizes : goal.returns-in-Sizes
unfolding base_of
returns-in-Sizes c = base_in (sized c.args.counts.keys c.args.counts.most 0) c.args.area Sizes _ c.in-Sizes.is (omega arith)

pub returns-in-Suffixes : goal.returns-in-Suffixes
unfolding base_of
returns-in-Suffixes c = base_in (sized c.args.counts.keys c.args.counts.most 0) c.args.area Suffixes _ c.in-Suffixes.is (omega arith)

pub returns-in-Cells : goal.returns-in-Cells
unfolding base_of
returns-in-Cells c = base_in (sized c.args.counts.keys c.args.counts.most 0) c.args.area Cells _ c.in-Cells.is (omega arith)

pub returns-in-Successors : goal.returns-in-Successors
unfolding base_of
returns-in-Successors c = base_in (sized c.args.counts.keys c.args.counts.most 0) c.args.area Successors _ c.in-Successors.is (omega arith)

pub returns-in-Answers : goal.returns-in-Answers
unfolding base_of
returns-in-Answers c = base_in (sized c.args.counts.keys c.args.counts.most 0) c.args.area Answers _ c.in-Answers.is (omega arith)

pub returns-in-Letters : goal.returns-in-Letters
unfolding base_of
returns-in-Letters c = base_in (sized c.args.counts.keys c.args.counts.most 0) c.args.area Letters _ c.in-Letters.is (omega arith)
