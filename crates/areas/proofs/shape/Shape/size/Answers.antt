use Rattle.std.proofs.Common.{⊎_elim, arith}
use Rattle.areas.specs.declared.area.Area.TheVariants.{Header, Edges, Access, Sizes, Suffixes, Cells, Successors, Answers, Letters}
use Rattle.areas.specs.Layout.{size_of}
use Rattle.areas.specs.Shapes.{dims}
use Rattle.areas.proofs.Bases.{size_in}
use Rattle.areas.proofs.shape.Shape.size.Goals as goal

pub returns-in-Edges : goal.returns-in-Edges
unfolding size_of
returns-in-Edges c =
    ⊎_elim
    (λ e. size_in (dims c.args.self) c.args.area Edges _ e (omega arith))
    (λ e. size_in (dims c.args.self) c.args.area Sizes _ e (omega arith))
    c.in-Edges.is

pub returns-in-Header : goal.returns-in-Header
unfolding size_of
returns-in-Header c = size_in (dims c.args.self) c.args.area Header _ c.in-Header.is (omega arith)

pub returns-in-Access : goal.returns-in-Access
unfolding size_of
returns-in-Access c = size_in (dims c.args.self) c.args.area Access _ c.in-Access.is (omega arith)

pub returns-in-Suffixes : goal.returns-in-Suffixes
unfolding size_of
returns-in-Suffixes c = size_in (dims c.args.self) c.args.area Suffixes _ c.in-Suffixes.is (omega arith)

pub returns-in-Cells : goal.returns-in-Cells
unfolding size_of
returns-in-Cells c = size_in (dims c.args.self) c.args.area Cells _ c.in-Cells.is (omega arith)

pub returns-in-Successors : goal.returns-in-Successors
unfolding size_of
returns-in-Successors c = size_in (dims c.args.self) c.args.area Successors _ c.in-Successors.is (omega arith)

pub returns-in-Answers : goal.returns-in-Answers
unfolding size_of
returns-in-Answers c = size_in (dims c.args.self) c.args.area Answers _ c.in-Answers.is (omega arith)

pub returns-in-Letters : goal.returns-in-Letters
unfolding size_of
returns-in-Letters c = size_in (dims c.args.self) c.args.area Letters _ c.in-Letters.is (omega arith)
