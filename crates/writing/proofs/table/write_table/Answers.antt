-- The entries are written one by one.
use Rattle.std.proofs.Common.{◌≡◌, ℕ, ◌+◌, ◌*◌, ◌<◌, length, subst, arith}
use Rattle.std.proofs.lemmas.List.{length-take-le}
use Rattle.areas.specs.Shapes.{dims}
use Rattle.writing.proofs.Entries.{entry_more, entries_counted, table_laid}
use Rattle.writing.proofs.table.write_table.Goals as goal

pub loop-p-preserved : goal.loop-p-preserved
loop-p-preserved g c h =
    let all = entries_counted (g.M.Readable.held c.args.memory.now) (dims (g.M.Readable.laid_for c.args.memory.now)) c.keys-width.result c.min-rows.result c.rows.result c.most.result h c.keys-width.ensures c.min-rows.ensures c.rows.ensures.count c.most.ensures in
    let part : length c.loop-p.number-items ≡ c.min-end.result = omega (arith, length-take-le c.min-end.result c.args.out.now (omega (arith, c.min-end.ensures))) in
    entry_more (g.M.Readable.held c.args.memory.now) (dims (g.M.Readable.laid_for c.args.memory.now)) c.keys-width.result c.loop-p.number-items c.loop-p.p c.entry.result c.keys-width.ensures
    (subst (λ (z : ℕ). c.loop-p.p < z * (c.keys-width.result + 1)) all.0 (omega (arith, c.loop-p-test.true, c.min-end.ensures, part)))
    (omega (arith, c.loop-p-test.true, part))
    (c.entry.ensures h)
    (c.loop-p.invariant h)

pub returns : goal.returns
returns g c h =
    let all = entries_counted (g.M.Readable.held c.args.memory.now) (dims (g.M.Readable.laid_for c.args.memory.now)) c.keys-width.result c.min-rows.result c.rows.result c.most.result h c.keys-width.ensures c.min-rows.ensures c.rows.ensures.count c.most.ensures in
    let part : length c.loop-p.number-items ≡ c.min-end.result = omega (arith, length-take-le c.min-end.result c.args.out.now (omega (arith, c.min-end.ensures))) in
    record {
      count = all.0;
      laid = λ room. table_laid (g.M.Readable.held c.args.memory.now) (dims (g.M.Readable.laid_for c.args.memory.now)) c.args.out.now c.loop-p.number-items c.loop-p.p c.min-end.result (omega (arith, c.min-end.ensures, all.1, room)) (omega (arith, c.loop-p-test.false, part)) part (c.loop-p.invariant h);
    }
