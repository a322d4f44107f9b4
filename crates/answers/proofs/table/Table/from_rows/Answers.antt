use Rattle.std.proofs.Common.{◌≡◌, ◌-◌, [], ◌++◌, length, get_or, vec_items, sym, ap, ◌∙◌, subst, arith}
use Rattle.answers.specs.Made.{lists, AllLead}
use Rattle.answers.proofs.Gathered.{length-lists, list_read, width_read, gathered_more, gathered_long, gathered_inside}
use Rattle.answers.proofs.table.Table.from_rows.Goals as goal

pub loop-i-preserved : goal.loop-i-preserved
loop-i-preserved c =
    let rows = c.args.rows.now in
    let row = c.index-rows-i.result in
    let i = c.loop-i.i in
    let list = list_read rows i row c.loop-i-test.true c.index-rows-i.is in
    let lead = subst (λ z. AllLead z (c.len-width.result - 1) (length rows)) (c.as_slice.ensures.value ∙ list) c.in_default-stray_key.ensures in
    let more = c.in_ok-extend_from_slice.ensures.items ∙ ap (λ z. vec_items c.loop-i.cells ++ z) (c.as_slice-in-loop-i.ensures.value ∙ list) in
    gathered_more (lists rows) c.len-width.result i (vec_items c.loop-i.cells) (vec_items c.extend_from_slice.new.self) c.loop-i.invariant
    (omega (arith, length-lists rows, c.loop-i-test.true))
    (sym (width_read rows i row c.loop-i-test.true c.index-rows-i.is) ∙ (sym c.len.ensures ∙ c.if-len-width.false))
    (subst (AllLead (get_or (lists rows) i []) (c.len-width.result - 1)) (sym (length-lists rows)) lead)
    more

pub invariant_of-result : goal.invariant_of-result
invariant_of-result c =
    let rows = c.args.rows.now in
    let cells = vec_items c.loop-i.cells in
    let all : c.loop-i.i ≡ length (lists rows) = omega (arith, length-lists rows, c.loop-i-test.false, c.loop-i.auto.i-end) in
    let long = gathered_long (lists rows) c.len-width.result c.loop-i.i cells c.loop-i.invariant all c.if-width-lt2.false in
    let inside = gathered_inside (lists rows) c.len-width.result c.loop-i.i cells c.loop-i.invariant all c.if-width-lt2.false in
    let n = length-lists rows in
    record {
      some_keys = omega arith;
      few_keys = omega arith;
      some_rows = omega (arith, c.in-Some.ensures.item.3.0);
      few_rows = omega arith;
      long = rw n at long;
      inside = rw n at inside;
    }
