use native.Mathlib.Omega.{arith}
use Rattle.basics.proofs.Chunks.{pairs_come, next_item, last_item}
use Rattle.text.proofs.Items.{measured_more, measured_most, measured_all}
use Rattle.event_lines.proofs.EventLines.{by_pairs}
use Rattle.event_lines.proofs.events_length.Goals as goal

pub overflow_add-total : goal.overflow_add-total
overflow_add-total c =
    let turn = next_item (pairs_come c.args.history.now (cc) (cc)) c.loop-pair.yielded _ c.loop-pair.yielded_by _ _ _ c.in-Some.is c.next.ensures.steps in
    omega (arith, c.requires, measured_most by_pairs turn c.loop-pair.invariant c.event_length-total.ensures)

pub loop-pair-preserved : goal.loop-pair-preserved
loop-pair-preserved c =
    let turn = next_item (pairs_come c.args.history.now (cc) (cc)) c.loop-pair.yielded _ c.loop-pair.yielded_by _ _ _ c.in-Some.is c.next.ensures.steps in
    measured_more by_pairs turn c.loop-pair.invariant c.event_length-total.ensures

pub returns : goal.returns
returns c =
    let end = last_item (pairs_come c.args.history.now (cc) (cc)) c.loop-pair.yielded _ c.loop-pair.yielded_by _ _ c.in-None.is c.next.ensures.steps in
    omega (arith, measured_all by_pairs end c.loop-pair.invariant)
