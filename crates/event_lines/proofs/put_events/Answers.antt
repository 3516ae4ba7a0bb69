use Rattle.basics.proofs.Chunks.{pairs_come, next_item, last_item}
use Rattle.text.proofs.Items.{item_room, items_more, items_all}
use Rattle.event_lines.proofs.EventLines.{by_pairs}
use Rattle.event_lines.proofs.put_events.Goals as goal

pub put_event-requires : goal.put_event-requires
put_event-requires c =
    let turn = next_item (pairs_come c.args.history.now (cc) (cc)) c.loop-pair.yielded _ c.loop-pair.yielded_by _ _ _ c.in-Some.is c.next.ensures.steps in
    item_room by_pairs turn c.loop-pair.invariant

pub loop-pair-preserved : goal.loop-pair-preserved
loop-pair-preserved c =
    let turn = next_item (pairs_come c.args.history.now (cc) (cc)) c.loop-pair.yielded _ c.loop-pair.yielded_by _ _ _ c.in-Some.is c.next.ensures.steps in
    items_more by_pairs turn c.loop-pair.invariant c.put_event.ensures

pub returns : goal.returns
returns c =
    let end = last_item (pairs_come c.args.history.now (cc) (cc)) c.loop-pair.yielded _ c.loop-pair.yielded_by _ _ c.in-None.is c.next.ensures.steps in
    items_all by_pairs end c.loop-pair.invariant
