-- `write_pairs` meets its contract: each turn puts the triples of its pair.
use Rattle.basics.proofs.Chunks.{pairs_come, next_item, last_item}
use Rattle.text.proofs.Items.{items_none, item_room, items_more, items_all}
use Rattle.plan.proofs.PlanParts.{by_pairs}
use Rattle.plan.proofs.write_pairs.Goals as goal

pub loop-pair-init : goal.loop-pair-init
loop-pair-init c = items_none c.requires

pub write_pair-requires : goal.write_pair-requires
write_pair-requires c =
    let turn = next_item (pairs_come c.args.history.now (cc) (cc)) c.loop-pair.yielded _ c.loop-pair.yielded_by _ _ _ c.in-Some.is c.next.ensures.steps in
    item_room (by_pairs c.args.threads) turn c.loop-pair.invariant

pub loop-pair-preserved : goal.loop-pair-preserved
loop-pair-preserved c =
    let turn = next_item (pairs_come c.args.history.now (cc) (cc)) c.loop-pair.yielded _ c.loop-pair.yielded_by _ _ _ c.in-Some.is c.next.ensures.steps in
    items_more (by_pairs c.args.threads) turn c.loop-pair.invariant c.write_pair.ensures

pub returns : goal.returns
returns c =
    let end = last_item (pairs_come c.args.history.now (cc) (cc)) c.loop-pair.yielded _ c.loop-pair.yielded_by _ _ c.in-None.is c.next.ensures.steps in
    items_all (by_pairs c.args.threads) end c.loop-pair.invariant
