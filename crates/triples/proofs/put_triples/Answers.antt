-- `put_triples` meets its contract: each turn puts the next triple.
use Rattle.basics.proofs.Chunks.{triples_come, next_item, last_item}
use Rattle.text.proofs.Items.{items_none, item_room, items_more, items_all}
use Rattle.theory.proofs.Triples.{triples_written}
use Rattle.triples.proofs.Requests.{by_requests}
use Rattle.triples.proofs.put_triples.Goals as goal

pub loop-triple-init : goal.loop-triple-init
loop-triple-init c = items_none (rw (triples_written c.args.moves.now c.requires.whole) c.requires.room)

pub put_triple-requires : goal.put_triple-requires
put_triple-requires c =
    let turn = next_item (triples_come c.args.moves.now (cc) (cc)) c.loop-triple.yielded _ c.loop-triple.yielded_by _ _ _ c.in-Some.is c.next.ensures.steps in
    item_room by_requests turn c.loop-triple.invariant

pub loop-triple-preserved : goal.loop-triple-preserved
loop-triple-preserved c =
    let turn = next_item (triples_come c.args.moves.now (cc) (cc)) c.loop-triple.yielded _ c.loop-triple.yielded_by _ _ _ c.in-Some.is c.next.ensures.steps in
    items_more by_requests turn c.loop-triple.invariant c.put_triple.ensures

pub returns : goal.returns
returns c =
    let end = last_item (triples_come c.args.moves.now (cc) (cc)) c.loop-triple.yielded _ c.loop-triple.yielded_by _ _ c.in-None.is c.next.ensures.steps in
    rw (triples_written c.args.moves.now c.requires.whole) at (items_all by_requests end c.loop-triple.invariant)
