use Rattle.basics.proofs.Chunks.{triples_come, next_item, last_item}
use Rattle.text.proofs.Items.{item_room, items_more, items_all}
use Rattle.script_text.proofs.ScriptParts.{by_moves}
use Rattle.script_text.proofs.put_moves.Goals as goal

pub put_move-requires : goal.put_move-requires
put_move-requires c =
    let turn = next_item (triples_come c.args.triples.now (cc) (cc)) c.loop-triple.yielded _ c.loop-triple.yielded_by _ _ _ c.in-Some.is c.next.ensures.steps in
    item_room by_moves turn c.loop-triple.invariant

pub loop-triple-preserved : goal.loop-triple-preserved
loop-triple-preserved c =
    let turn = next_item (triples_come c.args.triples.now (cc) (cc)) c.loop-triple.yielded _ c.loop-triple.yielded_by _ _ _ c.in-Some.is c.next.ensures.steps in
    items_more by_moves turn c.loop-triple.invariant c.put_move.ensures

pub returns : goal.returns
returns c =
    let end = last_item (triples_come c.args.triples.now (cc) (cc)) c.loop-triple.yielded _ c.loop-triple.yielded_by _ _ c.in-None.is c.next.ensures.steps in
    items_all by_moves end c.loop-triple.invariant
