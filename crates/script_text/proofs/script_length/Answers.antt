use native.Mathlib.Omega.{arith}
use Rattle.definitions.specs.Chains.{requests_of}
use Rattle.basics.proofs.Chunks.{triples_come, next_item, last_item}
use Rattle.theory.proofs.Triples.{triples_count}
use Rattle.text.proofs.Items.{measured_more, measured_all}
use Rattle.script_text.proofs.ScriptParts.{by_moves, script_size}
use Rattle.script_text.proofs.script_length.Goals as goal

pub overflow_add-total : goal.overflow_add-total
overflow_add-total c =
    let turn = next_item (triples_come c.args.triples.now (cc) (cc)) c.loop-triple.yielded _ c.loop-triple.yielded_by _ _ _ c.in-Some.is c.next.ensures.steps in
    omega (arith, c.requires, turn.within, triples_count c.args.triples.now)

pub loop-triple-preserved : goal.loop-triple-preserved
loop-triple-preserved c =
    let turn = next_item (triples_come c.args.triples.now (cc) (cc)) c.loop-triple.yielded _ c.loop-triple.yielded_by _ _ _ c.in-Some.is c.next.ensures.steps in
    (omega (arith, turn.more), measured_more by_moves turn c.loop-triple.invariant.1 c.move_length-total.ensures.size)

pub returns : goal.returns
returns c =
    let end = last_item (triples_come c.args.triples.now (cc) (cc)) c.loop-triple.yielded _ c.loop-triple.yielded_by _ _ c.in-None.is c.next.ensures.steps in
    omega (arith, measured_all by_moves end c.loop-triple.invariant.1, script_size c.args.threads (requests_of c.args.triples.now))
