-- `set_each` meets its contract: each turn is a set and a go, one behind the other.
use Rattle.std.proofs.Common.{arith}
use Rattle.definitions.specs.Plan.{bytes_of}
use Rattle.text.proofs.Cursors.{puts_both, parts_none, parts_room, parts_more, parts_all}
use Rattle.repeats.proofs.set_each.Goals as goal

pub loop-t-init : goal.loop-t-init
loop-t-init c = parts_none c.requires

pub put_triple-requires : goal.put_triple-requires
unfolding bytes_of
put_triple-requires c = let room = parts_room c.loop-t.invariant c.loop-t-test.true in record { ends = omega arith }

pub put_triple-requires-in-loop-t : goal.put_triple-requires-in-loop-t
unfolding bytes_of
put_triple-requires-in-loop-t c = let room = parts_room c.loop-t.invariant c.loop-t-test.true in record { ends = omega (arith, c.put_triple.ensures.put.next, c.put_triple.ensures.size) }

pub loop-t-preserved : goal.loop-t-preserved
unfolding bytes_of
loop-t-preserved c = parts_more c.loop-t.invariant c.loop-t-test.true (puts_both c.put_triple.ensures c.put_triple-in-loop-t.ensures)

pub returns : goal.returns
returns c = parts_all c.loop-t.invariant c.loop-t-test.false
