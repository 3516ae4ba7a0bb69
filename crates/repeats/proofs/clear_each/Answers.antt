-- `clear_each` meets its contract: each turn clears one flag.
use Rattle.text.proofs.Cursors.{parts_none, parts_room, parts_more, parts_all}
use Rattle.repeats.proofs.clear_each.Goals as goal

pub loop-t-init : goal.loop-t-init
loop-t-init c = parts_none c.requires

pub put_triple-requires : goal.put_triple-requires
put_triple-requires c = parts_room c.loop-t.invariant c.loop-t-test.true

pub loop-t-preserved : goal.loop-t-preserved
loop-t-preserved c = parts_more c.loop-t.invariant c.loop-t-test.true c.put_triple.ensures

pub returns : goal.returns
returns c = parts_all c.loop-t.invariant c.loop-t-test.false
