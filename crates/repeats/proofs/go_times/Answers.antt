-- `go_times` meets its contract: each turn is one go.
use Rattle.text.proofs.Cursors.{parts_none, parts_room, parts_more, parts_all}
use Rattle.repeats.proofs.go_times.Goals as goal

pub loop-init : goal.loop-init
loop-init c = parts_none c.requires

pub put_triple-requires : goal.put_triple-requires
put_triple-requires c = parts_room c.loop.invariant c.loop-test.true

pub loop-preserved : goal.loop-preserved
loop-preserved c = parts_more c.loop.invariant c.loop-test.true c.put_triple.ensures

pub returns : goal.returns
returns c = parts_all c.loop.invariant c.loop-test.false
