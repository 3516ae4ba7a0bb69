-- Each turn puts one more pair, for which there is room.
use Rattle.std.proofs.Common.{arith}
use Rattle.listing.specs.Pairs.{pairs}
use Rattle.text.proofs.Cursors.{parts_none, parts_room, parts_more, parts_all}
use Rattle.listing.proofs.put_pairs.Goals as goal

pub loop-target-init : goal.loop-target-init
unfolding pairs
loop-target-init c = parts_none c.requires.0

pub put-requires : goal.put-requires
put-requires c = record { ends = omega (arith, (parts_room c.loop-target.invariant (omega arith)).ends) }

pub loop-target-preserved : goal.loop-target-preserved
loop-target-preserved c = parts_more c.loop-target.invariant (omega arith) (rw c.into.ensures at c.put.ensures)

pub returns : goal.returns
unfolding pairs
returns c = parts_all c.loop-target.invariant (omega arith)
