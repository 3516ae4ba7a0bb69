-- A move more is measured with its pairs; few targets keep the sum small.
use Rattle.std.proofs.Common.{◌≡◌, arith}
use Rattle.listing.specs.Pairs.{open_targets, pairs_below}
use Rattle.basics.proofs.Parts.{measured_none, measured_more, measured_all}
use Rattle.listing.proofs.PairLists.{pairs-length, targets_at, targets_most}
use Rattle.listing.proofs.count_open.Goals as goal

pub loop-mv-init : goal.loop-mv-init
loop-mv-init c = (omega arith, measured_none _ 0)

pub loop-mv-preserved : goal.loop-mv-preserved
loop-mv-preserved c =
    let mv = c.loop-mv.mv-index in
    let n : c.open_targets.result ≡ open_targets c.args.mover mv = targets_at c.args.mover mv (omega arith) c.open_targets.ensures in (
      omega (arith, targets_most c.args.mover mv),
      measured_more c.loop-mv.invariant.1 (omega arith) (omega (arith, pairs-length mv (open_targets c.args.mover mv))),
    )

pub returns : goal.returns
unfolding pairs_below
returns c = omega (arith, measured_all c.loop-mv.invariant.1 (omega arith))
