-- Each turn puts the pairs of one more move, for which there is room.
use Rattle.std.proofs.Common.{arith}
use Rattle.definitions.specs.declared.Move.TheVariants.{Go}
use Rattle.listing.specs.Pairs.{pairs_below}
use Rattle.text.proofs.Cursors.{parts_none, parts_room, parts_more, parts_all}
use Rattle.listing.proofs.PairLists.{targets_at, targets_most}
use Rattle.phase_moves.proofs.Moves.{number_at}
use Rattle.listing.proofs.put_open.Goals as goal

pub loop-mv-init : goal.loop-mv-init
unfolding pairs_below
loop-mv-init c = parts_none c.requires

pub put_pairs-requires : goal.put_pairs-requires
put_pairs-requires c =
    let i = c.loop-mv.mv-index in
    let n = targets_at c.args.mover i (omega arith) c.open_targets.ensures in (
      rw (number_at i Go (omega arith), n) (parts_room c.loop-mv.invariant (omega arith)),
      omega (arith, c.open_targets.ensures, targets_most c.args.mover),
    )

pub loop-mv-preserved : goal.loop-mv-preserved
loop-mv-preserved c =
    let i = c.loop-mv.mv-index in
    let n = targets_at c.args.mover i (omega arith) c.open_targets.ensures in
    parts_more c.loop-mv.invariant (omega arith) (rw (number_at i Go (omega arith), n) at c.put_pairs.ensures)

pub returns : goal.returns
unfolding pairs_below
returns c = parts_all c.loop-mv.invariant (omega arith)
