-- `count_moves` meets its contract: the shares of all events, by what is made once and for each thread.
use Rattle.std.proofs.Common.{get_or, arith}
use Rattle.basics.proofs.Chunks.{pairs_come, next_item, last_item}
use Rattle.shares.proofs.Counting.{counting_none, counting_more, counting_all}
use Rattle.shares.proofs.ShareLaws.{share_right}
use Rattle.shares.proofs.count_moves.Goals as goal

pub loop-pair-init : goal.loop-pair-init
loop-pair-init c = counting_none _ _ c.requires

pub overflow_add-shares : goal.overflow_add-shares
overflow_add-shares c = let right = share_right (get_or c.in-Some.pair.now 1 0) in record { fits = omega (arith, c.share_of-shares.ensures) }

pub loop-pair-preserved : goal.loop-pair-preserved
loop-pair-preserved c =
    counting_more _ _ _ _ c.loop-pair.invariant _ _ _
    (next_item (pairs_come c.args.history.now (cc) (cc)) c.loop-pair.yielded _ c.loop-pair.yielded_by _ _ _ c.in-Some.is c.next.ensures.steps) (rw c.share_of-shares.ensures (share_right _))

pub returns : goal.returns
returns c =
    counting_all _ _ _ _ c.loop-pair.invariant
    (last_item (pairs_come c.args.history.now (cc) (cc)) c.loop-pair.yielded _ c.loop-pair.yielded_by _ _ c.in-None.is c.next.ensures.steps)
