-- The pairs of the moves passed are put.
use Rattle.text.proofs.Cursors.{PartsPut}
use Rattle.listing.proofs.PairLists.{open_parts}
use Rattle.listing.proofs.put_open.Given as goal

abbrev pub invariant-loop-mv : goal.invariant-loop-mv
invariant-loop-mv l = PartsPut (open_parts l.mover) l.fn.out l.mv-index l.out
