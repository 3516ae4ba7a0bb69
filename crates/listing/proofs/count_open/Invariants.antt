-- The pairs of the moves passed are measured.
use Rattle.std.proofs.Common.{◌*◌, ◌≤◌}
use Rattle.definitions.specs.Bounds.{most_threads}
use Rattle.basics.proofs.Parts.{PartsMeasured}
use Rattle.listing.proofs.PairLists.{open_parts}
use Rattle.listing.proofs.count_open.Given as goal

abbrev pub invariant-loop-mv : goal.invariant-loop-mv
invariant-loop-mv l = (l.bytes ≤ 2 * most_threads * l.mv-index) × PartsMeasured (open_parts l.mover) 0 l.mv-index l.bytes
