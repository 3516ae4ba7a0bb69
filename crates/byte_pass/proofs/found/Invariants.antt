-- With the two words at hand, those of the threads passed and of those read first are collected.
use Rattle.std.proofs.Common.{◌+◌, ◌≡◌, ◌*◌, ◌/◌, ◌≤◌}
use Rattle.definitions.specs.Table.{table_of}
use Rattle.byte_pass.proofs.Passing.{AtHand}
use Rattle.byte_pass.proofs.found.Given as goal

abbrev pub invariant-loop-j-2 : goal.invariant-loop-j-2
invariant-loop-j-2 l = (l.j ≤ l.left) × AtHand (table_of l.table) l.last (l.next + 2 * l.j) l.total l.seen l.first l.second

abbrev pub invariant-loop-j : goal.invariant-loop-j
invariant-loop-j l = (l.next + 2 * l.left ≡ 2 * (l.last / 2)) × AtHand (table_of l.table) l.last l.next l.total l.seen l.first l.second

abbrev pub decreases-loop-j : goal.decreases-loop-j
decreases-loop-j l = l.left
