-- The nodes of the threads passed stand at the front of the output.
use Rattle.std.proofs.Common.{◌≡◌, ℕ, ◌<◌, List, slice_index}
use Rattle.definitions.specs.Phases.{node_of}
use Rattle.definitions.specs.Table.{table_of}
use Rattle.nodes.proofs.nodes.Given as goal

-- the node of a thread
abbrev pub node_in : List ℕ → ℕ → ℕ
node_in table i = node_of ((table_of table).phase i)

abbrev pub invariant-loop-thread : goal.invariant-loop-thread
invariant-loop-thread l = (k : ℕ) → k < l.thread → slice_index l.node-items k ≡ node_in l.table k
