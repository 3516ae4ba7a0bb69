-- The entries on a table: a refused move leaves every byte of it, and which outputs have room for a fresh table, for the nodes and for the open moves.
use Rattle.std.specs.Prelude.{ℕ, ◌*◌, ◌≤◌, not, List, ◌≡◌, T, length}
use Rattle.definitions.specs.Answers.{accepted}
use Rattle.definitions.specs.Bounds.{most_threads}
use Rattle.definitions.specs.Moves.{accepts_in, move_table}
use Rattle.definitions.specs.Nodes.{nodes_of, nodes_entry}
use Rattle.definitions.specs.OpenMoves.{open_entry}
use Rattle.definitions.specs.Table.{byte_table, table_of, size, fresh, fresh_entry}
use Rattle.definitions.specs.declared.Request.{Request}
use Rattle.basics.specs.Outputs.{Delivered}
use Rattle.theory.specs.Tables.{SoundBytes}

pub record TableEntries : Type 0 where
  -- A refused move leaves every byte of the table.
  pub refused-keeps : (table : List ℕ) (r : Request) → T (not (accepts_in byte_table table r)) → move_table table r ≡ table
  -- Rooms that suffice: 3 + 3N bytes are exactly the fresh table, N bytes the nodes; 4N bytes hold the open moves of a thread.
  pub fresh-room : (n : ℕ) (out : List ℕ) → 1 ≤ n → n ≤ most_threads → length out ≡ size n
      → Delivered (fresh_entry n) out (fresh n) (accepted (size n))
  pub nodes-room : (table out : List ℕ) → SoundBytes table → length out ≡ (table_of table).threads
      → Delivered (nodes_entry table) out (nodes_of (table_of table)) (accepted (table_of table).threads)
  pub open_room : (table : List ℕ) (thread : ℕ) → length (open_entry table thread).text ≤ 4 * (table_of table).threads
