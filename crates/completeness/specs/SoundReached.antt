-- The sound tables are those reached: completeness (02 §6), and what a refused table tells.
use Rattle.std.specs.Prelude.{ℕ, ◌≤◌, List, ◌↔◌, ◌≡◌, T}
use Rattle.definitions.specs.Answers.{refused, delivery_reply}
use Rattle.definitions.specs.Bounds.{most_threads}
use Rattle.definitions.specs.Dispatch.{dispatch_reply}
use Rattle.definitions.specs.Moves.{move_reply}
use Rattle.definitions.specs.Nodes.{nodes_entry}
use Rattle.definitions.specs.OpenMoves.{open_entry}
use Rattle.definitions.specs.Sound.{sound}
use Rattle.definitions.specs.Table.{table_of, sized}
use Rattle.definitions.specs.declared.Request.{Request}
use Rattle.completeness.specs.Reached.{Reached}

pub record SoundReached : Type 0 where
  -- The sound tables are exactly those that requests leave: bytes have the size for N and are sound if and only if requests of 16 bits, all accepted, leave them from the fresh table for N.
  pub complete : (n : ℕ) → 1 ≤ n → n ≤ most_threads → (table : List ℕ)
      → (T (sized table) × ((table_of table).threads ≡ n) × T (sound (table_of table))) ↔ Reached n table
  -- So an entry that is lent a table refuses it by 2 exactly if it has the right size and no such requests leave it.
  pub move-refused : (table : List ℕ) (r : Request) → (move_reply table r ≡ refused 2 0) ↔ (T (sized table) × (Reached (table_of table).threads table → ⊥))
  pub nodes-refused : (table out : List ℕ) → (delivery_reply (nodes_entry table) out ≡ refused 2 0) ↔ (T (sized table) × (Reached (table_of table).threads table → ⊥))
  pub open_refused : (table : List ℕ) (thread : ℕ) (out : List ℕ)
      → (delivery_reply (open_entry table thread) out ≡ refused 2 0) ↔ (T (sized table) × (Reached (table_of table).threads table → ⊥))
  pub dispatch-refused : (table : List ℕ) → (dispatch_reply table ≡ refused 2 0) ↔ (T (sized table) × (Reached (table_of table).threads table → ⊥))
