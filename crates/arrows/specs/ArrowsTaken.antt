-- Every arrow of Figure 1 can be taken where its condition holds (02 §7).
use Rattle.std.specs.Prelude.{ℕ, ◌≤◌, ◌↔◌}
use mathlib.Core.List.{List, Memᴰ}
use Rattle.definitions.specs.Bounds.{most_threads}
use Rattle.definitions.specs.Nodes.{nodes_of, Arrow, arrows}
use Rattle.definitions.specs.Table.{table_of}
use Rattle.completeness.specs.Reached.{Reached}
use Rattle.arrows.specs.Arrows.{Enabled, CanTake}

pub record ArrowsTaken : Type 0 where
  -- Every arrow of Figure 1 can be taken: by each thread that stands where it begins, if its condition holds there, after moves that keep every thread in its node; and no others can.
  -- At most so many such moves come before it (`moves_before`): 8 from ES to LOE, 4N - 2 from SAF to LOS, N - 1 from LE to OE, 1 from LS and OE to Free and from EE to SAF, and none before the others.
  pub every-arrow : (n : ℕ) → 1 ≤ n → n ≤ most_threads → (table : List ℕ) → Reached n table → (a : Arrow) → Memᴰ a arrows → (i : ℕ)
      → Enabled (nodes_of (table_of table)) a i → CanTake table a i
  pub figure_exact : (n : ℕ) → 1 ≤ n → n ≤ most_threads → (table : List ℕ) → Reached n table → (a : Arrow) → Memᴰ a arrows → (i : ℕ)
      → Enabled (nodes_of (table_of table)) a i ↔ CanTake table a i
