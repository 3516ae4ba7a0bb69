-- Figure 1's conditions are exact.
-- `figure_exact`: for every N of 1 to 200, every table that accepted moves leave from the fresh one, each of the twelve arrows and every thread,
-- the thread can take the arrow after at most `moves_before` moves that keep every thread in its node if and only if it is one of the table's,
-- it stands where the arrow begins and nobody is where the arrow's guard wants nobody.
use Prim.Native.Nat.{ℕ, ◌≤◌}
use mathlib.Core.List.{List, [], ◌∷◌, Memᴰ}
use mathlib.Core.Logic.{◌↔◌}
use mathlib.Core.Path.{◌≡◌, refl, subst, ◌∙◌}
use Rattle.definitions.specs.Bounds.{most_threads}
use Rattle.definitions.specs.Chains.{table_after, after_in}
use Rattle.definitions.specs.Moves.{move_table}
use Rattle.definitions.specs.Nodes.{nodes_of, Arrow, arrows}
use Rattle.definitions.specs.Table.{table_of}
use Rattle.definitions.specs.declared.Request.{Request}
use Rattle.completeness.specs.Reached.{Reached}
use Rattle.arrows.specs.Arrows.{KeepNodes, CanTake, Enabled}
use Rattle.arrows.proofs.EveryArrow.{every-arrow}

-- the nodes after requests that keep them
kept-nodes : (table : List ℕ) (rs : List Request) → KeepNodes table rs → nodes_of (table_of (table_after table rs)) ≡ nodes_of (table_of table)
unfolding after_in
kept-nodes table [] keep = refl
kept-nodes table (r ∷ rs) keep = kept-nodes (move_table table r) rs keep.2 ∙ keep.1

-- so the arrow's condition held at the start, of any bytes
was_enabled : (table : List ℕ) (a : Arrow) (i : ℕ) → CanTake table a i → Enabled (nodes_of (table_of table)) a i
was_enabled table a i can =
    subst (λ (nodes : List ℕ). Enabled nodes a i) (kept-nodes table can.before can.keep) (record { there = can.takes.there; begins = can.takes.begins; guard = can.takes.guard })

pub figure_exact : (n : ℕ) → 1 ≤ n → n ≤ most_threads → (table : List ℕ) → Reached n table → (a : Arrow) → Memᴰ a arrows → (i : ℕ)
    → Enabled (nodes_of (table_of table)) a i ↔ CanTake table a i
figure_exact n least most table reached a m i = (every-arrow n least most table reached a m i, was_enabled table a i)
