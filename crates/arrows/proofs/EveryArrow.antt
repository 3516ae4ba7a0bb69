-- 02 §7, its last sentence: "each arrow from one node to another whose condition holds there for a thread can be taken by that thread, after moves that keep every thread in its node".
-- `every-arrow`: for every N of 1 to 200, every table that accepted moves leave from the fresh one, each of the twelve arrows and every thread that stands where the arrow begins,
-- nobody being where its guard wants nobody: some 16-bit requests, at most `moves_before` of them, are accepted one after the other and keep all nodes,
-- and then one of that thread's own is accepted and takes it along the arrow.
use Prim.Native.Nat.{ℕ, suc, ◌≤◌}
use native.Mathlib.Omega.{arith}
use mathlib.Core.List.Memᴰ
use mathlib.Core.List.{List, [], ◌∷◌, Memᴰ}
use mathlib.Core.Logic.{⊎_elim}
use mathlib.Core.Path.{sym, subst}
use lib.Dec.{T}
use Rattle.definitions.specs.Bounds.{most_threads}
use Rattle.definitions.specs.Nodes.{nodes_of, Arrow, arrows}
use Rattle.definitions.specs.Sound.{sound}
use Rattle.definitions.specs.Table.{Table, table_of}
use Rattle.definitions.specs.Threads.{among}
use Rattle.completeness.specs.Reached.{Reached}
use Rattle.completeness.proofs.Completeness.{complete}
use Rattle.arrows.specs.Arrows.{moves_before, CanTake, Enabled}
use Rattle.arrows.proofs.ClearingFlags.{clear_flags}
use Rattle.arrows.proofs.Immediate.{call_shared_lem, enter-shared, leave_shared, return_shared, call_exclusive_lem, enter-exclusive, leave_exclusive, return_exclusive}
use Rattle.arrows.proofs.OnBytes.{carried}
use Rattle.arrows.proofs.Taking.{Can, at_most}
use Rattle.arrows.proofs.TakingMutex.{take-mutex}
use Rattle.arrows.proofs.ToExclusive.{to-exclusive}
use Rattle.arrows.proofs.ToShared.{to-shared}

-- what holds of the first arrow of a list and of all others holds of every one
module _ (P : Arrow → Type 0) where
  and_all : {x : Arrow} {xs : List Arrow} → P x → ((a : Arrow) → Memᴰ a xs → P a) → (a : Arrow) → Memᴰ a (x ∷ xs) → P a
  and_all here others a m = ⊎_elim (λ e. subst P (sym e) here) (others a) (Memᴰ.cases_cons m)

  none_left : (a : Arrow) → Memᴰ a [] → P a
  none_left a m = absurd (Memᴰ.not-nil m)

-- on the record
module _ (s : Table) (g : T (sound s)) (i : ℕ) where
  -- by at most as many moves as `moves_before` says, and the last
  abbrev CanFew : Arrow → Type 0
  CanFew a = Enabled (nodes_of s) a i → Can (suc (moves_before s.threads a)) s a i

  also : {x : Arrow} {xs : List Arrow} {b : ℕ} → (Enabled (nodes_of s) x i → Can b s x i) → b ≤ suc (moves_before s.threads x)
      → ((a : Arrow) → Memᴰ a xs → CanFew a) → (a : Arrow) → Memᴰ a (x ∷ xs) → CanFew a
  also can few = and_all CanFew (λ enabled. at_most few (can enabled))

  can_take : (a : Arrow) → Memᴰ a arrows → CanFew a
  unfolding arrows among moves_before
  can_take =
      also (call_shared_lem s g i) (omega arith)
      (also (to-shared s g i) (omega arith)
      (also (enter-shared s g i) (omega arith)
      (also (leave_shared s g i) (omega arith)
      (also (return_shared s g i) (omega arith)
      (also (call_exclusive_lem s g i) (omega arith)
      (also (take-mutex s g i) (omega arith)
      (also (to-exclusive s g i) (omega arith)
      (also (enter-exclusive s g i) (omega arith)
      (also (leave_exclusive s g i) (omega arith)
      (also (clear_flags s g i) (omega arith)
      (also (return_exclusive s g i) (omega arith)
      (none_left CanFew))))))))))))

-- on the bytes
pub every-arrow : (n : ℕ) → 1 ≤ n → n ≤ most_threads → (table : List ℕ) → Reached n table → (a : Arrow) → Memᴰ a arrows → (i : ℕ)
    → Enabled (nodes_of (table_of table)) a i → CanTake table a i
every-arrow n least most table reached a m i enabled =
    let (fits, e, g) = (complete n least most table).1 reached in
    carried a i table fits (can_take (table_of table) g i a m enabled)
