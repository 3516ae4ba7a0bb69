-- The table with every thread in phase 9: its bytes have the right size for N, the record that is read off them, that it is sound, and its number (Measure), which is N × (3N + 5).
use Prim.Native.Nat.{ℕ, ◌+◌, ◌*◌, ◌≤◌, ◌<◌}
use native.Mathlib.Omega.{arith}
use mathlib.Core.Bool.{Bool, true, false, cond, not}
use mathlib.Core.Path.{◌≡◌, refl, sym, subst, ◌∙◌, fun_ext}
use lib.Dec.{T, ltb}
use Rattle.definitions.specs.Bounds.{most_threads, no_target}
use Rattle.definitions.specs.Phases.{rows, holds}
use Rattle.definitions.specs.Sound.{sound, backed_off}
use Rattle.definitions.specs.Table.{Table, table_of, sized}
use Rattle.basics.proofs.Sums.{sum_each}
use Rattle.theory.proofs.Stages.{nobody_sound}
use Rattle.theory.proofs.Writes.{same-table}
use Rattle.progress.specs.Progress.{most_progress, all_called}
use Rattle.progress.proofs.Measure.{alone, part, total, measure}
use Rattle.progress.proofs.ThreadBytes.{of_thread, bytes-table, bytes-sized}

-- ---- the record

-- every thread is in 9, and nothing stands beyond them
abbrev pub called_table : ℕ → Table
called_table n = record { threads = n; mutex = 0; target = no_target; phase = λ j. cond (ltb j n) 9 0; busy = λ j. 0; forbidden = λ j. 0 }

-- it is what is read off the bytes
pub called_table_lem : (n : ℕ) → table_of (all_called n) ≡ called_table n
unfolding all_called
called_table_lem n =
    bytes-table n 0 no_target (λ j. 9) (λ j. 0) (λ j. 0)
    ∙ same-table _ (called_table n) refl refl refl refl (fun_ext (λ j. zeros (ltb j n))) (fun_ext (λ j. zeros (ltb j n)))
  where
    zeros : (b : Bool) → ◌≡◌ {A = ℕ} (cond b 0 0) 0
    zeros true = refl
    zeros false = refl

-- the bytes are 3 + 3N
pub called_sized : (n : ℕ) → 1 ≤ n → n ≤ most_threads → T (sized (all_called n))
unfolding all_called
called_sized n = bytes-sized n 0 no_target (λ j. 9) (λ j. 0) (λ j. 0)

-- ---- its soundness and its number

module _ (n : ℕ) where
  in_9 : (j : ℕ) → j < n → (called_table n).phase j ≡ 9
  in_9 = of_thread n (λ j. 9)

  pub called_sound : 1 ≤ n → T (sound (called_table n))
  unfolding rows
  called_sound least =
      nobody_sound (called_table n) record { phases = λ j l. omega (arith, in_9 j l); flags = λ j l. omega arith; busies = λ j l. rw (in_9 j l) }
      (λ j l t. subst (λ (p : ℕ). T (holds p)) (in_9 j l) t)
      refl refl (λ j l. refl)
      (0, least, subst (λ (p : ℕ). T (not (backed_off p))) (sym (in_9 0 least)) tt)

  pub called_measure : measure (called_table n) ≡ most_progress n
  unfolding total part alone rows
  called_measure = sum_each (λ j. part n _ ((called_table n).phase j)) (3 * n + 5) n (λ j l. rw (in_9 j l))
