-- The table for N ≥ 2 from which 6N - 2 turns are made: thread 0 is in 15 with every flag set, thread 1 in 9, and the others are in 1. The record that is read off its bytes, that it is sound,
-- that the dispatcher serves its threads in order (InOrder), and its turns left (TurnsLeft).
use Prim.Native.Nat.{ℕ, ◌+◌, ◌*◌, ◌≤◌, ◌<◌}
use native.Mathlib.Omega.{arith}
use mathlib.Core.List.{List}
use mathlib.Core.Logic.{◌⊎◌, inl, inr}
use mathlib.Core.Path.{◌≡◌, refl, sym, subst, ap, ◌∙◌}
use lib.Dec.{T, eqb}
use Rattle.definitions.specs.Bounds.{last_phase, no_target}
use Rattle.definitions.specs.Phases.{rows, busy_in, holds}
use Rattle.definitions.specs.Sound.{sound}
use Rattle.definitions.specs.Table.{Table, update}
use Rattle.definitions.specs.Threads.{sum_of}
use Rattle.basics.proofs.Quantifiers.{how_many-all}
use Rattle.basics.proofs.Sums.{sum_same, sum_update, sum_each}
use Rattle.basics.proofs.Tests.{eq_T, same?}
use Rattle.basics.proofs.Columns.{update_other}
use Rattle.progress.proofs.Measure.{alone, holding, part, total}
use Rattle.progress.proofs.ThreadBytes.{of_thread, thread_bytes, thread_table}
use Rattle.theory.proofs.Stages.{held-sound, stage_15}
use Rattle.turn_limit.specs.TurnLimit.{most_turns}
use Rattle.turn_limit.proofs.InOrder.{leaver, InOrder}
use Rattle.turn_limit.proofs.Stops.{stop, taking_some, stops_of}
use Rattle.turn_limit.proofs.TurnsLeft.{turns_left}

-- the threads' phases
abbrev phases : ℕ → ℕ
phases = update (update (λ j. 1) 1 9) 0 15

abbrev pub longest_bytes : ℕ → List ℕ
longest_bytes n = thread_bytes n 1 no_target phases (λ j. 0) (λ j. 1)

abbrev pub longest_table : ℕ → Table
longest_table n = thread_table n 1 no_target phases (λ j. 0) (λ j. 1)

module _ (n : ℕ) (two : 2 ≤ n) where
  abbrev s : Table
  s = longest_table n

  -- ---- its threads

  in_15 : s.phase 0 ≡ 15
  in_15 = of_thread n phases 0 (omega arith)

  in_9 : s.phase 1 ≡ 9
  in_9 = of_thread n phases 1 two

  in_1 : (j : ℕ) → j < n → 1 < j → s.phase j ≡ 1
  in_1 j l k =
      of_thread n phases j l ∙ (update_other (update (λ x. 1) 1 9) 0 15 j (λ e. omega arith) ∙ update_other (λ x. 1) 1 9 j (λ e. omega arith))

  each : (P : ℕ → ℕ → Type 0) → P 0 15 → P 1 9 → ((j : ℕ) → 1 < j → P j 1) → (j : ℕ) → j < n → P j (s.phase j)
  each P first second others j l = by (same? j 0) (same? j 1)
    where
      by : (j ≡ 0) ⊎ (j ≡ 0 → ⊥) → (j ≡ 1) ⊎ (j ≡ 1 → ⊥) → P j (s.phase j)
      by (inl e) k = subst (λ (x : ℕ). P x (s.phase x)) (sym e) (subst (P 0) (sym in_15) first)
      by (inr h) (inl e) = subst (λ (x : ℕ). P x (s.phase x)) (sym e) (subst (P 1) (sym in_9) second)
      by (inr h) (inr k) = subst (P j) (sym (in_1 j l (omega arith))) (others j (omega arith))

  set : (j : ℕ) → j < n → s.forbidden j ≡ 1
  set = of_thread n (λ x. 1)

  pub longest-sound : T (sound s)
  unfolding rows
  longest-sound =
      held-sound s 0 15
      record { is_thread = omega arith; phase_is = in_15; holding = tt; alone = each (λ j p. T (holds p) → j ≡ 0) (λ t. refl) (λ t. absurd t) (λ j k t. absurd t); locked = refl }
      record {
        phases = each (λ j p. p ≤ last_phase) (omega arith) (omega arith) (λ j k. omega arith);
        flags = λ j l. omega (arith, set j l);
        busies = λ j l. of_thread n (λ x. 0) j l ∙ each (λ x p. 0 ≡ busy_in p) refl refl (λ x k. refl) j l;
      }
      (stage_15 s refl (0, omega arith, set 0 (omega arith)))

  pub longest_in_order : InOrder 1 s
  longest_in_order =
      record {
        fits = two;
        below = λ j l. each (λ x p. x < 1 → T (leaver p)) (λ k. tt) (λ k. absurd (omega arith)) (λ x h k. absurd (omega arith)) j (omega arith) l;
        here = rw in_9 tt;
        above = λ j k l. rw (in_1 j l k) tt;
        begun = λ j k l early. in_1 j l k;
      }

  -- ---- its turns left

  -- a sum over its phases
  sum_is : (f : ℕ → ℕ) → sum_of n (λ j. f (s.phase j)) + (f 1 + f 1) ≡ n * f 1 + (f 9 + f 15)
  sum_is f =
      omega (
        arith,
        sum_same n (λ j. f (phases j)) (λ j. f (s.phase j)) (λ j l. ap f (of_thread n phases j l)),
        sum_update n f (update (λ j. 1) 1 9) 0 15 (omega arith),
        sum_update n f (λ j. 1) 1 9 two,
        sum_each (λ j. f 1) (f 1) n (λ j l. refl),
      )

  pub longest-left : turns_left s ≡ most_turns n
  unfolding total part alone holding rows stop
  longest-left =
      omega (
        arith,
        ap (λ (k : ℕ). sum_of n (λ j. part n k (s.phase j))) (how_many-all (λ j. eqb (s.forbidden j) 1) n (λ j l. eq_T (s.forbidden j) 1 (set j l))),
        sum_is (part n n),
        sum_is (λ p. part n n (stop p)),
        taking_some n (stops_of s) 1 two (rw in_9) (each (λ j p. stop p ≡ 14 → ⊥) (λ e. omega arith) (λ e. omega arith) (λ j k e. omega arith)),
      )
