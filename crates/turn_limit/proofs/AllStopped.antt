-- A table that waits with nobody in Shared has no turns left (TurnsLeft): every thread is in 0, 4, 9 or 14 and so at its stop, and no thread in 9 can take the mutex (`none_left`).
use Prim.Native.Nat.{ℕ, ◌<◌}
use native.Mathlib.Omega.{arith}
use mathlib.Core.Logic.{⊎_elim}
use mathlib.Core.Path.{◌≡◌, sym, subst}
use lib.Dec.{T}
use Rattle.definitions.specs.Codes.{Shared}
use Rattle.definitions.specs.Phases.{rows, node_of, holds}
use Rattle.definitions.specs.Sound.{any_holder}
use Rattle.definitions.specs.Table.{Table}
use Rattle.definitions.specs.Threads.{between}
use Rattle.dispatching.specs.Turns.{WaitsThere}
use Rattle.basics.proofs.Cases.{or_at, none_of}
use Rattle.basics.proofs.FlagCounts.{flags_set}
use Rattle.basics.proofs.Sums.{sum_same}
use Rattle.basics.proofs.Tests.{decided}
use Rattle.progress.proofs.Measure.{alone, part, total, all_set}
use Rattle.theory.proofs.Soundness.{All, Sound, some_in, none_in}
use Rattle.turn_limit.proofs.Stops.{stop, taking, taking_or_none, stops_of, at_mutex_lem}
use Rattle.turn_limit.proofs.TurnsLeft.{turns_left}

module _ (s : Table) (z : Sound s) (there : All s (WaitsThere s)) (none : All s (λ i. node_of (s.phase i) ≡ Shared → ⊥)) where
  abbrev n : ℕ
  n = s.threads

  -- the phases that are left: 6 is Shared, and a writer in 11 would have a target there
  by-phase : {P : Type 0} (j : ℕ) → j < n → (s.phase j ≡ 0 → P) → (s.phase j ≡ 4 → P) → (s.phase j ≡ 9 → P) → (s.phase j ≡ 14 → P) → P
  unfolding rows
  by-phase j l in_0 in_4 in_9 in-14 =
      or_at (s.phase j) 0 _ in_0
      (or_at (s.phase j) 4 _ in_4
      (or_at (s.phase j) 6 _ (λ e. absurd (none j l (rw e)))
      (or_at (s.phase j) 9 _ in_9
      (or_at (s.phase j) 11 _ (λ e. let (k, q) = (there j l).in_11 e in absurd (none s.target k q)) (or_at (s.phase j) 14 _ in-14 (none_of (s.phase j)))))))
      (there j l).phases

  -- in these a thread adds what it adds at its stop; in 14 every flag is set
  at_stop : (j : ℕ) → j < n → part n (flags_set n s.forbidden) (s.phase j) ≡ part n n (stop (s.phase j))
  unfolding part alone rows stop
  at_stop j l = by-phase j l (λ e. rw e) (λ e. rw e) (λ e. rw e) (λ e. rw (e, all_set s z j l (subst (λ (p : ℕ). T (between 13 14 p)) (sym e) tt)))

  -- a thread in 9 finds the mutex taken, and who has it is in 14
  none_takes : taking n (stops_of s) ≡ 0
  unfolding rows stop
  none_takes = ⊎_elim (λ e. e) (λ (count, (w, l, e), none_late). absurd (someone_late w l (at_mutex_lem (s.phase w) (z.phases w l) e) none_late)) (taking_or_none n (stops_of s))
    where
      someone_late : (w : ℕ) → w < n → s.phase w ≡ 9 → ((j : ℕ) → j < n → stops_of s j ≡ 14 → ⊥) → ⊥
      someone_late w l e none_late =
          ⊎_elim
          (λ u. let (h, k, t) = some_in s holds u in by-phase h k (λ q. rw q at t) (λ q. rw q at t) (λ q. rw q at t) (λ q. none_late h k (rw q)))
          (λ u. let taken = (there w l).in_EE (rw e) in omega (arith, z.free (none_in s holds u)))
          (decided (any_holder s))

  pub none_left : turns_left s ≡ 0
  unfolding total
  none_left = omega (arith, sum_same n (λ j. part n n (stop (s.phase j))) (λ j. part n (flags_set n s.forbidden) (s.phase j)) at_stop, none_takes)
