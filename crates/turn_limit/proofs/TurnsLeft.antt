-- How many turns of the dispatcher a table has left at most (`turns_left`): by how much its number (Measure) exceeds the number when all threads have stopped (Stops);
-- each turn lowers it by 1 (OneTurn).
-- In a sound table it isn't below that number (`stopped-most`), and exceeds it by at most 6N - 2 (`left-most`). For every N.
use Prim.Native.Nat.{ℕ, ◌+◌, ◌*◌, ◌-◌, ◌≤◌, ◌<◌}
use native.Mathlib.Omega.{arith}
use mathlib.Core.Bool.{not}
use mathlib.Core.Logic.{◌⊎◌, inl, inr, ⊎_elim}
use mathlib.Core.Path.{◌≡◌, refl, sym, subst, ap, ◌∙◌}
use lib.Dec.{T, eqb}
use Rattle.definitions.specs.Phases.{rows, holds}
use Rattle.definitions.specs.Sound.{any_holder}
use Rattle.definitions.specs.Table.{Table, update}
use Rattle.definitions.specs.Threads.{sum_of}
use Rattle.basics.proofs.FlagCounts.{flags_set}
use Rattle.basics.proofs.Quantifiers.{how_many-most}
use Rattle.basics.proofs.Sums.{sum_update, sum_each, sum_zero, sum_within}
use Rattle.basics.proofs.Tests.{decided, not_i, same?}
use Rattle.basics.proofs.Columns.{update_same, update_other}
use Rattle.progress.proofs.Measure.{alone, part, total, measure, some-set, all_set}
use Rattle.theory.proofs.Soundness.{Sound, some_in, none_in}
use Rattle.turn_limit.specs.TurnLimit.{most_turns}
use Rattle.turn_limit.proofs.Stops.{stop, stopped, taking, taking_or_none, stops_of, outside, Held, held, at_mutex_lem}

abbrev pub turns_left : Table → ℕ
turns_left s = measure s + taking s.threads (stops_of s) - stopped s.threads (stops_of s)

-- f is at most x above g at h, and at most as e says elsewhere
but : (n : ℕ) (f g e : ℕ → ℕ) (h x : ℕ) → ((j : ℕ) → j < n → (j ≡ h → ⊥) → f j ≤ g j + e j) → f h ≤ g h + x → (j : ℕ) → j < n → f j ≤ g j + update e h x j
but n f g e h x others here j l = by (same? j h)
  where
    by : (j ≡ h) ⊎ (j ≡ h → ⊥) → f j ≤ g j + update e h x j
    by (inl q) = omega (arith, update_same e h x j q, ap f q, ap g q)
    by (inr q) = omega (arith, update_other e h x j q, others j l q)

module _ (s : Table) (z : Sound s) where
  abbrev n : ℕ
  n = s.threads

  least : 1 ≤ n
  least = let (j, l, e) = z.elsewhere in omega arith

  -- how many flags are set
  abbrev up : ℕ
  up = flags_set n s.forbidden

  -- what thread j adds now, and at its stop
  abbrev now : ℕ → ℕ
  now j = part n up (s.phase j)

  abbrev then : ℕ → ℕ
  then j = part n n (stop (s.phase j))

  holder : (h : ℕ) → h < n → T (holds (s.phase h)) → Held n up (s.phase h)
  holder h l t = held n up (s.phase h) least (how_many-most (λ j. eqb (s.forbidden j) 1) n) t (some-set s z h l) (all_set s z h l)

  -- no thread adds less than at its stop
  pub stopped-most : stopped n (stops_of s) ≤ measure s
  unfolding total
  stopped-most = let sum = sum_within n then now (λ j. 0) (λ j l. by j l (decided (holds (s.phase j)))) in omega (arith, sum_zero n)
    where
      by : (j : ℕ) → j < n → T (holds (s.phase j)) ⊎ T (not (holds (s.phase j))) → then j ≤ now j + 0
      by j l (inl t) = let h = (holder j l t).low in omega arith
      by j l (inr t) = let h = (outside n up (s.phase j) (z.phases j l) t).0 in omega arith

  -- ---- the limit

  -- thread j adds at most `over j` more than at its stop
  by_sum : (over : ℕ → ℕ) → ((j : ℕ) → j < n → now j ≤ then j + over j) → sum_of n over + taking n (stops_of s) ≤ most_turns n → turns_left s ≤ most_turns n
  unfolding total
  by_sum over within few = omega (arith, sum_within n now then over within)

  -- at most 3 more, if it isn't the holder
  abbrev three : ℕ → ℕ
  three j = 3

  threes : sum_of n three ≡ n * 3
  threes = sum_each three 3 n (λ j l. refl)

  no_holder : T (not (any_holder s)) → (j : ℕ) → j < n → now j ≤ then j + 3
  no_holder nobody j l = (outside n up (s.phase j) (z.phases j l) (not_i (holds (s.phase j)) (none_in s holds nobody j l))).1

  no_other : (h : ℕ) → h < n → T (holds (s.phase h)) → (j : ℕ) → j < n → (j ≡ h → ⊥) → now j ≤ then j + 3
  no_other h k t j l q = (outside n up (s.phase j) (z.phases j l) (not_i (holds (s.phase j)) (λ u. q (z.one_holder j l h k u t)))).1

  -- no thread is to take the mutex
  if_none : taking n (stops_of s) ≡ 0 → T (any_holder s) ⊎ T (not (any_holder s)) → turns_left s ≤ most_turns n
  if_none none (inl one) =
      let (h, l, t) = some_in s holds one in
      by_sum (update three h (2 * n + 2)) (but n now then three h (2 * n + 2) (no_other h l t) (holder h l t).high)
      (omega (arith, least, sum_update n (λ v. v) three h (2 * n + 2) l, threes))
  if_none none (inr nobody) = by_sum three (no_holder nobody) (omega (arith, least, threes))

  -- one is: thread w is in 9, at its stop, and a holder is past 14
  if_taken : taking n (stops_of s) ≡ 2 * n + 2 → (w : ℕ) → w < n → s.phase w ≡ 9 → ((j : ℕ) → j < n → stops_of s j ≡ 14 → ⊥) → T (any_holder s) ⊎ T (not (any_holder s)) → turns_left s ≤ most_turns n
  unfolding part alone rows stop
  if_taken takes w k e none (inl one) =
      let (h, l, t) = some_in s holds one in
      let apart : w ≡ h → ⊥ = λ q. subst (λ (p : ℕ). T (holds p)) (ap s.phase (sym q) ∙ e) t in
      let over = update three h (n + 2) in
      by_sum (update over w 0) (but n now then over w 0 (λ j m q. but n now then three h (n + 2) (no_other h l t) ((holder h l t).past_14 (none h l) (omega arith)) j m) (rw e (omega arith)))
      (omega (arith, sum_update n (λ v. v) over w 0 k, update_other three h (n + 2) w apart, sum_update n (λ v. v) three h (n + 2) l, threes))
  if_taken takes w k e none (inr nobody) =
      by_sum (update three w 0) (but n now then three w 0 (λ j l q. no_holder nobody j l) (rw e (omega arith)))
      (omega (arith, least, sum_update n (λ v. v) three w 0 k, threes))

  pub left-most : turns_left s ≤ most_turns n
  left-most =
      ⊎_elim (λ none. if_none none (decided (any_holder s)))
      (λ (takes, (w, k, e), none). if_taken takes w k (at_mutex_lem (s.phase w) (z.phases w k) e) none (decided (any_holder s)))
      (taking_or_none n (stops_of s))
