-- Where the dispatcher's turns leave a thread (`stop`), and the number of the crate progress (Measure) when all threads have stopped.
-- A thread adds to that number now at least what it adds at its stop; if it isn't the holder at most 3 more (`outside`), and the holder at most 2N + 2 more (`held`). For every N.
use Prim.Native.Nat.{ℕ, suc, ◌+◌, ◌*◌, ◌≤◌, ◌<◌}
use native.Mathlib.Omega.{arith}
use mathlib.Core.Bool.{Bool, cond, not, ◌&&◌}
use mathlib.Core.List.{[], ◌∷◌}
use mathlib.Core.Logic.{◌⊎◌, inl, inr}
use mathlib.Core.Path.{◌≡◌}
use lib.Dec.{T, leb, eqb, leb→le, eqb→eq}
use lib.ListN.{get_or}
use Rattle.definitions.specs.Bounds.{last_phase}
use Rattle.definitions.specs.Phases.{rows, holds}
use Rattle.definitions.specs.Table.{Table}
use Rattle.definitions.specs.Threads.{every, some, sum_of, between}
use Rattle.basics.proofs.Cases.{or_at, none_of}
use Rattle.basics.proofs.Quantifiers.{implied, some_i, some_e, none_at, none_i}
use Rattle.basics.proofs.Tests.{and_l, and_r, and_i, not_i, no_both, decided, cond_yes, cond_no, eq_T, ne_T, T_ne, same?}
use Rattle.progress.proofs.Measure.{alone, holding, part}
use Rattle.theory.proofs.PhaseCases.{is_holder}

-- ---- the number when all have stopped

-- by the thread's phase: outside (0), before a retry (4), before the mutex (9), or in the exclusive section (14); a reader may stop in Shared instead, where it adds the same as in 4
unfoldable pub stop : ℕ → ℕ
stop phase = get_or (0 ∷ 4 ∷ 4 ∷ 4 ∷ 4 ∷ 4 ∷ 4 ∷ 0 ∷ 0 ∷ 9 ∷ 14 ∷ 14 ∷ 14 ∷ 14 ∷ 14 ∷ 0 ∷ 0 ∷ 0 ∷ 4 ∷ []) phase 0

-- what the threads add at their stops, with every flag set
abbrev pub stopped : ℕ → (ℕ → ℕ) → ℕ
stopped n stops = sum_of n (λ j. part n n (stops j))

-- some thread stops in phase p
abbrev stops_in : ℕ → (ℕ → ℕ) → ℕ → Bool
stops_in n stops p = some n (λ j. eqb (stops j) p)

-- where one stops in 9, before the mutex, and none in 14, it takes the mutex and stops in 14, where it adds 2N + 2 less
abbrev one_takes : ℕ → (ℕ → ℕ) → Bool
one_takes n stops = stops_in n stops 9 && not (stops_in n stops 14)

abbrev pub taking : ℕ → (ℕ → ℕ) → ℕ
taking n stops = cond (one_takes n stops) (2 * n + 2) 0

-- it counts where thread w stops in 9 and none in 14, and not where one stops in 14
module _ (n : ℕ) (stops : ℕ → ℕ) where
  abbrev NoneLate : Type 0
  NoneLate = (j : ℕ) → j < n → stops j ≡ 14 → ⊥

  pub taking_some : (w : ℕ) → w < n → stops w ≡ 9 → NoneLate → taking n stops ≡ 2 * n + 2
  taking_some w l e none =
      cond_yes (one_takes n stops) (2 * n + 2) 0
      (and_i (stops_in n stops 9) (not (stops_in n stops 14)) (some_i (λ j. eqb (stops j) 9) n w l (eq_T (stops w) 9 e)) (none_i (λ j. eqb (stops j) 14) n (λ j k. ne_T (stops j) 14 (none j k))))

  pub taking_none : (h : ℕ) → h < n → stops h ≡ 14 → taking n stops ≡ 0
  taking_none h l e =
      cond_no (one_takes n stops) (2 * n + 2) 0
      (not_i (one_takes n stops) (λ t. no_both (stops_in n stops 14) (some_i (λ j. eqb (stops j) 14) n h l (eq_T (stops h) 14 e)) (and_r (stops_in n stops 9) (not (stops_in n stops 14)) t)))

  pub taking_or_none : (taking n stops ≡ 0) ⊎ ((taking n stops ≡ 2 * n + 2) × ((w : ℕ) × (w < n) × (stops w ≡ 9)) × NoneLate)
  taking_or_none = by (decided (one_takes n stops))
    where
      by : T (one_takes n stops) ⊎ T (not (one_takes n stops)) → (taking n stops ≡ 0) ⊎ ((taking n stops ≡ 2 * n + 2) × ((w : ℕ) × (w < n) × (stops w ≡ 9)) × NoneLate)
      by (inl t) =
          let (w, l, u) = some_e (λ j. eqb (stops j) 9) n (and_l (stops_in n stops 9) (not (stops_in n stops 14)) t) in
          let none = and_r (stops_in n stops 9) (not (stops_in n stops 14)) t in
          inr (cond_yes (one_takes n stops) (2 * n + 2) 0 t, (w, l, eqb→eq (stops w) 9 u), λ j k. T_ne (stops j) 14 (none_at (λ x. eqb (stops x) 14) n none j k))
      by (inr t) = inl (cond_no (one_takes n stops) (2 * n + 2) 0 t)

-- the stops of a table's threads
abbrev pub stops_of : Table → ℕ → ℕ
stops_of s = λ j. stop (s.phase j)

-- ---- one thread, in phase p, with k flags set

-- one that isn't the holder, by trying the phases
pub outside : (n k p : ℕ) → p ≤ last_phase → T (not (holds p)) → (part n n (stop p) ≤ part n k p) × (part n k p ≤ part n n (stop p) + 3)
unfolding part alone rows stop every
outside n k p l t = by (same? p 9)
  where
    least : ℕ → Bool
    least q = leb (part n n (stop q)) (part n k q)

    most : ℕ → Bool
    most q = leb (part n k q) (part n n (stop q) + 3)

    by : (p ≡ 9) ⊎ (p ≡ 9 → ⊥) → (part n n (stop p) ≤ part n k p) × (part n k p ≤ part n n (stop p) + 3)
    by (inl e) = rw e (omega arith)
    by (inr h) =
        let both = implied (λ q. not (holds q) && not (eqb q 9)) (λ q. least q && most q) (suc last_phase) tt p (omega arith) (and_i (not (holds p)) (not (eqb p 9)) t (ne_T p 9 h)) in
        (leb→le (part n n (stop p)) (part n k p) (and_l (least p) (most p) both), leb→le (part n k p) (part n n (stop p) + 3) (and_r (least p) (most p) both))

-- the holder; in 12 some flag is set, in 13 and 14 every flag is
pub record Held (n k p : ℕ) : Type 0 where
  pub low : part n n (stop p) ≤ part n k p
  pub high : part n k p ≤ part n n (stop p) + (2 * n + 2)
  pub past_14 : (stop p ≡ 14 → ⊥) → 2 ≤ n → part n k p ≤ part n n (stop p) + (n + 2)

pub held : (n k p : ℕ) → 1 ≤ n → k ≤ n → T (holds p) → (p ≡ 12 → 1 ≤ k) → (T (between 13 14 p) → k ≡ n) → Held n k p
unfolding part alone holding rows stop
held n k p least most t some all =
    or_at p 10 _ (λ e. rw e (omega arith))
    (or_at p 11 _ (λ e. rw e (omega arith))
    (or_at p 12 _ (λ e. let up = some e in rw e (omega arith))
    (or_at p 13 _ (λ e. let up = all (rw e tt) in rw e (omega arith))
    (or_at p 14 _ (λ e. let up = all (rw e tt) in rw e (omega arith))
    (or_at p 15 _ (λ e. rw e (omega arith)) (or_at p 16 _ (λ e. rw e (omega arith)) (or_at p 18 _ (λ e. rw e (omega arith)) (none_of p))))))))
    (is_holder p t)

-- a thread that stops before the mutex stands there, by trying the phases
pub at_mutex_lem : (p : ℕ) → p ≤ last_phase → stop p ≡ 9 → p ≡ 9
unfolding stop every
at_mutex_lem p l e = eqb→eq p 9 (implied (λ q. eqb (stop q) 9) (λ q. eqb q 9) (suc last_phase) tt p (omega arith) (eq_T (stop p) 9 e))
