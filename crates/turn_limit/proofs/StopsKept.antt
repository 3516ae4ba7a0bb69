-- A move of a thread that is ready keeps every thread's stop (Stops), but that a thread which takes the mutex then stops in 14; `taking` counted before what it adds less there (`balanced`).
use Prim.Native.Nat.{ℕ, suc, ◌+◌, ◌<◌}
use native.Mathlib.Omega.{arith}
use mathlib.Core.Bool.{◌||◌}
use mathlib.Core.List.{[]}
use mathlib.Core.Logic.{⊎_elim}
use mathlib.Core.Path.{◌≡◌, refl, sym, subst, ap, ◌∙◌}
use lib.Dec.{T, eqb, eqb→eq}
use Rattle.definitions.specs.Bounds.{last_phase}
use Rattle.definitions.specs.Phases.{rows, holds}
use Rattle.definitions.specs.Table.{Table}
use Rattle.definitions.specs.Threads.{every, among}
use Rattle.dispatching.specs.Ready.{ready_by, ready}
use Rattle.basics.proofs.Cases.{or_at, none_of}
use Rattle.basics.proofs.Columns.{same_column}
use Rattle.basics.proofs.Quantifiers.{implied}
use Rattle.basics.proofs.Sums.{sum_but}
use Rattle.basics.proofs.Tests.{and_l, or_e, eq_T, same?}
use Rattle.progress.proofs.Measure.{alone, holding, part}
use Rattle.theory.proofs.Soundness.{Sound}
use Rattle.turn_limit.proofs.NextPhases.{next, Next, tried}
use Rattle.turn_limit.proofs.Stops.{stop, stopped, taking, taking_some, taking_none, stops_of}

-- a move from any phase but 9 keeps the stop, by trying the phases
same_stop : (p v : ℕ) → p < suc last_phase → v < suc last_phase → T (among v (next p)) → (p ≡ 9 → ⊥) → stop v ≡ stop p
unfolding every next among stop
same_stop p v l k t other =
    ⊎_elim (λ u. absurd (other (eqb→eq p 9 u))) (eqb→eq (stop v) (stop p)) (or_e (eqb p 9) (eqb (stop v) (stop p)) (tried (λ x y. eqb x 9 || eqb (stop y) (stop x)) tt p v l k t))

-- only the holder stops in 14
stops_late : (p : ℕ) → p < suc last_phase → stop p ≡ 14 → T (holds p)
unfolding every stop rows
stops_late p l e = implied (λ q. eqb (stop q) 14) holds (suc last_phase) tt p l (eq_T (stop p) 14 e)

-- a move of thread i, which is ready, leaves the phases φ
module _ (s : Table) (z : Sound s) (i : ℕ) (l : i < s.threads) (can : T (ready s i)) (φ : ℕ → ℕ) (a : Next s i φ) where
  abbrev n : ℕ
  n = s.threads

  abbrev before : ℕ → ℕ
  before = stops_of s

  abbrev after : ℕ → ℕ
  after = λ j. stop (φ j)

  abbrev Balanced : Type 0
  Balanced = stopped n after + taking n before ≡ stopped n before + taking n after

  phase_below : (j : ℕ) → j < n → s.phase j < suc last_phase
  phase_below j k = let m = z.phases j k in omega arith

  elsewhere : (s.phase i ≡ 9 → ⊥) → Balanced
  elsewhere other =
      let same : after ≡ before = same_column after before i
      (ap stop a.column.here ∙ same_stop (s.phase i) a.to (phase_below i l) a.is_phase a.behind other)
      (λ j h. ap stop (a.column.others j h)) in
      subst (λ (stops : ℕ → ℕ). stopped n stops + taking n before ≡ stopped n before + taking n stops) (sym same) refl

  takes : s.phase i ≡ 9 → Balanced
  unfolding part alone holding rows stop next ready_by among
  takes e =
      omega (
        arith,
        sum_but n (λ j. part n n (before j)) (λ j. part n n (after j)) i l (λ j h. ap (λ (p : ℕ). part n n (stop p)) (a.column.others j h)),
        ap (λ (p : ℕ). part n n (stop p)) e,
        ap (λ (p : ℕ). part n n (stop p)) to_10,
        taking_some n before i l (rw e) none_late,
        taking_none n after i l (rw to_10),
      )
    where
      to_10 : φ i ≡ 10
      to_10 = a.column.here ∙ or_at a.to 10 [] (λ q. q) (none_of a.to) (subst (λ (p : ℕ). T (among a.to (next p))) e a.behind)

      free : s.mutex ≡ 0
      free = eqb→eq s.mutex 0 (and_l (eqb s.mutex 0) _ (subst (λ (p : ℕ). T (ready_by s.mutex (s.busy s.target) p)) e can))

      none_late : (j : ℕ) → j < n → before j ≡ 14 → ⊥
      none_late j k q = let one = z.held j k (stops_late (s.phase j) (phase_below j k) q) in omega (arith, free)

  pub balanced : Balanced
  balanced = ⊎_elim takes elsewhere (same? (s.phase i) 9)
