-- The sum of the holders' phases: it is 0 where no thread holds the mutex, the holder's phase where one does, and past the last phase where several do. For every N and every phases of the threads.
-- So where at most one thread holds, that some thread is in one of the holder's phases is a test of the sum (`holder_is`).
use Prim.Native.Nat.{ℕ, zero, suc, ◌+◌, ◌≤◌, ◌<◌}
use native.Mathlib.Nat.{add-zero, zero-add}
use native.Mathlib.Omega.{arith}
use mathlib.Core.Bool.{Bool, true, false, cond, not, ◌||◌, or-false}
use mathlib.Core.Path.{◌≡◌, refl, sym, subst, ap, ◌∙◌}
use borrow.Author.Tests.{ne_eqb}
use lib.Dec.{T, ltb, eqb, ltb→lt}
use Rattle.definitions.specs.Bounds.{last_phase}
use Rattle.definitions.specs.Phases.{rows, holds}
use Rattle.definitions.specs.Threads.{every, some, how_many, implies, sum_of}
use Rattle.soundness.specs.Pass.{holder_phase}
use Rattle.basics.proofs.Quantifiers.{every_at}
use Rattle.basics.proofs.Tests.{implies_e, not_i, T_false, T_true, true-T}
use Rattle.theory.proofs.PhaseCases.{holder-phase}

-- the phases of two holders add up to more than any phase, by trying the phases
holder-high : (p : ℕ) → T (holds p) → last_phase < p + p
unfolding rows every
holder-high p t =
    let l = holder-phase p t in
    ltb→lt last_phase (p + p)
    (implies_e (holds p) (ltb last_phase (p + p)) (every_at (λ q. implies (holds q) (ltb last_phase (q + q))) (suc last_phase) tt p (omega arith)) t)

-- how many threads hold, and the sum of their phases
pub data Holders (count sum : ℕ) : Type 0 where
  none : count ≡ 0 → sum ≡ 0 → Holders count sum
  one : count ≡ 1 → T (holds sum) → Holders count sum
  many : 2 ≤ count → last_phase < sum → Holders count sum

next : (x : Bool) (p k s : ℕ) → holds p ≡ x → Holders k s → Holders (k + cond x 1 0) (s + cond x p 0)
next true p k s e (none a b) =
    let same : p ≡ s + p = omega arith in
    one (omega arith) (subst (λ (q : ℕ). T (holds q)) same (true-T (holds p) e))
next true p k s e (one a b) = many (omega arith) (omega (arith, holder-high p (true-T (holds p) e), holder-high s b))
next true p k s e (many a b) = many (omega arith) (omega arith)
next false p k s e (none a b) = none (omega arith) (omega arith)
next false p k s e (one a b) = one (omega arith) (subst (λ (q : ℕ). T (holds q)) (sym (add-zero s)) b)
next false p k s e (many a b) = many (omega arith) (omega arith)

module _ (phase : ℕ → ℕ) where
  abbrev count : ℕ → ℕ
  count n = how_many n (λ i. holds (phase i))

  abbrev sum : ℕ → ℕ
  sum n = sum_of n (λ i. holder_phase (phase i))

  pub holders : (n : ℕ) → Holders (count n) (sum n)
  unfolding how_many
  holders zero = none refl refl
  holders (suc n) = next (holds (phase n)) (phase n) (count n) (sum n) refl (holders n)

  sum_none : (n : ℕ) → count n ≡ 0 → sum n ≡ 0
  sum_none n e = by (holders n)
    where
      by : Holders (count n) (sum n) → sum n ≡ 0
      by (none a b) = b
      by (one a b) = absurd (omega arith)
      by (many a b) = absurd (omega arith)

  -- f picks some of the holder's phases
  module _ (f : ℕ → Bool) (held : (p : ℕ) → T (f p) → T (holds p)) where
    others : (p : ℕ) → holds p ≡ false → f p ≡ false
    others p e = T_false (f p) (not_i (f p) (λ t. subst T e (held p t)))

    nobody : f 0 ≡ false
    unfolding rows
    nobody = others 0 refl

    step : (x : Bool) (p k s : ℕ) (before : Bool) → holds p ≡ x → (k ≡ 0 → s ≡ 0) → (k ≤ 1 → before ≡ f s) → k + cond x 1 0 ≤ 1
        → (before || f p) ≡ f (s + cond x p 0)
    step true p k s before e zeros rec l =
        let z : s ≡ 0 = zeros (omega arith) in
        ap (λ (b : Bool). b || f p) (rec (omega arith) ∙ ap f z ∙ nobody) ∙ ap f (sym (ap (λ (q : ℕ). q + p) z ∙ zero-add p))
    step false p k s before e zeros rec l =
        ap (λ (b : Bool). before || b) (others p e) ∙ or-false before ∙ rec (omega arith) ∙ ap f (sym (add-zero s))

    pub holder_is : (n : ℕ) → count n ≤ 1 → some n (λ i. f (phase i)) ≡ f (sum n)
    unfolding some how_many
    holder_is zero l = sym nobody
    holder_is (suc n) l =
        step (holds (phase n)) (phase n) (count n) (sum n) (some n (λ i. f (phase i))) refl (sum_none n) (holder_is n) l

  -- there is a holder where the sum isn't 0
  pub holder-any : (n : ℕ) → count n ≤ 1 → some n (λ i. holds (phase i)) ≡ not (eqb (sum n) 0)
  unfolding rows
  holder-any n l = holder_is holds (λ p t. t) n l ∙ by (holders n)
    where
      by : Holders (count n) (sum n) → holds (sum n) ≡ not (eqb (sum n) 0)
      by (none a b) = subst (λ (k : ℕ). holds k ≡ not (eqb k 0)) (sym b) refl
      by (one a b) = T_true (holds (sum n)) b ∙ sym (ap not (ne_eqb (sum n) 0 (λ e. omega (arith, holder-high (sum n) b))))
      by (many a b) = absurd (omega arith)
