-- Laws of `lowest`: the test holds of the lowest thread (`lowest-some`) and of none below it (`lowest_below`), which says which thread it is (`lowest_at`);
-- where the test holds of no thread, it is n (`lowest_none`). For every n.
use Prim.Native.Nat.{ℕ, zero, suc, ◌≤◌, ◌<◌}
use native.Mathlib.Nat.{not-suc-le-zero}
use native.Mathlib.Omega.{arith}
use mathlib.Core.Bool.{Bool, cond, not}
use mathlib.Core.Logic.{◌⊎◌, inl, inr, ⊎_elim}
use mathlib.Core.Path.{◌≡◌, refl, sym, subst, ◌∙◌}
use lib.Dec.{T}
use Rattle.definitions.specs.Threads.{some, lowest}
use Rattle.basics.proofs.Quantifiers.{below_suc, some_i, none_at, none_i}
use Rattle.basics.proofs.Tests.{or_e, cond_yes, cond_no, decided, no_both, below?}

module _ (f : ℕ → Bool) where
  -- with one thread more it is the one before, or the new one, or there is still none
  before : (n : ℕ) → T (some n f) → lowest (suc n) f ≡ lowest n f
  unfolding lowest
  before n t = cond_yes (some n f) (lowest n f) (cond (f n) n (suc n)) t

  new : (n : ℕ) → T (not (some n f)) → T (f n) → lowest (suc n) f ≡ n
  unfolding lowest
  new n none t = cond_no (some n f) (lowest n f) (cond (f n) n (suc n)) none ∙ cond_yes (f n) n (suc n) t

  still_none : (n : ℕ) → T (not (some n f)) → T (not (f n)) → lowest (suc n) f ≡ suc n
  unfolding lowest
  still_none n none t = cond_no (some n f) (lowest n f) (cond (f n) n (suc n)) none ∙ cond_no (f n) n (suc n) t

  -- there is one
  pub lowest-some : (n : ℕ) → T (some n f) → (lowest n f < n) × T (f (lowest n f))
  unfolding some
  lowest-some zero t = absurd t
  lowest-some (suc n) t = by (λ u. lowest-some n u) (decided (some n f))
    where
      by : (T (some n f) → (lowest n f < n) × T (f (lowest n f))) → T (some n f) ⊎ T (not (some n f)) → (lowest (suc n) f < suc n) × T (f (lowest (suc n) f))
      by rec (inl u) = let (l, v) = rec u in (omega (arith, before n u), subst (λ (i : ℕ). T (f i)) (sym (before n u)) v)
      by rec (inr u) =
          let here : T (f n) = ⊎_elim (λ v. absurd (no_both (some n f) v u)) (λ v. v) (or_e (some n f) (f n) t) in
          (omega (arith, new n u here), subst (λ (i : ℕ). T (f i)) (sym (new n u here)) here)

  -- the threads below it
  pub lowest_below : (n j : ℕ) → j < lowest n f → T (not (f j))
  unfolding lowest
  lowest_below zero j l = absurd (not-suc-le-zero l)
  lowest_below (suc n) j l = by (λ k. lowest_below n j k) (decided (some n f)) (decided (f n))
    where
      by : (j < lowest n f → T (not (f j))) → T (some n f) ⊎ T (not (some n f)) → T (f n) ⊎ T (not (f n)) → T (not (f j))
      by rec (inl u) v = rec (omega (arith, before n u))
      by rec (inr u) (inl v) = none_at f n u j (omega (arith, new n u v))
      by rec (inr u) (inr v) =
          ⊎_elim (λ e. subst (λ (k : ℕ). T (not (f k))) (sym e) v) (none_at f n u j) (below_suc j n (omega (arith, still_none n u v)))

  -- there is none
  pub lowest_none : (n : ℕ) → T (not (some n f)) → lowest n f ≡ n
  unfolding lowest
  lowest_none zero t = refl
  lowest_none (suc n) t = still_none n (none_i f n (λ j l. none_at f (suc n) t j (omega arith))) (none_at f (suc n) t n (omega arith))

  -- a thread of which the test holds, and of none below it
  pub lowest_at : (n i : ℕ) → i < n → T (f i) → ((j : ℕ) → j < i → T (not (f j))) → lowest n f ≡ i
  lowest_at n i l t first =
      ⊎_elim (λ k. absurd (no_both (f low) found.1 (first low k)))
      (λ k. ⊎_elim (λ m. absurd (no_both (f i) t (lowest_below n i m))) (λ m. omega arith) (below? low i)) (below? i low)
    where
      low : ℕ
      low = lowest n f

      found : (low < n) × T (f low)
      found = lowest-some n (some_i f n i l t)

  -- it isn't past n
  pub lowest-most : (n : ℕ) → lowest n f ≤ n
  lowest-most n = ⊎_elim (λ t. let l = (lowest-some n t).0 in omega arith) (λ t. omega (arith, lowest_none n t)) (decided (some n f))

-- two tests that agree below n
pub lowest-same : (n : ℕ) (f g : ℕ → Bool) → ((j : ℕ) → j < n → f j ≡ g j) → lowest n f ≡ lowest n g
lowest-same n f g h = by (decided (some n g))
  where
    by : T (some n g) ⊎ T (not (some n g)) → lowest n f ≡ lowest n g
    by (inl t) =
        let (l, u) = lowest-some g n t in
        lowest_at f n (lowest n g) l (subst T (sym (h (lowest n g) l)) u) (λ j k. subst (λ (b : Bool). T (not b)) (sym (h j (omega arith))) (lowest_below g n j k))
    by (inr t) =
        lowest_none f n (none_i f n (λ j l. subst (λ (b : Bool). T (not b)) (sym (h j l)) (none_at g n t j l))) ∙ sym (lowest_none g n t)
