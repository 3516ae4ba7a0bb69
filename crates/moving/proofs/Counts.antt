-- The tests on all flags but one, from how many threads have a flag. For every n.
use Prim.Native.Nat.{ℕ, zero, suc, ◌+◌, ◌-◌, ◌≤◌, ◌<◌}
use native.Mathlib.Omega.{arith}
use mathlib.Core.Bool.{Bool, true, false, cond, not, ◌||◌}
use mathlib.Core.Path.{◌≡◌, refl, sym, ap, ◌∙◌}
use lib.Dec.{eqb, eqb→eq}
use Rattle.definitions.specs.Threads.{every, how_many}
use Rattle.basics.proofs.Quantifiers.{every-same, how_many_at_lem}
use Rattle.basics.proofs.Tests.{eq_T, same_test}
use Rattle.soundness.proofs.Bools.{not-not}
use Rattle.soundness.proofs.Threads.{except_count}

-- how many have it, and how many have not
complement : (n : ℕ) (f : ℕ → Bool) → how_many n (λ j. not (f j)) + how_many n f ≡ n
unfolding how_many
complement zero f = refl
complement (suc n) f = more (f n) (complement n f)
  where
    more : (b : Bool) → how_many n (λ j. not (f j)) + how_many n f ≡ n → how_many n (λ j. not (f j)) + cond (not b) 1 0 + (how_many n f + cond b 1 0) ≡ suc n
    more true e = omega arith
    more false e = omega arith

-- flags of 0 or 1, as numbers and as tests
pub flag_one : (x : ℕ) → x ≤ 1 → cond (eqb x 1) 1 0 ≡ x
flag_one zero h = refl
flag_one (suc zero) h = refl
flag_one (suc (suc x)) h = absurd (omega arith)

flag-zero : (x : ℕ) → x ≤ 1 → eqb x 0 ≡ not (eqb x 1)
flag-zero zero h = refl
flag-zero (suc zero) h = refl
flag-zero (suc (suc x)) h = absurd (omega arith)

-- an equation of numbers under another
same-eqb : (a b c d : ℕ) → (a ≡ b → c ≡ d) → (c ≡ d → a ≡ b) → eqb a b ≡ eqb c d
same-eqb a b c d f g = same_test (eqb a b) (eqb c d) (λ t. eq_T c d (f (eqb→eq a b t))) (λ t. eq_T a b (g (eqb→eq c d t)))

module _ (n t : ℕ) (flag : ℕ → ℕ) (l : t < n) (flags : (j : ℕ) → j < n → flag j ≤ 1) where
  abbrev up : ℕ → Bool
  up j = eqb (flag j) 1

  -- the subject's share
  share : cond (up t) 1 0 ≡ flag t
  share = flag_one (flag t) (flags t l)

  pub share_most : flag t ≤ how_many n up
  share_most = omega (arith, how_many_at_lem up n t l, share)

  -- every flag but t's is 0
  pub none_but : every n (λ j. eqb j t || eqb (flag j) 0) ≡ eqb (how_many n up) (flag t)
  none_but =
      every-same n _ _ (λ j k. ap (λ (b : Bool). eqb j t || b) (flag-zero (flag j) (flags j k)))
      ∙ except_count n up t l
      ∙ ap (eqb (how_many n up)) share

  -- every flag but t's is 1
  pub all_but : every n (λ j. eqb j t || eqb (flag j) 1) ≡ eqb (how_many n up) (n - 1 + flag t)
  all_but =
      every-same n _ _ (λ j k. ap (λ (b : Bool). eqb j t || b) (sym (not-not (up j))))
      ∙ except_count n (λ j. not (up j)) t l
      ∙ same-eqb (how_many n (λ j. not (up j))) (cond (not (up t)) 1 0) (how_many n up) (n - 1 + flag t)
      (λ e. omega (arith, complement n up, other)) (λ e. omega (arith, complement n up, other, flags t l))
    where
      other_by : (b : Bool) → cond (not b) 1 0 + cond b 1 0 ≡ 1
      other_by true = refl
      other_by false = refl

      other : cond (not (up t)) 1 0 + flag t ≡ 1
      other = omega (arith, other_by (up t), share)
