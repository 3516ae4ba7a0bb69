-- Lengths of lists put together, one for each thread. For every n.
use Prim.Native.Nat.{ℕ, zero, suc, ◌+◌, ◌*◌, ◌≤◌}
use native.Mathlib.Nat.{suc-mul, mul-suc}
use native.Mathlib.Omega.{arith}
use mathlib.Core.Bool.{Bool, true, false, cond}
use mathlib.Core.List.{List, ◌++◌}
use mathlib.Core.Path.{◌≡◌}
use lib.ListN.{length, length-append}
use Rattle.definitions.specs.Threads.{how_many, gather}

module _ {ℓ} {A : Type ℓ} (f : ℕ → List A) (m : ℕ) where
  pub gather-length : (n : ℕ) → ((i : ℕ) → length (f i) ≡ m) → length (gather n f) ≡ m * n
  unfolding gather
  gather-length zero e = omega arith
  gather-length (suc n) e = omega (arith, length-append (gather n f) (f n), e n, gather-length n e, mul-suc m n)

  pub gather-most : (n : ℕ) → ((i : ℕ) → length (f i) ≤ m) → length (gather n f) ≤ n * m
  unfolding gather
  gather-most zero h = omega arith
  gather-most (suc n) h = omega (arith, length-append (gather n f) (f n), h n, gather-most n h, suc-mul n m)

  -- lists of at most m entries for those i of which b holds, and none for the others
  pub gather-counted : (b : ℕ → Bool) (n : ℕ) → ((i : ℕ) → length (f i) ≤ cond (b i) m 0) → length (gather n f) ≤ m * how_many n b
  unfolding gather how_many
  gather-counted b zero h = omega arith
  gather-counted b (suc n) h = more (b n) (h n) (gather-counted b n h)
    where
      more : (c : Bool) → length (f n) ≤ cond c m 0 → length (gather n f) ≤ m * how_many n b → length (gather n f ++ f n) ≤ m * (how_many n b + cond c 1 0)
      more true l r = omega (arith, length-append (gather n f) (f n))
      more false l r = omega (arith, length-append (gather n f) (f n))
