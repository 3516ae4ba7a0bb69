-- A number measured digit by digit, from its last digit on.
use Prim.Native.Nat.{ℕ, ◌+◌, ◌/◌, ◌≤◌, ◌<◌, ◌^◌}
use native.Mathlib.Omega.{arith}
use mathlib.Core.Path.{◌≡◌, refl, ap}
use lib.ListN.{length}
use Rattle.definitions.specs.Texts.{decimal}
use Rattle.basics.proofs.Numbers.{decimal_small, decimal_longer, decimal-some, decimal-short}

-- the digits behind those of `high` are counted, and one more
pub record DigitsCounted (n digits high : ℕ) : Type 0 where
  pub sum : digits + length (decimal high) ≡ length (decimal n) + 1

pub counted_none : (n : ℕ) → DigitsCounted n 1 n
counted_none n = record { sum = omega arith }

pub counted_more : (n digits high : ℕ) → 10 ≤ high → DigitsCounted n digits high → DigitsCounted n (digits + 1) (high / 10)
counted_more n digits high h w = record { sum = omega (arith, w.sum, decimal_longer high (length (decimal (high / 10))) h refl) }

pub counted-all : (n digits high : ℕ) → high < 10 → DigitsCounted n digits high → digits ≡ length (decimal n)
counted-all n digits high h w = omega (arith, w.sum, ap length (decimal_small high h))

-- a number of the code has 20 digits at most
pub counted-few : (n digits high : ℕ) → n < 2 ^ 64 → DigitsCounted n digits high → digits ≤ 20
counted-few n digits high h w = omega (arith, w.sum, decimal-some high, decimal-short n 20 (omega arith) (omega arith))
