-- Numbers as they are read and printed: digits that stand for a value are at least as many as the value takes when it is printed.
use Prim.Native.Nat.{ℕ, ◌+◌, ◌≤◌}
use native.Mathlib.Omega.{arith}
use mathlib.Core.Bool.{not, ◌||◌}
use mathlib.Core.List.{List}
use mathlib.Core.Path.{◌≡◌}
use lib.Dec.{T, leb, eqb, leb→le}
use lib.ListN.{length, get_or, drop, length-drop}
use Rattle.definitions.specs.Texts.{digits_of, number_fits, value_from, decimal}
use Rattle.definitions.specs.Threads.{between}
use Rattle.basics.proofs.Digits.{digits_within, take_digits, value_below}
use Rattle.basics.proofs.Numbers.{decimal-short}
use Rattle.basics.proofs.Tests.{and_l}

-- digits read are at least as many as the value's printed ones
pub printed_digits : (xs : List ℕ) → T (number_fits (digits_of xs)) → length (decimal (value_from 0 (digits_of xs))) ≤ length (digits_of xs)
printed_digits xs t =
    let count = length (digits_of xs) in
    let least = leb→le 1 count (and_l (leb 1 count) (leb count 3) (and_l (between 1 3 count) (eqb count 1 || not (eqb (get_or (digits_of xs) 0 0) 48)) t)) in
    decimal-short (value_from 0 (digits_of xs)) count least
    (omega (arith, rw (take_digits xs) at (value_below xs count count 0 1 (omega arith) (omega arith) (omega arith))))

-- the digits at the front and what follows them
pub digits_split : (xs : List ℕ) → length xs ≡ length (digits_of xs) + length (drop (length (digits_of xs)) xs)
digits_split xs = omega (arith, length-drop (length (digits_of xs)) xs, digits_within xs)
