-- Digits as they are read: how far they go at the front of a list, place by place, their value and its size.
use Prim.Native.Nat.{ℕ, zero, suc, ◌+◌, ◌-◌, ◌*◌, ◌/◌, ◌%◌, ◌≤◌, ◌<◌}
use native.Mathlib.Nat.{mul-le-mul_left, mul_assoc, mul_comm}
use native.Mathlib.Omega.{arith}
use mathlib.Core.Bool.{Bool, true, false, cond, false≢true}
use mathlib.Core.List.{List, [], ◌∷◌, ◌++◌}
use mathlib.Core.Path.{◌≡◌, refl, ap, ◌∙◌}
use borrow.Author.Tests.{leb-true, le-leb}
use lib.Dec.{leb}
use lib.ListN.{length, take, get_or}
use Rattle.definitions.specs.Texts.{is_digit, digits_of, value_from, decimal}
use Rattle.basics.proofs.Numbers.{decimal_small, decimal_more, by_tens, tens}
use Rattle.basics.proofs.Tests.{and_both}

-- ---- how far the digits go

pub digits_yes : (c : ℕ) (cs : List ℕ) → is_digit c ≡ true → digits_of (c ∷ cs) ≡ c ∷ digits_of cs
unfolding digits_of
digits_yes c cs e = rw e

pub digits_no : (c : ℕ) (cs : List ℕ) → is_digit c ≡ false → digits_of (c ∷ cs) ≡ []
unfolding digits_of
digits_no c cs e = rw e

pub digits_within : (xs : List ℕ) → length (digits_of xs) ≤ length xs
unfolding digits_of
digits_within [] = omega arith
digits_within (c ∷ cs) = go (is_digit c) (digits_within cs)
  where
    go : (b : Bool) → length (digits_of cs) ≤ length cs → length (cond b (c ∷ digits_of cs) []) ≤ suc (length cs)
    go true h = omega arith
    go false h = omega arith

pub take_digits : (xs : List ℕ) → take (length (digits_of xs)) xs ≡ digits_of xs
unfolding digits_of
take_digits [] = refl
take_digits (c ∷ cs) = go (is_digit c) (take_digits cs)
  where
    go : (b : Bool) → take (length (digits_of cs)) cs ≡ digits_of cs
        → take (length (cond b (c ∷ digits_of cs) [])) (c ∷ cs) ≡ cond b (c ∷ digits_of cs) []
    go true h = ap (λ (l : List ℕ). c ∷ l) h
    go false h = refl

-- a digit behind n digits is one more
pub digit_more : (xs : List ℕ) (n : ℕ) → n ≤ length (digits_of xs) → is_digit (get_or xs n 0) ≡ true → n < length (digits_of xs)
digit_more [] n h e = absurd (false≢true e)
digit_more (c ∷ cs) zero h e = rw (digits_yes c cs e) (omega arith)
digit_more (c ∷ cs) (suc n) h e = go (is_digit c) refl (λ l. digit_more cs n l e)
  where
    go : (b : Bool) → is_digit c ≡ b → (n ≤ length (digits_of cs) → n < length (digits_of cs)) → suc n < length (digits_of (c ∷ cs))
    go true f rec =
        let more : suc n ≤ suc (length (digits_of cs)) = rw (digits_yes c cs f) at h in
        let l = rec (omega arith) in
        rw (digits_yes c cs f) (omega arith)
    go false f rec = let none : suc n ≤ 0 = rw (digits_no c cs f) at h in absurd (omega arith)

-- what is no digit ends them
pub digit_end : (xs : List ℕ) (n : ℕ) → is_digit (get_or xs n 0) ≡ false → length (digits_of xs) ≤ n
unfolding digits_of
digit_end [] n e = omega arith
digit_end (c ∷ cs) zero e = rw e (omega arith)
digit_end (c ∷ cs) (suc n) e = go (is_digit c) (digit_end cs n e)
  where
    go : (b : Bool) → length (digits_of cs) ≤ n → length (cond b (c ∷ digits_of cs) []) ≤ suc n
    go true h = omega arith
    go false h = omega arith

-- each of them is one
pub digit_here : (xs : List ℕ) (n : ℕ) → n < length (digits_of xs) → is_digit (get_or xs n 0) ≡ true
digit_here xs n h = go (is_digit (get_or xs n 0)) refl
  where
    go : (b : Bool) → is_digit (get_or xs n 0) ≡ b → is_digit (get_or xs n 0) ≡ true
    go true e = e
    go false e = absurd (omega (arith, digit_end xs n e))

pub digit_low : (c : ℕ) → is_digit c ≡ true → 48 ≤ c
digit_low c e = leb-true 48 c (and_both (leb 48 c) (leb c 57) e).0

pub digit_high : (c : ℕ) → is_digit c ≡ true → c ≤ 57
digit_high c e = leb-true c 57 (and_both (leb 48 c) (leb c 57) e).1

pub digit_is : (c : ℕ) → 48 ≤ c → c ≤ 57 → is_digit c ≡ true
digit_is c l h = rw (le-leb 48 c l, le-leb c 57 h)

-- ---- their value

pub value-behind : (high : ℕ) (xs : List ℕ) (c : ℕ) → value_from high (xs ++ (c ∷ [])) ≡ 10 * value_from high xs + (c - 48)
unfolding value_from
value-behind high [] c = refl
value-behind high (x ∷ xs) c = value-behind (10 * high + (x - 48)) xs c

tens_some : (m : ℕ) → 1 ≤ tens m
tens_some zero = omega arith
tens_some (suc m) = omega (arith, tens_some m)

-- n digits behind a number below b make one below b with m zeros, where n is at most m
pub value_below : (xs : List ℕ) (n m high b : ℕ) → n ≤ m → n ≤ length (digits_of xs) → high < b → value_from high (take n xs) < b * tens m
unfolding value_from
value_below xs zero m high b g l h = let w : b * 1 ≤ b * tens m = mul-le-mul_left b (tens_some m) in omega arith
value_below xs (suc n) zero high b g l h = absurd (omega arith)
value_below [] (suc n) (suc m) high b g l h = absurd (omega (arith, digits_within []))
value_below (c ∷ cs) (suc n) (suc m) high b g l h =
    let d = digit_high c (digit_here (c ∷ cs) 0 (omega arith)) in
    let more : suc n ≤ suc (length (digits_of cs)) = rw (digits_yes c cs (digit_here (c ∷ cs) 0 (omega arith))) at l in
    rw (← mul_assoc b 10 (tens m), mul_comm b 10) (value_below cs n m (10 * high + (c - 48)) (10 * b) (omega arith) (omega arith) (omega arith))

-- what is printed stands for the number
pub value-printed : (n : ℕ) → value_from 0 (decimal n) ≡ n
unfolding value_from
value-printed = by_tens (λ n. value_from 0 (decimal n) ≡ n) one more
  where
    one : (n : ℕ) → n < 10 → value_from 0 (decimal n) ≡ n
    one n h = rw (decimal_small n h) (omega arith)

    more : (n : ℕ) → 10 ≤ n → value_from 0 (decimal (n / 10)) ≡ n / 10 → value_from 0 (decimal n) ≡ n
    more n h rec = rw (decimal_more n h) (value-behind 0 (decimal (n / 10)) (48 + n % 10) ∙ rw rec (omega arith))
