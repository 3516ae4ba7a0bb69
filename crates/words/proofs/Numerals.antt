-- Printing and reading of numbers are inverse on 0 to 999.
-- First the printed digits, for every n: read again, and their first digit.
-- Then the two theorems: `read-printed`, what is printed reads as the number, and `number-split`, what reads as a number is what is printed of it.
use Prim.Native.Nat.{ℕ, suc, ◌+◌, ◌-◌, ◌*◌, ◌/◌, ◌%◌, ◌≤◌, ◌<◌}
use native.Mathlib.Omega.{arith}
use mathlib.Core.Bool.{Bool, true, false, cond, not, ◌||◌, or-true, false≢true}
use mathlib.Core.List.{List, [], ◌∷◌, ◌++◌, append_assoc, append-nil}
use mathlib.Core.Logic.{◌⊎◌, inl, inr, ◌≢◌}
use mathlib.Core.Path.{◌≡◌, refl, sym, ap, ◌∙◌}
use borrow.Author.Tests.{le-leb, ne_eqb, leb-true, eqb-false, not-true}
use lib.Dec.{leb, eqb}
use lib.ListN.{length, get_or, drop, get_or-append, take-append-drop}
use lib.Seq.{drop-append_seam, take-length}
use Rattle.definitions.specs.Texts.{is_digit, digits_of, number_fits, value_from, decimal, number_read}
use Rattle.definitions.specs.Threads.{between}
use Rattle.basics.proofs.Digits.{digits_yes, take_digits, digit_here, digit_low, digit_high, digit_is, value_below, value-printed}
use Rattle.basics.proofs.Numbers.{decimal_small, decimal_more, by_tens, decimal-some, decimal-short}
use Rattle.basics.proofs.Tests.{and_both, below?}

-- ---- the printed digits

-- all of them are digits, so that reading goes on behind them
digits_printed : (n : ℕ) (xs : List ℕ) → digits_of (decimal n ++ xs) ≡ decimal n ++ digits_of xs
digits_printed = by_tens (λ n. (xs : List ℕ) → digits_of (decimal n ++ xs) ≡ decimal n ++ digits_of xs) one more
  where
    one : (n : ℕ) → n < 10 → (xs : List ℕ) → digits_of (decimal n ++ xs) ≡ decimal n ++ digits_of xs
    one n h xs = rw (decimal_small n h) (digits_yes (48 + n) xs (digit_is (48 + n) (omega arith) (omega arith)))

    more : (n : ℕ) → 10 ≤ n → ((xs : List ℕ) → digits_of (decimal (n / 10) ++ xs) ≡ decimal (n / 10) ++ digits_of xs)
        → (xs : List ℕ) → digits_of (decimal n ++ xs) ≡ decimal n ++ digits_of xs
    more n h rec xs =
        let last = 48 + n % 10 in
        rw (decimal_more n h, append_assoc (decimal (n / 10)) (last ∷ []) xs, append_assoc (decimal (n / 10)) (last ∷ []) (digits_of xs))
        (rec (last ∷ xs) ∙ ap (λ (ds : List ℕ). decimal (n / 10) ++ ds) (digits_yes last xs (digit_is last (omega arith) (omega arith))))

-- and alone
digits_alone : (n : ℕ) → digits_of (decimal n) ≡ decimal n
unfolding digits_of
digits_alone n = ap digits_of (sym (append-nil (decimal n))) ∙ digits_printed n [] ∙ append-nil (decimal n)

-- so is the first byte of what is printed
pub first_printed : (n : ℕ) (xs : List ℕ) → is_digit (get_or (decimal n ++ xs) 0 0) ≡ true
first_printed n xs =
    ap is_digit (get_or-append (decimal n) xs 0 0 (decimal-some n))
    ∙ digit_here (decimal n) 0 (omega (arith, decimal-some n, ap length (digits_alone n)))

-- no leading zero
head-printed : (n : ℕ) → 0 < n → get_or (decimal n) 0 0 ≢ 48
head-printed = by_tens (λ n. 0 < n → get_or (decimal n) 0 0 ≢ 48) one more
  where
    one : (n : ℕ) → n < 10 → 0 < n → get_or (decimal n) 0 0 ≢ 48
    one n h p = rw (decimal_small n h) (λ e. omega arith)

    more : (n : ℕ) → 10 ≤ n → (0 < n / 10 → get_or (decimal (n / 10)) 0 0 ≢ 48) → 0 < n → get_or (decimal n) 0 0 ≢ 48
    more n h rec p = rw (decimal_more n h, get_or-append (decimal (n / 10)) ((48 + n % 10) ∷ []) 0 0 (decimal-some (n / 10))) (rec (omega arith))

-- ---- what is printed reads as the number

fits-printed : (n : ℕ) → n < 1000 → number_fits (decimal n) ≡ true
fits-printed n h = rw (le-leb 1 (length (decimal n)) (decimal-some n), le-leb (length (decimal n)) 3 (decimal-short n 3 (omega arith) h)) (go (below? 10 n))
  where
    go : (n < 10) ⊎ (10 ≤ n) → (eqb (length (decimal n)) 1 || not (eqb (get_or (decimal n) 0 0) 48)) ≡ true
    go (inl a) = rw (decimal_small n a)
    go (inr a) = rw (ne_eqb (get_or (decimal n) 0 0) 48 (head-printed n (omega arith))) (or-true (eqb (length (decimal n)) 1))

-- no digit begins xs
none_first : (xs : List ℕ) → is_digit (get_or xs 0 0) ≡ false → digits_of xs ≡ []
unfolding digits_of
none_first [] e = refl
none_first (c ∷ cs) e = rw e

-- whatever but a digit follows
pub read-printed : (n : ℕ) (xs : List ℕ) → n < 1000 → is_digit (get_or xs 0 0) ≡ false
    → number_read (decimal n ++ xs) ≡ record { fits = true; value = n; rest = xs }
unfolding number_read
read-printed n xs h e = rw (digits_printed n xs, none_first xs e, append-nil, fits-printed n h, value-printed n, drop-append_seam)

-- ---- digits that read as a number are what is printed of it

-- one more digit behind a number that isn't 0
decimal-behind : (high c : ℕ) → 0 < high → is_digit c ≡ true → decimal (10 * high + (c - 48)) ≡ decimal high ++ (c ∷ [])
decimal-behind high c h d =
    let low = digit_low c d in
    let top = digit_high c d in
    let front : (10 * high + (c - 48)) / 10 ≡ high = omega arith in
    let back : 48 + (10 * high + (c - 48)) % 10 ≡ c = omega arith in
    rw (decimal_more (10 * high + (c - 48)) (omega arith), front, back)

first_digit : (c : ℕ) (cs : List ℕ) → digits_of (c ∷ cs) ≡ c ∷ cs → is_digit c ≡ true
first_digit c cs e = digit_here (c ∷ cs) 0 (omega (arith, ap length e))

other_digits : (c : ℕ) (cs : List ℕ) → digits_of (c ∷ cs) ≡ c ∷ cs → digits_of cs ≡ cs
other_digits c cs e = let f : c ∷ digits_of cs ≡ c ∷ cs = sym (digits_yes c cs (first_digit c cs e)) ∙ e in cc

printed-behind : (ds : List ℕ) (high : ℕ) → 0 < high → digits_of ds ≡ ds → decimal (value_from high ds) ≡ decimal high ++ ds
unfolding value_from
printed-behind [] high h e = sym (append-nil (decimal high))
printed-behind (c ∷ cs) high h e =
    printed-behind cs (10 * high + (c - 48)) (omega arith) (other_digits c cs e)
    ∙ ap (λ (ds : List ℕ). ds ++ cs) (decimal-behind high c h (first_digit c cs e))
    ∙ append_assoc (decimal high) (c ∷ []) cs

-- a digit alone
printed_alone : (c : ℕ) → is_digit c ≡ true → decimal (10 * 0 + (c - 48)) ≡ c ∷ []
printed_alone c d =
    let low = digit_low c d in
    let top = digit_high c d in
    let same : 48 + (10 * 0 + (c - 48)) ≡ c = omega arith in
    decimal_small (10 * 0 + (c - 48)) (omega arith) ∙ ap (λ (n : ℕ). n ∷ []) same

-- with digits behind it, if it isn't 0
printed-read : (ds : List ℕ) → digits_of ds ≡ ds → number_fits ds ≡ true → decimal (value_from 0 ds) ≡ ds
unfolding value_from
printed-read [] e f = absurd (false≢true f)
printed-read (c ∷ []) e f = printed_alone c (first_digit c [] e)
printed-read (c ∷ d ∷ ds) e f =
    let digit = first_digit c (d ∷ ds) e in
    let low = digit_low c digit in
    let two : suc (suc (length ds)) ≢ 1 = λ q. omega arith in
    let rule : (eqb (suc (suc (length ds))) 1 || not (eqb c 48)) ≡ true = (and_both (between 1 3 (suc (suc (length ds)))) _ f).1 in
    let head : not (eqb c 48) ≡ true = rw (ne_eqb (suc (suc (length ds))) 1 two) at rule in
    let apart : c ≢ 48 = eqb-false c 48 (not-true (eqb c 48) head) in
    printed-behind (d ∷ ds) (10 * 0 + (c - 48)) (omega arith) (other_digits c (d ∷ ds) e)
    ∙ ap (λ (l : List ℕ). l ++ (d ∷ ds)) (printed_alone c digit)

read_below : (ds : List ℕ) → digits_of ds ≡ ds → number_fits ds ≡ true → value_from 0 ds < 1000
read_below ds e f =
    let few : length ds ≤ 3 = leb-true (length ds) 3 (and_both (leb 1 (length ds)) _ (and_both (between 1 3 (length ds)) _ f).0).1 in
    rw take-length at (value_below ds (length ds) 3 0 1 few (omega (arith, ap length e)) (omega arith))

digits_again : (xs : List ℕ) → digits_of (digits_of xs) ≡ digits_of xs
unfolding digits_of
digits_again [] = refl
digits_again (c ∷ cs) = go (is_digit c) refl (digits_again cs)
  where
    go : (b : Bool) → is_digit c ≡ b → digits_of (digits_of cs) ≡ digits_of cs → digits_of (cond b (c ∷ digits_of cs) []) ≡ cond b (c ∷ digits_of cs) []
    go true e rec = digits_yes c (digits_of cs) e ∙ ap (λ (l : List ℕ). c ∷ l) rec
    go false e rec = refl

-- a number that is well formed is below 1000, and what is read is what is printed of it
pub number-split : (xs : List ℕ) → (number_read xs).fits ≡ true
    → ((number_read xs).value < 1000) × (xs ≡ decimal (number_read xs).value ++ (number_read xs).rest)
unfolding number_read
number-split xs e =
    let ds = digits_of xs in (
      read_below ds (digits_again xs) e,
      sym (take-append-drop (length ds) xs)
          ∙ ap (λ (l : List ℕ). l ++ drop (length ds) xs) (take_digits xs ∙ sym (printed-read ds (digits_again xs) e)),
    )
