-- The digits at the front of a list, taken one by one; what the number readers answer of them, and what an answer says of the number.
use Prim.Native.Nat.{ℕ, ◌+◌, ◌-◌, ◌*◌, ◌≤◌, ◌<◌}
use native.Mathlib.Numerals.{add-one}
use native.Mathlib.Omega.{arith}
use mathlib.Core.Bool.{Bool, true, false, cond, and-false, and-true, or-true}
use mathlib.Core.Logic.{◌⊎◌, inl, inr, ◌≢◌}
use mathlib.Core.List.{List, [], ◌∷◌}
use mathlib.Core.Path.{◌≡◌, refl, sym, ap, ◌∙◌}
use borrow.Author.Tests.{ne_eqb, lt-leb, le-leb}
use lib.Dec.{leb, eqb}
use lib.ListN.{length, get_or, take, drop}
use lib.Seq.{take-suc, get_or-take}
use Rattle.std.specs.Prelude.{Some, None}
use Rattle.definitions.specs.Texts.{same, starts, is_digit, digits_of, number_fits, value_from, number_read}
use Rattle.words.specs.Numbers.{number_for, closed_for}
use Rattle.words.specs.declared.Number.{Number}
use Rattle.basics.proofs.Digits.{digits_within, take_digits, digit_more, digit_end, digit_low, digit_high, value-behind, value_below}
use Rattle.basics.proofs.Lists.{from_on}

-- ---- digit by digit

value_more : (xs : List ℕ) (n : ℕ) → n < length xs → value_from 0 (take (n + 1) xs) ≡ 10 * value_from 0 (take n xs) + (get_or xs n 0 - 48)
value_more xs n h = rw (add-one, take-suc xs n 0) (value-behind 0 (take n xs) (get_or xs n 0))

-- the first n bytes are digits, three at most, and this is their value
pub record ReadSoFar (xs : List ℕ) (n value : ℕ) : Type 0 where
  pub few : n ≤ 3
  pub digits : n ≤ length (digits_of xs)
  pub worth : value ≡ value_from 0 (take n xs)

-- what holds before a further digit is taken
pub record Next (xs : List ℕ) (n value : ℕ) : Type 0 where
  pub here : n < length xs
  pub low : 48 ≤ get_or xs n 0
  pub high : get_or xs n 0 ≤ 57
  pub small : value < 100
  pub more : ReadSoFar xs (n + 1) (10 * value + (get_or xs n 0 - 48))

pub none_read : (xs : List ℕ) → ReadSoFar xs 0 0
unfolding value_from
none_read xs = record { few = omega arith; digits = omega arith; worth = refl }

module _ {xs : List ℕ} {n value : ℕ} (t : ReadSoFar xs n value) where
  pub next : is_digit (get_or xs n 0) ≡ true → (n ≡ 3 → ⊥) → Next xs n value
  next e h =
      let more = digit_more xs n t.digits e in
      let within = digits_within xs in
      let apart : n ≢ 3 = h in
      let few = t.few in
      record {
        here = omega arith;
        low = digit_low (get_or xs n 0) e;
        high = digit_high (get_or xs n 0) e;
        small = omega (arith, t.worth, value_below xs n 2 0 1 (omega arith) t.digits (omega arith));
        more = record { few = omega arith; digits = omega arith; worth = rw t.worth (sym (value_more xs n (omega arith))) };
      }

  -- one more than there may be
  pub too_many : is_digit (get_or xs n 0) ≡ true → n ≡ 3 → 3 < length (digits_of xs)
  too_many e h = omega (arith, digit_more xs n t.digits e)

  -- no more follow
  pub all_taken : is_digit (get_or xs n 0) ≡ false → n ≡ length (digits_of xs)
  all_taken e = omega (arith, digit_end xs n e, t.digits)

-- ---- the number at the front

-- a first zero
zero_first : (xs : List ℕ) → 0 < length (digits_of xs) → eqb (get_or (digits_of xs) 0 0) 48 ≡ starts (48 ∷ []) xs
unfolding same
zero_first xs h = ap (λ (c : ℕ). eqb c 48) (ap (λ (l : List ℕ). get_or l 0 0) (sym (take_digits xs)) ∙ get_or-take (length (digits_of xs)) xs 0 0 h) ∙ of_head xs
  where
    of_head : (ys : List ℕ) → eqb (get_or ys 0 0) 48 ≡ starts (48 ∷ []) ys
    of_head [] = refl
    of_head (c ∷ cs) = sym (and-true (eqb c 48))

module _ (xs : List ℕ) (n : ℕ) (count : n ≡ length (digits_of xs)) where
  unread : number_fits (digits_of xs) ≡ false → None ≡ number_for xs
  unfolding number_read
  unread e = rw e

  -- no digit, or too many
  pub number_none : n ≡ 0 → None ≡ number_for xs
  number_none e = unread (rw (← count, e))

  pub number_long : 3 < n → None ≡ number_for xs
  number_long h = unread (rw (← count, lt-leb n 3 h, and-false (leb 1 n)))

  -- a leading zero
  pub number_no : n ≤ 3 → 1 < n → starts (48 ∷ []) xs ≡ true → None ≡ number_for xs
  number_no few many zero =
      let several : n ≡ 1 → ⊥ = λ e. omega arith in
      unread (rw (zero_first xs (omega arith), zero, ← count, le-leb 1 n (omega arith), le-leb n 3 few, ne_eqb n 1 several))

  -- one to three digits, and no leading zero
  module _ (few : n ≤ 3) (some : 0 < n) where
    fits : (n ≡ 1) ⊎ (starts (48 ∷ []) xs ≡ false) → number_fits (digits_of xs) ≡ true
    fits (inl e) = rw (← count, e)
    fits (inr h) = rw (zero_first xs (omega arith), h, ← count, le-leb 1 n some, le-leb n 3 few, or-true (eqb n 1))

    pub number_yes : (n ≡ 1) ⊎ (starts (48 ∷ []) xs ≡ false) → Some (record { value = value_from 0 (take n xs); digits = n }) ≡ number_for xs
    unfolding number_read
    number_yes head = rw (fits head, count, take_digits xs)

-- ---- what an answer says of the number

-- a number that is well formed: its value, what follows it, and how many digits it has
pub record Found (xs : List ℕ) (n : Number) : Type 0 where
  pub fits : (number_read xs).fits ≡ true
  pub value_is : (number_read xs).value ≡ n.value
  pub rest : (number_read xs).rest ≡ drop n.digits xs
  pub within : n.digits ≤ length xs

module _ (xs : List ℕ) where
  by_fits : (P : Type 0) → ((number_read xs).fits ≡ true → P) → ((number_read xs).fits ≡ false → P) → P
  by_fits P f g = go (number_read xs).fits refl
    where
      go : (b : Bool) → (number_read xs).fits ≡ b → P
      go true e = f e
      go false e = g e

  pub found : (n : Number) → Some n ≡ number_for xs → Found xs n
  unfolding number_read
  found n e =
      by_fits (Found xs n)
      (λ f.
      let same : Some n ≡ Some (record { value = (number_read xs).value; digits = length (digits_of xs) }) = rw f at e in
      let size : length (digits_of xs) ≡ n.digits = cc in
      record { fits = f; value_is = cc; rest = ap (λ (k : ℕ). drop k xs) size; within = omega (arith, digits_within xs) })
      (λ f. let none : Some n ≡ None = rw f at e in cc)

  pub missing : None ≡ number_for xs → (number_read xs).fits ≡ false
  missing e =
      by_fits ((number_read xs).fits ≡ false)
      (λ f. let known : None ≡ Some (record { value = (number_read xs).value; digits = length (digits_of xs) }) = rw f at e in cc)
      (λ f. f)

  -- ---- a number that a text follows, and nothing else

  pub closed_missing : (closing : List ℕ) → None ≡ number_for xs → None ≡ closed_for xs closing
  closed_missing closing e = rw (missing e)

  -- by the comparison of what follows it
  pub closed_by : (closing : List ℕ) (n : Number) → Some n ≡ number_for xs → (s b : Bool) → s ≡ same (take (length xs - n.digits) (drop n.digits xs)) closing → s ≡ b
      → cond b (Some n) None ≡ closed_for xs closing
  closed_by closing n e s b compared h =
      let f = found n e in
      let known : Some n ≡ Some (record { value = (number_read xs).value; digits = length (digits_of xs) }) = rw f.fits at e in
      let follows : same (number_read xs).rest closing ≡ b = rw (f.rest, ← from_on xs n.digits) (sym compared ∙ h) in
      rw (f.fits, follows, known)
