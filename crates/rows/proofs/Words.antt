-- What a word tells of its thread: its state, and whether its bytes have few bits. For any number above the three bytes.
-- Then the bits of several words taken together: all have few bits where each has.
use Prim.Native.Nat.{ℕ, ◌+◌, ◌*◌, ◌/◌, ◌%◌, ◌<◌, min, max}
use native.Mathlib.Nat.{mod-eq_of_lt, zero-add}
use native.Mathlib.Omega.{arith}
use mathlib.Core.Bool.{◌&&◌}
use mathlib.Core.Path.{◌≡◌, refl, sym, ap, ap₂, ◌∙◌}
use lib.Arith.{bin_ind, digits_div, digits_mod}
use lib.Bits.{bit_and, bit_or, and_step, or_step, and_shr, or_shr, and_block, and_high, and_zero_r, and_le_l, and_le_r, or_add_and}
use lib.Dec.{T, ltb, eqb, eqb→eq, ltb→lt, lt→ltb}
use Rattle.basics.proofs.Tests.{and_l, and_r, and_i, eq_T, same_test}
use Rattle.rows.specs.Rows.{row_for, few_bits, state_of, row_at, word_of, state_in, high}

-- ---- the state in a word

-- the product holds the state in bits 25 to 31, `above` from bit 32 on, and below bit 25 a rest
pub state_in_lem : (p b f a : ℕ) → p < 32 → b < 2 → f < 2 → state_in (word_of p b f a) ≡ state_of p b f
state_in_lem p b f a hp hb hf =
    ap (λ (x : ℕ). x / 33_554_432 % 128) split
    ∙ ap (λ (x : ℕ). x % 128) (digits_div (above * 128 + state_of p b f) (omega arith))
    ∙ digits_mod above (omega arith)
  where
    above : ℕ
    above = 8 * b + 4 * f + 2_048 * f + 2 * a + 1_024 * a + 524_288 * a

    split : word_of p b f a * 134_480_384 ≡ (above * 128 + state_of p b f) * 33_554_432 + (512 * p + 262_144 * p + 131_072 * b)
    split = omega arith

-- the row of that state is the row of the bytes
pub row_in : (p b f a : ℕ) → T (few_bits p b f) → row_at (state_in (word_of p b f a)) ≡ row_for p b f
unfolding row_at
row_in p b f a t =
    let hp = ltb→lt p 32 (and_l (ltb p 32) _ t) in
    let rest = and_r (ltb p 32) _ t in
    let hb = ltb→lt b 2 (and_l (ltb b 2) (ltb f 2) rest) in
    let hf = ltb→lt f 2 (and_r (ltb b 2) (ltb f 2) rest) in
    let phase : state_of p b f / 4 ≡ p = omega arith in
    let busy : state_of p b f / 2 % 2 ≡ b = omega arith in
    let forbidden : state_of p b f % 2 ≡ f = omega arith in
    ap row_at (state_in_lem p b f a hp hb hf) ∙ simp (phase, busy, forbidden)

-- ---- the bits in a word

-- the mask on a phase, and on a flag
few-phase : (p : ℕ) → p < 256 → eqb (bit_and p 224) 0 ≡ ltb p 32
few-phase p h =
    let e : bit_and p 224 ≡ p / 32 * 32 = and_high p 3 5 ∙ ap (λ (x : ℕ). x * 32) (mod-eq_of_lt (omega arith)) in
    same_test _ _ (λ t. lt→ltb p 32 (omega (arith, eqb→eq (bit_and p 224) 0 t))) (λ t. eq_T (bit_and p 224) 0 (omega (arith, ltb→lt p 32 t)))

few-flag : (x : ℕ) → x < 256 → eqb (bit_and x 254) 0 ≡ ltb x 2
few-flag x h =
    let e : bit_and x 254 ≡ x / 2 * 2 = and_high x 7 1 ∙ ap (λ (y : ℕ). y * 2) (mod-eq_of_lt (omega arith)) in
    same_test _ _ (λ t. lt→ltb x 2 (omega (arith, eqb→eq (bit_and x 254) 0 t))) (λ t. eq_T (bit_and x 254) 0 (omega (arith, ltb→lt x 2 t)))

-- a number of three bytes is 0 where each byte is
three_zero : (p b f : ℕ) → eqb ((f * 256 + b) * 256 + p) 0 ≡ (eqb p 0 && (eqb b 0 && eqb f 0))
three_zero p b f =
    same_test _ _
    (λ t.
    let e : (f * 256 + b) * 256 + p ≡ 0 = eqb→eq _ 0 t in
    and_i (eqb p 0) _ (eq_T p 0 (omega arith)) (and_i (eqb b 0) _ (eq_T b 0 (omega arith)) (eq_T f 0 (omega arith))))
    (λ t.
    let rest = and_r (eqb p 0) _ t in
    let x = eqb→eq p 0 (and_l (eqb p 0) _ t) in
    let y = eqb→eq b 0 (and_l (eqb b 0) (eqb f 0) rest) in
    let z = eqb→eq f 0 (and_r (eqb b 0) (eqb f 0) rest) in
    eq_T ((f * 256 + b) * 256 + p) 0 (omega arith))

-- the mask works on each byte by itself
mask : (p b f a : ℕ) → p < 256 → b < 256 → f < 256 → bit_and (word_of p b f a) high ≡ (bit_and f 254 * 256 + bit_and b 254) * 256 + bit_and p 224
mask p b f a hp hb hf =
    ap (λ (x : ℕ). bit_and x high) bytes
    ∙ and_block 8 ((a * 256 + f) * 256 + b) 65_278 p 224 hp (omega arith)
    ∙ ap (λ (x : ℕ). x * 256 + bit_and p 224) (and_block 8 (a * 256 + f) 254 b 254 hb (omega arith)
    ∙ ap (λ (x : ℕ). x * 256 + bit_and b 254) (and_block 8 a 0 f 254 hf (omega arith)
    ∙ ap (λ (x : ℕ). x * 256 + bit_and f 254) (and_zero_r a) ∙ zero-add (bit_and f 254)))
  where
    bytes : word_of p b f a ≡ ((a * 256 + f) * 256 + b) * 256 + p
    bytes = omega arith

-- no bit of the mask is set where the bytes have few bits
pub few_word : (p b f a : ℕ) → p < 256 → b < 256 → f < 256 → eqb (bit_and (word_of p b f a) high) 0 ≡ few_bits p b f
few_word p b f a hp hb hf =
    ap (λ (x : ℕ). eqb x 0) (mask p b f a hp hb hf)
    ∙ three_zero (bit_and p 224) (bit_and b 254) (bit_and f 254)
    ∙ rw (few-phase p hp, few-flag b hb, few-flag f hf)

-- ---- the bits of two words

-- the lowest digit of an and, and of an or
and_odd : (x m : ℕ) → bit_and x m % 2 ≡ min (x % 2) (m % 2)
and_odd x m = ap (λ (k : ℕ). k % 2) (and_step x m) ∙ digits_mod (bit_and (x / 2) (m / 2)) (omega arith)

or_odd : (x y : ℕ) → bit_or x y % 2 ≡ max (x % 2) (y % 2)
or_odd x y = ap (λ (k : ℕ). k % 2) (or_step x y) ∙ digits_mod (bit_or (x / 2) (y / 2)) (omega arith)

min-max : (x y m : ℕ) → min (max x y) m ≡ max (min x m) (min y m)
min-max x y m = omega arith

-- an and goes over an or, digit by digit
and_or : (x y m : ℕ) → bit_and (bit_or x y) m ≡ bit_or (bit_and x m) (bit_and y m)
and_or =
    bin_ind (λ (x : ℕ). (y m : ℕ) → bit_and (bit_or x y) m ≡ bit_or (bit_and x m) (bit_and y m))
    (λ y m. refl)
    (λ x rec y m.
    and_step (bit_or x y) m
    ∙ ap₂ (λ (q r : ℕ). q * 2 + r)
    (ap (λ (k : ℕ). bit_and k (m / 2)) (or_shr x y 1) ∙ rec (y / 2) (m / 2) ∙ sym (ap₂ bit_or (and_shr x m 1) (and_shr y m 1)))
    (ap (λ (k : ℕ). min k (m % 2)) (or_odd x y) ∙ min-max (x % 2) (y % 2) (m % 2) ∙ sym (ap₂ max (and_odd x m) (and_odd y m)))
    ∙ sym (or_step (bit_and x m) (bit_and y m)))

-- an or is 0 where both are
or_zero : (x y : ℕ) → eqb (bit_or x y) 0 ≡ (eqb x 0 && eqb y 0)
or_zero x y =
    let sum = or_add_and x y in
    let left = and_le_l x y in
    let right = and_le_r x y in
    same_test _ _
    (λ t. let e = eqb→eq (bit_or x y) 0 t in and_i (eqb x 0) (eqb y 0) (eq_T x 0 (omega arith)) (eq_T y 0 (omega arith)))
    (λ t.
    let a = eqb→eq x 0 (and_l (eqb x 0) (eqb y 0) t) in
    let b = eqb→eq y 0 (and_r (eqb x 0) (eqb y 0) t) in
    eq_T (bit_or x y) 0 (omega arith))

-- two words together have few bits where both have
pub few_both : (x y m : ℕ) → eqb (bit_and (bit_or x y) m) 0 ≡ (eqb (bit_and x m) 0 && eqb (bit_and y m) 0)
few_both x y m = ap (λ (k : ℕ). eqb k 0) (and_or x y m) ∙ or_zero (bit_and x m) (bit_and y m)
