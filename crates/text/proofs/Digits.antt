-- A number put digit by digit, from its last digit on.
use Prim.Native.Nat.{ℕ, suc, ◌+◌, ◌-◌, ◌/◌, ◌%◌, ◌≤◌, ◌<◌}
use native.Mathlib.Omega.{arith}
use mathlib.Core.List.{List, [], ◌∷◌, ◌++◌, append_assoc, append-nil}
use mathlib.Core.Path.{◌≡◌, refl, sym, ap, ◌∙◌}
use lib.ListN.{length, take, drop, set, length-append, length-set}
use lib.Seq.{length-take-le, take-append-le, take-take, drop_at}
use Rattle.definitions.specs.Texts.{decimal}
use Rattle.basics.specs.Outputs.{put_at, RoomAt}
use Rattle.basics.proofs.Numbers.{decimal_small, decimal_more, decimal_longer, decimal-some}
use Rattle.basics.proofs.Outputs.{none, stored}
use Rattle.text.specs.declared.Output.{Output}
use Rattle.text.specs.Cursors.{HasRoom, Puts}
use Rattle.text.proofs.Cursors.{stored_puts}

-- a byte put right before a text
before_text : (out : List ℕ) (place b : ℕ) (low : List ℕ) → place + 1 + length low ≤ length out
    → put_at (put_at out (place + 1) low) place (b ∷ []) ≡ put_at out place (b ∷ low)
unfolding put_at
before_text out place b low h =
    let front = take (place + 1) out in
    let back = low ++ drop (place + 1 + length low) out in
    let size = length-take-le (place + 1) out (omega arith) in
    let end : place + 1 + length low ≡ place + suc (length low) = omega arith in
    rw (take-append-le place front back (omega arith), take-take place (place + 1) out (omega arith), drop_at front back (place + 1) size)
    (ap (λ (k : ℕ). take place out ++ (b ∷ (low ++ drop k out))) end)

-- the digits behind those of `high` stand at `place`, where those of `high` are to end
pub record DigitsPut (start : Output) (n high place : ℕ) (o : Output) : Type 0 where
  pub same_bytes : o.bytes.ghost_name ≡ start.bytes.ghost_name
  pub position : o.at ≡ start.at
  pub low : List ℕ
  pub digits : decimal n ≡ decimal high ++ low
  pub front : place ≡ start.at + length (decimal high)
  pub output : o.bytes.now ≡ put_at start.bytes.now place low
  pub size : length o.bytes.now ≡ length start.bytes.now

module _ {start : Output} {n : ℕ} (r : HasRoom start (decimal n)) where
  pub digits_none : {end : ℕ} → end ≡ start.at + length (decimal n) → DigitsPut start n n end start
  digits_none {end} e =
      record {
        same_bytes = refl;
        position = refl;
        low = [];
        digits = sym (append-nil (decimal n));
        front = e;
        output = (none start.bytes.now end).output;
        size = refl;
      }

  module _ {high place : ℕ} {o : Output} (w : DigitsPut start n high place o) where
    -- the digits of `high` and those behind them fit
    within : place + length w.low ≤ length start.bytes.now
    within = omega (arith, r.ends, w.front, ap length w.digits, length-append (decimal high) w.low)

    -- a byte put right before those that are put
    joined : (before b : ℕ) → before + 1 ≡ place → set o.bytes.now before b ≡ put_at start.bytes.now before (b ∷ w.low)
    joined before b e =
        let room : RoomAt o.bytes.now before (b ∷ []) = record { ends = omega (arith, within, w.size) } in
        (stored (b ∷ []) room).output
        ∙ (ap (λ (xs : List ℕ). put_at xs before (b ∷ [])) (w.output ∙ ap (λ (k : ℕ). put_at start.bytes.now k w.low) (sym e))
        ∙ before_text start.bytes.now before b w.low (omega (arith, within)))

    -- the place before is behind the start, and within the bytes
    pub digit-behind : start.at < place
    digit-behind = omega (arith, w.front, decimal-some high)

    pub digit-room : place ≤ length o.bytes.now
    digit-room = omega (arith, within, w.size)

    -- one digit more, the last of `high`
    module _ (many : 10 ≤ high) where
      pub digits_more : {o' : Output} → o'.bytes.ghost_name ≡ o.bytes.ghost_name → o'.at ≡ o.at → o'.bytes.now ≡ set o.bytes.now (place - 1) (48 + high % 10)
          → DigitsPut start n (high / 10) (place - 1) o'
      digits_more e f g =
          record {
            same_bytes = e ∙ w.same_bytes;
            position = f ∙ w.position;
            low = (48 + high % 10) ∷ w.low;
            digits = w.digits ∙ rw (decimal_more high many, append_assoc);
            front = omega (arith, w.front, decimal_longer high (length (decimal (high / 10))) many refl);
            output = g ∙ joined (place - 1) (48 + high % 10) (omega (arith, digit-behind));
            size = ap length g ∙ (length-set o.bytes.now (place - 1) (48 + high % 10) ∙ w.size);
          }

    -- the first digit
    module _ (few : high < 10) where
      pub digits_all : {o' : Output} → o'.bytes.ghost_name ≡ o.bytes.ghost_name → o'.bytes.now ≡ set o.bytes.now o.at (48 + high)
          → o'.at ≡ start.at + length (decimal n) → Puts start (decimal n) o'
      digits_all e f g =
          let whole : decimal n ≡ (48 + high) ∷ w.low = w.digits ∙ rw (decimal_small high few) in
          let first = joined start.at (48 + high) (omega (arith, w.front, ap length (decimal_small high few))) in
          let output = f ∙ (ap (λ (k : ℕ). set o.bytes.now k (48 + high)) w.position ∙ (first ∙ ap (put_at start.bytes.now start.at) (sym whole))) in
          stored_puts r (e ∙ w.same_bytes) g output
