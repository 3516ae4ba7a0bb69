-- `words::read_number` meets its contract: each byte that the loop takes is a digit, and behind the loop all digits are taken.
use Rattle.std.proofs.Common.{◌≡◌, ◌≢◌, ◌⊎◌, false, [], ◌∷◌, refl, sym, ◌∙◌, arith, inl, inr}
use Rattle.definitions.specs.Texts.{starts}
use Rattle.words.proofs.NumberReading.{none_read, next, too_many, all_taken, number_none, number_long, number_no, number_yes}
use Rattle.words.proofs.read_number.Goals as goal
use Rattle.words.proofs.read_number.Goals.{else-digits-gt1-via-then-digits-gt1+else-starts_with, else-digits-gt1-via-else-digits-gt1}

pub loop-value-init : goal.loop-value-init
loop-value-init c = none_read _

pub returns-then-digits-eq-MOST_DIGITS : goal.returns-then-digits-eq-MOST_DIGITS
returns-then-digits-eq-MOST_DIGITS c =
    number_long _ _ refl (too_many c.loop-value.invariant (sym c.digit_at.ensures ∙ c.loop-value-test.true) c.if-digits-eq-MOST_DIGITS.true)

pub overflow_mul-value : goal.overflow_mul-value
overflow_mul-value c =
    let n = next c.loop-value.invariant (sym c.digit_at.ensures ∙ c.loop-value-test.true) c.if-digits-eq-MOST_DIGITS.false in
    omega arith

pub overflow_add-value : goal.overflow_add-value
overflow_add-value c =
    let n = next c.loop-value.invariant (sym c.digit_at.ensures ∙ c.loop-value-test.true) c.if-digits-eq-MOST_DIGITS.false in
    omega arith

pub loop-value-preserved : goal.loop-value-preserved
loop-value-preserved c =
    rw c.from.ensures (next c.loop-value.invariant (sym c.digit_at.ensures ∙ c.loop-value-test.true) c.if-digits-eq-MOST_DIGITS.false).more

pub returns-then-digits-eq0 : goal.returns-then-digits-eq0
returns-then-digits-eq0 c =
    number_none _ _ (all_taken c.loop-value.invariant (sym c.digit_at.ensures ∙ c.loop-value-test.false)) c.if-digits-eq0.true

pub returns-then-starts_with : goal.returns-then-starts_with
returns-then-starts_with c =
    number_no _ _ (all_taken c.loop-value.invariant (sym c.digit_at.ensures ∙ c.loop-value-test.false)) c.loop-value.invariant.few c.if-digits-gt1.true
    (sym c.starts_with.ensures.value ∙ c.if-starts_with.true)

pub returns : goal.returns
returns c =
    let some : c.loop-value.digits ≢ 0 = c.if-digits-eq0.false in
    rw c.loop-value.invariant.worth
    (number_yes _ _ (all_taken c.loop-value.invariant (sym c.digit_at.ensures ∙ c.loop-value-test.false)) c.loop-value.invariant.few (omega arith) head)
  where
    head : (c.loop-value.digits ≡ 1) ⊎ (starts (48 ∷ []) c.args.part.now ≡ false)
    head =
        elim c.else-digits-gt1.branch [
          | else-digits-gt1-via-then-digits-gt1+else-starts_with w ↦ inr (sym w.starts_with.ensures.value ∙ w.if-starts_with.false)
          | else-digits-gt1-via-else-digits-gt1 w ↦ let some : c.loop-value.digits ≢ 0 = c.if-digits-eq0.false in inl (omega arith)
        ]
