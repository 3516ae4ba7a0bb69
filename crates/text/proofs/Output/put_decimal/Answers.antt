use Prim.Native.Nat.{◌+◌}
use native.Mathlib.Omega.{arith}
use mathlib.Core.Path.{refl, ap}
use Rattle.text.proofs.Digits.{digits_none, digit-behind, digit-room, digits_more, digits_all}
use Rattle.text.proofs.Output.put_decimal.Goals as goal

pub loop-high-init : goal.loop-high-init
loop-high-init c =
    let end = ap (λ k. c.args.self.now.at + k) c.decimal_length.ensures.digits in
    (end, digits_none c.requires end)

pub overflow_sub-place : goal.overflow_sub-place
overflow_sub-place c = omega (arith, digit-behind c.requires c.loop-high.invariant.1)

pub bounds-self-place : goal.bounds-self-place
bounds-self-place c =
    let w = c.loop-high.invariant.1 in
    omega (arith, digit-behind c.requires w, digit-room c.requires w)

pub bounds-self-self : goal.bounds-self-self
bounds-self-self c =
    let w = c.loop-high.invariant.1 in
    omega (arith, w.position, digit-behind c.requires w, digit-room c.requires w)

pub loop-high-preserved : goal.loop-high-preserved
loop-high-preserved c = (c.loop-high.invariant.0, digits_more c.requires c.loop-high.invariant.1 c.loop-high-test.true refl refl refl)

pub returns : goal.returns
returns c = digits_all c.requires c.loop-high.invariant.1 c.loop-high-test.false refl refl c.loop-high.invariant.0
