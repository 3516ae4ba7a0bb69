use native.Mathlib.Omega.{arith}
use Rattle.decimals.proofs.Decimals.{counted_none, counted_more, counted-all, counted-few}
use Rattle.decimals.proofs.decimal_length.Goals as goal

pub loop-front-init : goal.loop-front-init
loop-front-init c = counted_none _

pub overflow_add-digits : goal.overflow_add-digits
overflow_add-digits c = omega (arith, counted-few _ _ _ c.ranges.n.fits c.loop-front.invariant)

pub loop-front-preserved : goal.loop-front-preserved
loop-front-preserved c = counted_more _ _ _ c.loop-front-test.true c.loop-front.invariant

pub returns-clause-digits : goal.returns-clause-digits
returns-clause-digits c = counted-all _ _ _ c.loop-front-test.false c.loop-front.invariant

pub returns-clause-few : goal.returns-clause-few
returns-clause-few c = counted-few _ _ _ c.ranges.n.fits c.loop-front.invariant
