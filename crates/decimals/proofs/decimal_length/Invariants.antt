-- The digits behind those of `front` are counted. The measure is `front`.
use Rattle.decimals.proofs.Decimals.{DigitsCounted}
use Rattle.decimals.proofs.decimal_length.Given as goal

abbrev pub invariant-loop-front : goal.invariant-loop-front
invariant-loop-front l = DigitsCounted l.n l.digits l.front

abbrev pub decreases-loop-front : goal.decreases-loop-front
decreases-loop-front l = l.front
