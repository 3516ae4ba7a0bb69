use native.Mathlib.Omega.{arith}
use Rattle.spelling.proofs.LineTexts.{move-size}
use Rattle.spelling.proofs.move_length.Goals as goal

pub returns-clause-size : goal.returns-clause-size
returns-clause-size c = omega (arith, move-size c.args.thread c.args.mv c.args.target)
