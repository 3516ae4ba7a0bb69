use native.Mathlib.Omega.{arith}
use Rattle.spelling.proofs.LineTexts.{threads-size}
use Rattle.spelling.proofs.threads_length.Goals as goal

pub returns-clause-size : goal.returns-clause-size
returns-clause-size c = omega (arith, threads-size c.args.threads)
