-- The digits behind those of `high` stand at `place`. The measure is `high`.
use Prim.Native.Nat.{◌+◌}
use mathlib.Core.Path.{◌≡◌}
use lib.ListN.{length}
use Rattle.definitions.specs.Texts.{decimal}
use Rattle.text.proofs.Digits.{DigitsPut}
use Rattle.text.proofs.Output.put_decimal.Given as goal

abbrev pub invariant-loop-high : goal.invariant-loop-high
invariant-loop-high l = (l.end ≡ l.fn.self.at + length (decimal l.n)) × DigitsPut l.fn.self l.n l.high l.place l.self

abbrev pub decreases-loop-high : goal.decreases-loop-high
decreases-loop-high l = l.high
