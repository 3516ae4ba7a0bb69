-- the entries before the present one are 0
use Rattle.std.proofs.Common.{◌≡◌}
use Rattle.consistency.specs.Pass.{all_zero}
use Rattle.consistency.proofs.is_empty.Given as goal

abbrev pub invariant-loop-place : goal.invariant-loop-place
invariant-loop-place l = l.empty ≡ all_zero l.places l.place-index
