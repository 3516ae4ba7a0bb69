-- what is found of the threads before the present one
use Rattle.std.proofs.Common.{◌≡◌}
use Rattle.consistency.specs.Pass.{found_in}
use Rattle.consistency.proofs.find.Given as goal

abbrev pub invariant-loop-place : goal.invariant-loop-place
invariant-loop-place l = l.found ≡ found_in l.places l.place-index
