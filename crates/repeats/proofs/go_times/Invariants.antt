-- The requests of the turns passed are put.
use Rattle.std.proofs.Common.{[], ◌∷◌}
use Rattle.definitions.specs.Codes.{go}
use Rattle.definitions.specs.Moves.{ask}
use Rattle.text.proofs.Cursors.{PartsPut}
use Rattle.repeats.proofs.RequestBytes.{request_parts}
use Rattle.repeats.proofs.go_times.Given as goal

abbrev pub invariant-loop : goal.invariant-loop
invariant-loop l = PartsPut (request_parts l.count (λ t. ask l.thread go 0 ∷ [])) l.fn.out l.counter l.out
