-- The requests of the turns passed are put.
use Rattle.std.proofs.Common.{[], ◌∷◌}
use Rattle.definitions.specs.Codes.{go, set_move}
use Rattle.definitions.specs.Moves.{ask}
use Rattle.text.proofs.Cursors.{PartsPut}
use Rattle.repeats.proofs.RequestBytes.{request_parts}
use Rattle.repeats.proofs.set_each.Given as goal

abbrev pub invariant-loop-t : goal.invariant-loop-t
invariant-loop-t l = PartsPut (request_parts l.threads (λ t. ask l.thread set_move t ∷ ask l.thread go 0 ∷ [])) l.fn.out l.t l.out
