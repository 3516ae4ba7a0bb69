-- The requests of the turns passed are put.
use Rattle.std.proofs.Common.{[], ◌∷◌}
use Rattle.definitions.specs.Codes.{clear_move}
use Rattle.definitions.specs.Moves.{ask}
use Rattle.text.proofs.Cursors.{PartsPut}
use Rattle.repeats.proofs.RequestBytes.{request_parts}
use Rattle.repeats.proofs.clear_each.Given as goal

abbrev pub invariant-loop-t : goal.invariant-loop-t
invariant-loop-t l = PartsPut (request_parts l.threads (λ t. ask l.thread clear_move t ∷ [])) l.fn.out l.t l.out
