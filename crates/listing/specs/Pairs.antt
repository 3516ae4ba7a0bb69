-- The open moves of a thread by where it stands: each move is open with no target, with 0 alone, or with every thread.
-- That these are the pairs of `open_moves` stands in proofs/OpenList.
use Rattle.std.specs.Prelude.{ℕ, suc, Bool, cond, not, ◌&&◌, List, [], ◌∷◌}
use Rattle.definitions.specs.Bounds.{last_move}
use Rattle.definitions.specs.Moves.{must_wait}
use Rattle.definitions.specs.Phases.{has_move}
use Rattle.definitions.specs.Threads.{gather}
use Rattle.phase_moves.specs.MoveBits.{targets_of}
use Rattle.listing.specs.declared.mover.Mover.{Mover}

-- a move is open: the phase has it, and it need not wait for the mutex
abbrev pub is_open : Mover → ℕ → Bool
is_open at mv = has_move mv at.phase && not (must_wait at.phase at.mutex mv)

-- with how many targets, from 0 on
unfoldable pub open_targets : Mover → ℕ → ℕ
open_targets at mv = cond (is_open at mv) (targets_of at.threads mv) 0

-- "byte pairs, move then target": one move with the targets below n
unfoldable pub pairs : ℕ → ℕ → List ℕ
pairs mv n = gather n (λ target. mv ∷ target ∷ [])

-- "by move, then target": the pairs of the moves below n
unfoldable pub pairs_below : Mover → ℕ → List ℕ
pairs_below at n = gather n (λ mv. pairs mv (open_targets at mv))

abbrev pub open_pairs : Mover → List ℕ
open_pairs at = pairs_below at (suc last_move)
