-- The pairs of a move, and those of all moves: texts in parts, their lengths, and how many targets there are at most. For every number of targets.
use Prim.Native.Nat.{ℕ, suc, ◌*◌, ◌≤◌}
use native.Mathlib.Omega.{arith}
use mathlib.Core.Bool.{Bool, true, false, cond}
use mathlib.Core.List.{[], ◌∷◌}
use mathlib.Core.Path.{◌≡◌, refl, ap, ◌∙◌}
use lib.ListN.{length, get_or}
use Rattle.definitions.specs.Answers.{number_of_move}
use Rattle.definitions.specs.Bounds.{most_threads, last_move}
use Rattle.definitions.specs.Moves.{names_thread}
use Rattle.definitions.specs.declared.Move.TheVariants.{Go}
use Rattle.listing.specs.Pairs.{is_open, open_targets, pairs}
use Rattle.listing.specs.declared.mover.Mover.{Mover}
use Rattle.basics.proofs.Gathering.{gather-length}
use Rattle.basics.proofs.Parts.{Parts, gathered}
use Rattle.phase_moves.proofs.Moves.{all_moves, number_at}

-- the pairs of one move: a pair for each target
abbrev pub pair_parts : ℕ → ℕ → Parts
pair_parts mv n = gathered n (λ target. mv ∷ target ∷ [])

pub pairs-length : (mv n : ℕ) → length (pairs mv n) ≡ 2 * n
unfolding pairs
pairs-length mv n = gather-length (λ t. mv ∷ t ∷ []) 2 n (λ t. refl)

-- the pairs of all moves: those of each move
abbrev pub open_parts : Mover → Parts
open_parts at = gathered (suc last_move) (λ mv. pairs mv (open_targets at mv))

-- how many targets the move at index i has, told by its number
pub targets_at : (at : Mover) (i : ℕ) {n : ℕ} → i ≤ last_move → n ≡ open_targets at (number_of_move (get_or all_moves i Go)) → n ≡ open_targets at i
targets_at at i l e = e ∙ ap (open_targets at) (number_at i Go l)

pub targets_most : (at : Mover) (mv : ℕ) → open_targets at mv ≤ most_threads
unfolding open_targets
targets_most at mv = by (is_open at mv) (names_thread mv)
  where
    by : (is names : Bool) → cond is (cond names at.threads 1) 0 ≤ most_threads
    by true true = at.few
    by true false = omega arith
    by false names = omega arith
