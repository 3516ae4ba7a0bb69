-- The bits of a phase's moves are those of `has_move`: one test over all phases and moves, which antt computes.
use Prim.Native.Nat.{ℕ, suc, ◌≤◌}
use native.Mathlib.Omega.{arith}
use mathlib.Core.Bool.{Bool, true, false, beq}
use mathlib.Core.Path.{◌≡◌, refl}
use lib.Dec.{T}
use Rattle.definitions.specs.Answers.{number_of_move}
use Rattle.definitions.specs.Bounds.{last_phase, last_move}
use Rattle.definitions.specs.Phases.{rows, has_move}
use Rattle.definitions.specs.Threads.{every, among}
use Rattle.definitions.specs.declared.Move.{Move}
use Rattle.phase_moves.specs.MoveBits.{bits_below, move_bits, has_bit}
use Rattle.basics.proofs.Quantifiers.{every_at}
use Rattle.phase_moves.proofs.Moves.{number_most}

pub agrees_eq : (a b : Bool) → T (beq a b) → a ≡ b
agrees_eq true true t = refl
agrees_eq true false t = absurd t
agrees_eq false true t = absurd t
agrees_eq false false t = refl

agrees : ℕ → ℕ → Bool
agrees phase mv = beq (has_bit (move_bits phase) mv) (has_move mv phase)

all_agree : (phase mv : ℕ) → phase ≤ last_phase → mv ≤ last_move → T (agrees phase mv)
unfolding agrees every among rows bits_below
all_agree phase mv p m =
    every_at (agrees phase) (suc last_move) (every_at (λ q. every (suc last_move) (agrees q)) (suc last_phase) tt phase (omega arith)) mv (omega arith)

pub bit_is : (phase mv : ℕ) → phase ≤ last_phase → mv ≤ last_move → has_bit (move_bits phase) mv ≡ has_move mv phase
unfolding agrees
bit_is phase mv p m = agrees_eq (has_bit (move_bits phase) mv) (has_move mv phase) (all_agree phase mv p m)

-- the bit of a move
pub move_bit : (phase : ℕ) (mv : Move) → phase ≤ last_phase → has_bit (move_bits phase) (number_of_move mv) ≡ has_move (number_of_move mv) phase
move_bit phase mv p = bit_is phase (number_of_move mv) p (number_most mv)
