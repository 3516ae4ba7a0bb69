-- The moves of a phase as bits of a number, and how many targets a move may name.
use Rattle.std.specs.Prelude.{ℕ, zero, suc, ◌+◌, ◌/◌, ◌^◌, Bool, cond, eqb}
use Rattle.std.specs.Int.Bits.{bit_and}
use Rattle.definitions.specs.Bounds.{last_move}
use Rattle.definitions.specs.Moves.{names_thread}
use Rattle.definitions.specs.Phases.{has_move}

-- a number with a bit for each number below n, 1 where the test holds of it
unfoldable pub bits_below : ℕ → (ℕ → Bool) → ℕ
bits_below zero f = 0
bits_below (suc k) f = bits_below k f + cond (f k) (2 ^ k) 0

-- a byte with a bit for each move, 1 where the phase has that move
abbrev pub move_bits : ℕ → ℕ
move_bits phase = bits_below (suc last_move) (λ mv. has_move mv phase)

-- the bit of a number in one
abbrev pub has_bit : ℕ → ℕ → Bool
has_bit bits k = eqb (bit_and (bits / 2 ^ k) 1) 1

-- how many targets, from 0 on, a move may name
abbrev pub targets_of : ℕ → ℕ → ℕ
targets_of n mv = cond (names_thread mv) n 1
