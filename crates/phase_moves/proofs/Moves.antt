-- The moves in the order of their numbers.
use Prim.Native.Nat.{ℕ, zero, suc, ◌≤◌}
use native.Mathlib.Omega.{arith}
use mathlib.Core.List.{List, [], ◌∷◌}
use mathlib.Core.Path.{◌≡◌, refl}
use Rattle.std.specs.Prelude.{get_or}
use Rattle.definitions.specs.Answers.{number_of_move}
use Rattle.definitions.specs.Bounds.{last_move}
use Rattle.definitions.specs.declared.Move.{Move}
use Rattle.definitions.specs.declared.Move.TheVariants.{Go, CallShared, CallExclusive, Set, Clear, Relent, Hold}

-- every move has a number up to the last
pub number_most : (mv : Move) → number_of_move mv ≤ last_move
number_most Go = omega arith
number_most CallShared = omega arith
number_most CallExclusive = omega arith
number_most Set = omega arith
number_most Clear = omega arith
number_most Relent = omega arith
number_most Hold = omega arith

-- `Move::ALL`
abbrev pub all_moves : List Move
all_moves = Go ∷ CallShared ∷ CallExclusive ∷ Set ∷ Clear ∷ Relent ∷ Hold ∷ []

-- a move stands there at its number
pub number_at : (i : ℕ) (none : Move) → i ≤ last_move → number_of_move (get_or all_moves i none) ≡ i
number_at zero none l = refl
number_at (suc zero) none l = refl
number_at (suc (suc zero)) none l = refl
number_at (suc (suc (suc zero))) none l = refl
number_at (suc (suc (suc (suc zero)))) none l = refl
number_at (suc (suc (suc (suc (suc zero))))) none l = refl
number_at (suc (suc (suc (suc (suc (suc zero)))))) none l = refl
number_at (suc (suc (suc (suc (suc (suc (suc i))))))) none l = absurd (omega arith)
