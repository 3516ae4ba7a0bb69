-- The lines of a history in bytes: those of a pair behind it come behind its own.
use Prim.Native.Nat.{ℕ, ◌%◌}
use native.Mathlib.Omega.{arith}
use mathlib.Core.List.{List, [], ◌∷◌, ◌++◌, append_assoc, append-nil}
use mathlib.Core.Path.{◌≡◌, refl, sym, ap, ◌∙◌}
use lib.ListN.{length}
use Rattle.definitions.specs.Answers.{Seen, shown, quiet}
use Rattle.definitions.specs.PlainLock.{pairs_of}
use Rattle.definitions.specs.Run.{event_line, event_lines}
use Rattle.turns.specs.Steps.{pair_bytes}

-- the lines of a history
abbrev pub lines_in : List ℕ → List ℕ
lines_in bytes = event_lines (pairs_of bytes)

-- whole pairs before others
pub lines_append : (xs ys : List ℕ) → length xs % 2 ≡ 0 → lines_in (xs ++ ys) ≡ lines_in xs ++ lines_in ys
unfolding pairs_of event_lines
lines_append [] ys h = refl
lines_append (t ∷ []) ys h = absurd (omega arith)
lines_append (t ∷ e ∷ xs) ys h =
    ap (λ (l : List ℕ). event_line t (shown e) ++ l) (lines_append xs ys (omega arith))
    ∙ sym (append_assoc (event_line t (shown e)) (lines_in xs) (lines_in ys))

-- the line of what is seen of a move
pub pair_line : (thread : ℕ) (seen : Seen) → lines_in (pair_bytes thread seen) ≡ event_line thread seen
unfolding pairs_of event_lines event_line
pair_line thread (shown event) = append-nil (event_line thread (shown event))
pair_line thread quiet = refl
