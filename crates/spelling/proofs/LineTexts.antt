-- The texts of a script's lines, part by part, and their lengths.
use Prim.Native.Nat.{ℕ, ◌+◌, ◌≤◌}
use native.Mathlib.Omega.{arith}
use mathlib.Core.List.{List, [], ◌∷◌, ◌++◌, append_assoc}
use mathlib.Core.Path.{◌≡◌, ap, ◌∙◌}
use lib.ListN.{length, length-append}
use Rattle.definitions.specs.Bounds.{last_move}
use Rattle.definitions.specs.Forms.{threads_line, spelled, act_text}
use Rattle.definitions.specs.Moves.{ask}
use Rattle.definitions.specs.Scripts.{ended}
use Rattle.definitions.specs.Texts.{bytes, decimal}
use Rattle.basics.specs.ShortestLines.{shortest_move}
use Rattle.acts.proofs.ActTexts.{act_least}
use Rattle.basics.proofs.Numbers.{decimal-some}

-- the threads line
pub threads-text : (n : ℕ) → ended (threads_line n) ≡ bytes "(threads " ++ (decimal n ++ bytes ")\n")
unfolding bytes
threads-text n = ap (λ (xs : List ℕ). bytes "(threads " ++ xs) (append_assoc (decimal n) (bytes ")") (10 ∷ []))

pub threads-size : (n : ℕ) → length (ended (threads_line n)) ≡ 11 + length (decimal n)
unfolding bytes
threads-size n = ap length (threads-text n) ∙ simp length-append (omega arith)

-- a move's line
pub move-text : (thread mv target : ℕ) → ended (spelled (ask thread mv target)) ≡ bytes "(" ++ (decimal thread ++ (act_text mv target ++ bytes "\n"))
unfolding bytes
move-text thread mv target = ap (λ (xs : List ℕ). bytes "(" ++ xs) (append_assoc (decimal thread) (act_text mv target) (10 ∷ []))

pub move-size : (thread mv target : ℕ) → length (ended (spelled (ask thread mv target))) ≡ 2 + length (decimal thread) + length (act_text mv target)
unfolding bytes
move-size thread mv target = ap length (move-text thread mv target) ∙ simp length-append (omega arith)

-- ---- the shortest line

-- `(0 (go))` with its line feed
pub move-least : (thread mv target : ℕ) → mv ≤ last_move → shortest_move ≤ length (ended (spelled (ask thread mv target)))
move-least thread mv target h = omega (arith, move-size thread mv target, decimal-some thread, act_least mv target h)
