-- The lines of a list of moves have a line for each move. And a list of too many moves has a script that is too long.
use Prim.Native.Nat.{ℕ, suc, ◌+◌, ◌*◌, ◌≤◌}
use native.Mathlib.Omega.{arith}
use mathlib.Core.List.{List, [], ◌∷◌}
use mathlib.Core.Path.{◌≡◌, refl}
use lib.Dec.{T}
use lib.ListN.{length, length-append}
use Rattle.definitions.specs.Answers.{passes_all}
use Rattle.definitions.specs.Forms.{threads_line, spelled}
use Rattle.definitions.specs.Moves.{number_tests}
use Rattle.definitions.specs.Scripts.{ended, moves_text, script_of, triples_tests}
use Rattle.definitions.specs.declared.Request.{Request}
use Rattle.basics.specs.ShortestLines.{shortest_move}
use Rattle.basics.proofs.TestLists.{passes-split}
use Rattle.spelling.proofs.LineTexts.{move-least}
use Rattle.theory.proofs.RequestNumbers.{numbers_e}
use Rattle.text.proofs.Items.{ByItems}

pub by_moves : ByItems (λ (r : Request). ended (spelled r)) moves_text
unfolding moves_text
by_moves = record { none = refl; more = λ r rs. refl }

-- the script's length, by that of its first line
pub script_size : (n : ℕ) (rs : List Request) → length (script_of n rs) ≡ length (ended (threads_line n)) + length (moves_text rs)
unfolding script_of
script_size n rs = length-append (ended (threads_line n)) (moves_text rs)

-- ---- too many moves

-- every move that can be spelled takes as many bytes as the shortest line of a move
moves_long : (k n : ℕ) (rs : List Request) → T (passes_all (triples_tests k n rs)) → shortest_move * length rs ≤ length (moves_text rs)
unfolding triples_tests moves_text
moves_long k n [] p = omega arith
moves_long k n (r ∷ rs) p =
    let q = passes-split (number_tests k n r) (triples_tests (suc k) n rs) p in
    let rest = moves_long (suc k) n rs q.1 in
    omega (arith, move-least r.thread r.mv r.target (numbers_e k n r q.0).move-fits, length-append (ended (spelled r)) (moves_text rs))

pub script_long : (n : ℕ) (rs : List Request) → T (passes_all (triples_tests 0 n rs)) → shortest_move * length rs ≤ length (script_of n rs)
script_long n rs p = omega (arith, moves_long 0 n rs p, script_size n rs)
