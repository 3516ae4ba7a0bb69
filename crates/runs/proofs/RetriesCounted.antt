-- "the run as a count in its answer" (02 §7): the count of a run is the number of retries among the moves that it made, by their answers (`retries-counted`).
-- A move takes nine bytes of the script, so that the count is at most a ninth of its bytes (`retries-few`).
use Prim.Native.Nat.{ℕ, ◌+◌, ◌*◌, ◌≤◌}
use native.Mathlib.Omega.{arith}
use mathlib.Core.Bool.{Bool, true, false, cond}
use mathlib.Core.List.{List, [], ◌∷◌}
use mathlib.Core.Path.{◌≡◌, refl, ap}
use lib.ListN.{length, drop}
use Rattle.definitions.specs.Answers.{Reply, accepted, refused, answered}
use Rattle.definitions.specs.Chains.{retry_for, retries_in, retries}
use Rattle.definitions.specs.Forms.{Form, threads, request, note, bad, line_form, first_form, threads_first}
use Rattle.definitions.specs.Moves.{move_reply, move_table}
use Rattle.definitions.specs.Run.{Turn, stops, passes, makes, turn_of, retries_from, retries_for, retries_first, run_retries}
use Rattle.definitions.specs.Scripts.{threads_of}
use Rattle.definitions.specs.Table.{count_fits, fresh}
use Rattle.definitions.specs.Texts.{Line, lines_of}
use Rattle.runs.specs.Requests.{moves_from, moves_first, moves_of}
use Rattle.basics.specs.ShortestLines.{shortest_move}
use Rattle.basics.proofs.Numbers.{decimal-some}
use Rattle.basics.proofs.Tests.{one_most}
use Rattle.runs.proofs.Lines.{line_size, size_of, behind-size, lines-size, Does, line_does}

-- ---- the lines behind the first

from-lines : (table : List ℕ) (ls : List Line) → retries_from table ls ≡ retries table (moves_from table ls)
unfolding retries_from moves_from retries_in
from-lines table [] = refl
from-lines table (l ∷ ls) = by (turn_of table (line_form l)) (line_does table l) (from-lines table ls) (λ after. from-lines after ls)
  where
    by : (u : Turn) → Does table (line_size l) u
        → retries_from table ls ≡ retries table (moves_from table ls)
        → ((after : List ℕ) → retries_from after ls ≡ retries after (moves_from after ls))
        → elim u [
          | stops number ↦ 0
          | passes ↦ retries_from table ls
          | makes r answer ↦ cond answer.retry 1 0 + retries_from (move_table table r) ls
        ] ≡ retries table
        (elim u [
          | stops number ↦ []
          | passes ↦ moves_from table ls
          | makes r answer ↦ r ∷ moves_from (move_table table r) ls
        ])
    by (stops number) d same next = refl
    by passes d same next = same
    by (makes r answer) d same next =
        let here : ◌≡◌ {A = ℕ} (retry_for (move_reply table r)) (cond answer.retry 1 0) = ap retry_for d.0 in
        let rest = next (move_table table r) in
        omega arith

few-lines : (table : List ℕ) (ls : List Line) → shortest_move * retries_from table ls ≤ size_of ls
unfolding retries_from
few-lines table [] = omega arith
few-lines table (l ∷ ls) = by (turn_of table (line_form l)) (line_does table l) (few-lines table ls) (λ after. few-lines after ls)
  where
    by : (u : Turn) → Does table (line_size l) u → shortest_move * retries_from table ls ≤ size_of ls → ((after : List ℕ) → shortest_move * retries_from after ls ≤ size_of ls)
        → shortest_move * elim u [
          | stops number ↦ 0
          | passes ↦ retries_from table ls
          | makes r answer ↦ cond answer.retry 1 0 + retries_from (move_table table r) ls
        ] ≤ line_size l + size_of ls
    by (stops number) d same next = omega arith
    by passes d same next = omega arith
    by (makes r answer) d same next =
        let long = d.1.plain in
        let rest = next (move_table table r) in
        let here = one_most answer.retry in
        omega (arith, decimal-some r.thread)

-- ---- the whole run

-- a run of n threads over the lines behind the first
first_lines : (f : Form) (ls : List Line) → (retries_first f ls ≡ retries (fresh (threads_first f)) (moves_first f ls)) × (shortest_move * retries_first f ls ≤ size_of ls)
unfolding retries_first answered retries_in
first_lines (threads n) ls = by (count_fits n)
  where
    by : (b : Bool) → let x : Reply ℕ = cond b (accepted n) (refused 1 1) in
        (retries_for x ls ≡ retries (fresh n) (cond b (moves_from (fresh n) ls) [])) × (shortest_move * retries_for x ls ≤ size_of ls)
    by true = (from-lines (fresh n) ls, few-lines (fresh n) ls)
    by false = (refl, omega arith)
first_lines (request r) ls = (refl, omega arith)
first_lines note ls = (refl, omega arith)
first_lines bad ls = (refl, omega arith)

-- the count is the number of retries among the moves made
pub retries-counted : (script : List ℕ) → run_retries (lines_of script) ≡ retries (fresh (threads_of script)) (moves_of script)
unfolding run_retries
retries-counted script = let ls = lines_of script in (first_lines (first_form ls) (drop 1 ls)).0

pub retries-few : (script : List ℕ) → 9 * run_retries (lines_of script) ≤ length script
unfolding run_retries
retries-few script = let ls = lines_of script in omega (arith, (first_lines (first_form ls) (drop 1 ls)).1, behind-size ls, lines-size script)
