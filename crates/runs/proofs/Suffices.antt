-- "the run's output, for which 65,536 bytes always suffice": for every script that isn't too long, so a run that is lent as many is not refused.
-- Shown: the output is at most twice the script and the bytes of the last line (`longest_output`).
use Prim.Native.Nat.{ℕ, suc, ◌+◌, ◌*◌, ◌≤◌, ◌<◌}
use native.Mathlib.Omega.{arith}
use mathlib.Core.List.{List, [], ◌∷◌, ◌++◌}
use mathlib.Core.Path.{sym, subst}
use lib.Dec.{le→leb}
use lib.ListN.{length, drop, length-append, length-drop}
use Rattle.definitions.specs.Answers.{accepted, answered, filled}
use Rattle.definitions.specs.Bounds.{most_script, enough_output}
use Rattle.definitions.specs.Forms.{line_form, first_form, Form, threads, request, note, bad}
use Rattle.definitions.specs.Moves.{move_table}
use Rattle.definitions.specs.Run.{event_line, steps_line, refused_line, Turn, stops, passes, makes, turn_of, printed, printed_first, run_text, run_output_of, run_retries, run_entry}
use Rattle.definitions.specs.Table.{table_of, count_fits, fresh}
use Rattle.definitions.specs.Texts.{bytes, Line, lines_of}
use Rattle.basics.specs.Outputs.{Delivered}
use Rattle.runs.specs.Length.{longest_output}
use Rattle.basics.proofs.Numbers.{tens, decimal-short}
use Rattle.basics.proofs.Outputs.{whole}
use Rattle.basics.proofs.Replies.{pass, no_test}
use Rattle.basics.proofs.Tests.{cond_either}
use Rattle.theory.proofs.LineTurns.{first_printed}
use Rattle.runs.proofs.Lines.{line_size, size_of, behind-size, lines-size, lines-count, Does, line_does}
use Rattle.runs.proofs.Potential.{potential, fresh_potential, move_cost}

-- ---- the last line

steps_short : (steps : ℕ) → steps < tens 5 → length (steps_line steps) ≤ 18
unfolding steps_line bytes
steps_short steps h = let d = decimal-short steps 5 (omega arith) h in simp length-append (omega arith)

refused-short : (number line : ℕ) → number ≤ 9 → line < tens 5 → length (refused_line number line) ≤ 18
unfolding refused_line bytes
refused-short number line k h =
    let c = decimal-short number 1 (omega arith) (omega arith) in
    let d = decimal-short line 5 (omega arith) h in
    simp length-append (omega arith)

-- ---- the lines behind the first

bound : (table : List ℕ) (line steps : ℕ) (ls : List Line) → steps ≤ line → line + length ls < tens 5
    → length (printed table line steps ls) ≤ 2 * size_of ls + potential (table_of table) + 18
unfolding printed
bound table line steps [] below few = let last = steps_short steps (omega arith) in omega arith
bound table line steps (l ∷ ls) below few =
    by (turn_of table (line_form l)) (line_does table l)
    (bound table (suc line) steps ls (omega arith) (omega arith))
    (λ after. bound after (suc line) (suc steps) ls (omega arith) (omega arith))
  where
    by : (u : Turn) → Does table (line_size l) u
        → length (printed table (suc line) steps ls) ≤ 2 * size_of ls + potential (table_of table) + 18
        → ((after : List ℕ) → length (printed after (suc line) (suc steps) ls) ≤ 2 * size_of ls + potential (table_of after) + 18)
        → length {A = ℕ} (elim u [
          | stops number ↦ refused_line number line
          | passes ↦ printed table (suc line) steps ls
          | makes r answer ↦ event_line r.thread answer.seen ++ printed (move_table table r) (suc line) (suc steps) ls
        ]) ≤ 2 * (line_size l + size_of ls) + potential (table_of table) + 18
    by (stops number) d same next = let last = refused-short number line d (omega arith) in omega arith
    by passes d same next = omega arith
    by (makes r answer) d same next =
        let here = move_cost table r answer (line_size l) d.0 d.1 in
        let rest = next (move_table table r) in
        simp length-append (omega arith)

-- ---- the whole output

first_bound : (f : Form) (ls : List Line) → 2 + length ls < tens 5 → length (printed_first f ls) ≤ 2 * size_of ls + 18
unfolding printed_first answered
first_bound (threads n) ls few =
    let short : List ℕ → Type 0 = λ xs. length xs ≤ 2 * size_of ls + 18 in
    subst short (sym (first_printed n ls))
    (cond_either short (count_fits n) (printed (fresh n) 2 0 ls) (refused_line 1 1)
    (λ t. let rest = bound (fresh n) 2 0 ls (omega arith) few in let none = fresh_potential n in omega arith)
    (λ t. let last = refused-short 1 1 (omega arith) (omega arith) in omega arith))
first_bound (request r) ls few = let last = refused-short 8 1 (omega arith) (omega arith) in omega arith
first_bound note ls few = let last = refused-short 8 1 (omega arith) (omega arith) in omega arith
first_bound bad ls few = let last = refused-short 8 1 (omega arith) (omega arith) in omega arith

text_bound : (ls : List Line) → 2 + length ls < tens 5 → length (run_text ls) ≤ 2 * size_of ls + 18
unfolding run_text
text_bound ls few =
    let rest = first_bound (first_form ls) (drop 1 ls) (omega (arith, length-drop 1 ls)) in
    let size = behind-size ls in
    omega arith

-- the output of a run is at most twice its script and one short line
pub run_bound : (script : List ℕ) → length script ≤ most_script → length (run_output_of script) ≤ longest_output (length script)
run_bound script fits =
    let count = lines-count script in
    let size = lines-size script in
    let text = text_bound (lines_of script) (omega arith) in
    omega arith

-- "for which 65,536 bytes always suffice"
pub suffices : (script : List ℕ) → length script ≤ most_script → length (run_output_of script) ≤ enough_output
suffices script fits = let b = run_bound script fits in omega arith

-- with as many bytes lent, a script that isn't too long is not turned down, and its output is written whole
pub never_refused : (script out : List ℕ) → length script ≤ most_script → enough_output ≤ length out
    → Delivered (run_entry script) out (filled out (run_output_of script)) (accepted (record { bytes = length (run_output_of script); retries = run_retries (lines_of script) }))
never_refused script out fits room =
    whole (run_entry script) out (pass _ _ (le→leb (length script) most_script fits) no_test) (let short = suffices script fits in omega arith)
