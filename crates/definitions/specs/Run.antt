-- The run of a script, with what it prints, and what the program prints.
-- A line's form is judged by the line alone; a line that lacks its line feed is a bad form; `(refused R L)` follows the events already printed.
use Rattle.std.specs.Prelude.{Result, ℕ, suc, ◌+◌, cond, List, [], ◌∷◌, ◌++◌, leb, length, get_or, drop}
use Rattle.definitions.specs.Answers.{Reply, accepted, refused, Seen, shown, quiet, MoveAnswer, reply_by, test, answered, Delivery}
use Rattle.definitions.specs.Bounds.{most_script}
use Rattle.definitions.specs.Forms.{Form, line_form, first_form, first_tests, threads_first, line_tests, request_in}
use Rattle.definitions.specs.Moves.{move_reply, move_table}
use Rattle.definitions.specs.PlainLock.{Pair}
use Rattle.definitions.specs.Table.{table_of, fresh}
use Rattle.definitions.specs.Texts.{bytes, Line, lines_of, decimal}
use Rattle.definitions.specs.declared.Refused.{Refused}
use Rattle.definitions.specs.declared.Request.{Request}
use Rattle.definitions.specs.declared.Running.{Running}

-- "the name as listed above", by the event's code
unfoldable pub event_name : ℕ → List ℕ
event_name event =
    get_or
    ([]
    ∷ bytes "enter shared call"
    ∷ bytes "enter shared return"
    ∷ bytes "leave shared call"
    ∷ bytes "leave shared return"
    ∷ bytes "enter exclusive call"
    ∷ bytes "enter exclusive return"
    ∷ bytes "leave exclusive call"
    ∷ bytes "leave exclusive return"
    ∷ [])
    event
    []

-- "prints `(event T (name))` for each event as it comes"; quiet prints nothing
unfoldable pub event_line : ℕ → Seen → List ℕ
event_line thread (shown event) =
    bytes "(event " ++ (decimal thread ++ (bytes " (" ++ (event_name event ++ bytes "))\n")))
event_line thread quiet = []

-- the lines of a history
unfoldable pub event_lines : List Pair → List ℕ
event_lines [] = []
event_lines (x ∷ xs) = event_line x.thread (shown x.event) ++ event_lines xs

-- "then `(steps K)`, K being the moves made"
unfoldable pub steps_line : ℕ → List ℕ
steps_line steps = bytes "(steps " ++ (decimal steps ++ bytes ")\n")

-- "`(refused R L)`, R the number (a bad form is 8, a bad N 1), L the line from 1"
unfoldable pub refused_line : ℕ → ℕ → List ℕ
refused_line number line =
    bytes "(refused " ++ (decimal number ++ (bytes " " ++ (decimal line ++ bytes ")\n")))

-- what a line does to the run: it stops it with a refusal's number, it is a note, or it makes a move, with what this answers
pub data Turn : Type 0 where
  stops : ℕ → Turn
  passes : Turn
  makes : Request → MoveAnswer → Turn

-- a line's request, which the table accepts or refuses
abbrev pub turn_for : Request → Reply MoveAnswer → Turn
turn_for r (accepted answer) = makes r answer
turn_for r (refused number place) = stops number

-- what the line says: a refusal of its form or its numbers, no request, or one
abbrev pub turn_said : List ℕ → Reply (List Request) → Turn
turn_said table (refused number place) = stops number
turn_said table (accepted []) = passes
turn_said table (accepted (r ∷ rs)) = turn_for r (move_reply table r)

abbrev pub turn_of : List ℕ → Form → Turn
turn_of table form = turn_said table (answered (line_tests 0 (table_of table).threads form) (request_in form))

-- what is printed from a line on: `table` is the table before it, `line` its number, `steps` the moves made before it
unfoldable pub printed : List ℕ → ℕ → ℕ → List Line → List ℕ
printed table line steps [] = steps_line steps
printed table line steps (l ∷ ls) =
    elim (turn_of table (line_form l)) [
      | stops number ↦ refused_line number line
      | passes ↦ printed table (suc line) steps ls
      | makes r answer ↦ event_line r.thread answer.seen ++ printed (move_table table r) (suc line) (suc steps) ls
    ]

-- "The run starts fresh", at line 2, with the N of the first line, or it is turned down there
abbrev pub printed_for : Reply ℕ → List Line → List ℕ
printed_for (accepted n) ls = printed (fresh n) 2 0 ls
printed_for (refused number line) ls = refused_line number line

unfoldable pub printed_first : Form → List Line → List ℕ
printed_first form ls = printed_for (answered (first_tests form) (threads_first form)) ls

-- the whole output of a run
unfoldable pub run_text : List Line → List ℕ
run_text ls = printed_first (first_form ls) (drop 1 ls)

abbrev pub run_output_of : List ℕ → List ℕ
run_output_of script = run_text (lines_of script)

-- ---- the retries of a run

-- how many of the moves made from a line on were retries (02 §7)
unfoldable pub retries_from : List ℕ → List Line → ℕ
retries_from table [] = 0
retries_from table (l ∷ ls) =
    elim (turn_of table (line_form l)) [
      | stops number ↦ 0
      | passes ↦ retries_from table ls
      | makes r answer ↦ cond answer.retry 1 0 + retries_from (move_table table r) ls
    ]

abbrev pub retries_for : Reply ℕ → List Line → ℕ
retries_for (accepted n) ls = retries_from (fresh n) ls
retries_for (refused number line) ls = 0

unfoldable pub retries_first : Form → List Line → ℕ
retries_first form ls = retries_for (answered (first_tests form) (threads_first form)) ls

-- those of a whole run
unfoldable pub run_retries : List Line → ℕ
run_retries ls = retries_first (first_form ls) (drop 1 ls)

-- ---- the entry

-- what a run answers: "the number of bytes written", and "the run as a count in its answer" (02 §7), which isn't printed
pub record RunCounts : Type 0 where
  pub bytes : ℕ
  pub retries : ℕ

abbrev pub counts_of : Running → RunCounts
counts_of ran = record { bytes = ran.bytes; retries = ran.retries }

-- the reply that its result stands for
abbrev pub running_reply : Result Running Refused → Reply RunCounts
running_reply = reply_by counts_of

-- "Only a script too long (8) or a short output (12) refuses the run itself."
abbrev pub run_entry : List ℕ → Delivery RunCounts
run_entry script =
    record {
      tests = test 8 (leb (length script) most_script) ∷ [];
      text = run_output_of script;
      answer = record { bytes = length (run_output_of script); retries = run_retries (lines_of script) };
    }

-- ---- the program

-- "The program reads standard input and prints the run's output, ..; for a script too long it prints `(refused 8 0)`."
unfoldable pub program_output : List ℕ → List ℕ
program_output input = cond (leb (length input) most_script) (run_output_of input) (refused_line 8 0)
