-- What a run prints: the events of the moves that it made, then how it ended; and the number of its retries.
use Rattle.std.specs.Prelude.{ℕ, ◌*◌, ◌≤◌, List, ◌++◌, ◌≡◌, T, length}
use Rattle.definitions.specs.Chains.{history, retries, accepts_all}
use Rattle.definitions.specs.Forms.{first_form}
use Rattle.definitions.specs.Run.{event_lines, steps_line, run_output_of, run_retries}
use Rattle.definitions.specs.Scripts.{requests_in, threads_of, move_lines}
use Rattle.definitions.specs.Table.{fresh}
use Rattle.definitions.specs.Texts.{lines_of}
use Rattle.runs.specs.Requests.{Closes, moves_of}

pub record PrintedRun : Type 0 where
  -- The events that a run prints are the history of the moves that it made, all of them accepted.
  -- One last line follows them. Where no line is turned down it is `(steps K)`, K being the moves, and they are all that the script states; else it is `(refused R L)`,
  -- L the first line that is turned down and R why, on the table that the moves of the lines before it left.
  pub run-accepted : (script : List ℕ) → T (accepts_all (fresh (threads_of script)) (moves_of script))
  pub run-prints : (script : List ℕ) → (last : List ℕ)
      × (run_output_of script ≡ event_lines (history (fresh (threads_of script)) (moves_of script)) ++ last)
      × Closes (first_form (lines_of script)) (move_lines script) (moves_of script) last
  pub run_steps : (script before : List ℕ) (k : ℕ) → run_output_of script ≡ before ++ steps_line k
      → (k ≡ length (moves_of script)) × (moves_of script ≡ requests_in (move_lines script))
  -- The retries that it answers are those among these moves, by what each of them answers; a move takes nine bytes of the script.
  pub run-retries : (script : List ℕ) → run_retries (lines_of script) ≡ retries (fresh (threads_of script)) (moves_of script)
  pub retries-few : (script : List ℕ) → 9 * run_retries (lines_of script) ≤ length script
