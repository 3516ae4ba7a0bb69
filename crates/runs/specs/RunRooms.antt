-- Which outputs have room for what a run prints, and how long that is.
use Rattle.std.specs.Prelude.{ℕ, ◌+◌, ◌*◌, ◌≤◌, List, length}
use Rattle.definitions.specs.Answers.{accepted, filled}
use Rattle.definitions.specs.Bounds.{most_script, enough_output}
use Rattle.definitions.specs.Run.{run_output_of, run_retries, run_entry}
use Rattle.definitions.specs.Texts.{lines_of}
use Rattle.basics.specs.Outputs.{Delivered}

pub record RunRooms : Type 0 where
  -- 65,536 bytes hold the output of any run, which is at most twice its script and 18 bytes.
  pub run_room : (script out : List ℕ) → length script ≤ most_script → enough_output ≤ length out
      → Delivered (run_entry script) out (filled out (run_output_of script)) (accepted (record { bytes = length (run_output_of script); retries = run_retries (lines_of script) }))
  pub run_length : (script : List ℕ) → length script ≤ most_script → length (run_output_of script) ≤ 2 * length script + 18
