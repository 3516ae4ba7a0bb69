-- The history that a run leaves, and the retries that it counts, from its first line on.
use Rattle.std.specs.Prelude.{ℕ, List}
use Rattle.definitions.specs.Forms.{Form}
use Rattle.definitions.specs.Run.{printed_first, run_output_of, retries_first, run_retries}
use Rattle.definitions.specs.Texts.{Line, lines_of}
use Rattle.running.specs.Records.{Recorded}
use Rattle.running.specs.declared.Ran.{Ran}

-- by the form of the first line and the lines behind it, and by the whole script
abbrev pub RecordedFirst : Form → List Line → List ℕ → Ran → Type 0
RecordedFirst form ls = Recorded (printed_first form ls) (retries_first form ls)

abbrev pub RecordedRun : List ℕ → List ℕ → Ran → Type 0
RecordedRun script = Recorded (run_output_of script) (run_retries (lines_of script))
