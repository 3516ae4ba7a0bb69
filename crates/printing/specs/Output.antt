-- The output of a run: the lines of the history that it showed, then its last line.
use Rattle.std.specs.Prelude.{ℕ, ◌≤◌, List, ◌++◌, Result, length}
use Rattle.definitions.specs.Bounds.{enough_output}
use Rattle.definitions.specs.PlainLock.{pairs_of}
use Rattle.definitions.specs.Run.{event_lines}
use Rattle.definitions.specs.declared.Refused.{Refused}
use Rattle.endings.specs.LastLine.{ending_line}

-- "prints `(event T (name))` for each event as it comes", then the last line
abbrev pub output_of : List ℕ → Result ℕ Refused → List ℕ
output_of history ending = event_lines (pairs_of history) ++ ending_line ending

-- what the printing of an output asks: it isn't longer than the longest of a run
pub record Measurable (history : List ℕ) (ending : Result ℕ Refused) : Type 0 where
  pub short : length (output_of history ending) ≤ enough_output
