-- What the lines behind the first are run from, and the history that they leave: its lines, with the last one, are the whole output; and the retries that are counted.
use Rattle.std.specs.Prelude.{ℕ, cond, ◌+◌, ◌*◌, ◌≤◌, ◌<◌, List, [], ◌∷◌, ◌≡◌, length, take}
use Rattle.definitions.specs.Bounds.{most_script}
use Rattle.definitions.specs.Run.{printed, retries_from}
use Rattle.definitions.specs.Texts.{Line}
use Rattle.basics.specs.ShortestLines.{shortest_move}
use Rattle.apply.specs.MoveMade.{TestedTable}
use Rattle.printing.specs.Output.{output_of}
use Rattle.running.specs.declared.Ran.{Ran}
use Rattle.text.specs.declared.Output.{Output}

-- the bytes of lines, their line feeds among them
abbrev pub lines_size : List Line → ℕ
lines_size [] = 0
lines_size (l ∷ ls) = length l.text + cond l.ended 1 0 + lines_size ls

-- the lines aren't too many, and the history has room for a pair for every line of a move
pub record Roomy (ls : List Line) (history : List ℕ) : Type 0 where
  pub few : length ls ≤ most_script
  pub pairs : 2 * lines_size ls < shortest_move * (length history + 1)

-- what the lines behind the first are run from: a tested table, no forbidden of which is 1
pub record Begun (ls : List Line) (table history : List ℕ) : Type 0 where
  pub room : Roomy ls history
  pub tested : TestedTable table 0

-- the history stands at the front, the output is its lines and the last one, and the retries were counted
pub record Recorded (output : List ℕ) (retries : ℕ) (history : List ℕ) (ran : Ran) : Type 0 where
  pub fits : ran.shown ≤ length history
  pub prints : output ≡ output_of (take ran.shown history) ran.ending
  pub counts : retries ≡ ran.retries

-- by the lines behind the first on a table
abbrev pub RecordedLines : List ℕ → List Line → List ℕ → Ran → Type 0
RecordedLines table ls = Recorded (printed table 2 0 ls) (retries_from table ls)

-- and in the bytes of an output, which are the same at the end
pub record RecordedIn (table : List ℕ) (ls : List Line) (before after : Output) (ran : Ran) : Type 0 where
  pub same_bytes : after.bytes.ghost_name ≡ before.bytes.ghost_name
  pub recorded : RecordedLines table ls after.bytes.now ran
