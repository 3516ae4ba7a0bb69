-- What a line's turn does to a run: whether the run goes on, what it adds to the history, the table after it, the moves made, and the retries among them.
use Rattle.std.specs.Prelude.{ℕ, Result, MatchResult, Bool, true, false, cond, List, [], ◌∷◌, ◌≡◌}
use Rattle.definitions.specs.Answers.{Seen, shown, quiet, number_of}
use Rattle.definitions.specs.Moves.{move_table}
use Rattle.definitions.specs.Run.{Turn, stops, passes, makes}
use Rattle.definitions.specs.Table.{table_of}
use Rattle.definitions.specs.declared.Refusal.{Refusal}
use Rattle.text.specs.Cursors.{Puts}
use Rattle.text.specs.declared.Output.{Output}
use Rattle.theory.specs.Tables.{forbidden_count}
use Rattle.turns.specs.declared.Passed.{Passed}

-- the run goes on behind the line
abbrev pub passes_on : Turn → Bool
passes_on (stops number) = false
passes_on passes = true
passes_on (makes r answer) = true

-- "What the list shows is a history: for each answer that is a shown event, in order, the request's thread and the event's code"
abbrev pub pair_bytes : ℕ → Seen → List ℕ
pair_bytes thread (shown event) = thread ∷ event ∷ []
pair_bytes thread quiet = []

-- the bytes that the line adds to the history
abbrev pub added : Turn → List ℕ
added (stops number) = []
added passes = []
added (makes r answer) = pair_bytes r.thread answer.seen

-- the table behind the line
abbrev pub table_behind : List ℕ → Turn → List ℕ
table_behind table (stops number) = table
table_behind table passes = table
table_behind table (makes r answer) = move_table table r

-- "K being the moves made"
abbrev pub moves_made : Turn → ℕ
moves_made (stops number) = 0
moves_made passes = 0
moves_made (makes r answer) = 1

-- how many of these were retries (02 §7)
abbrev pub retries_made : Turn → ℕ
retries_made (stops number) = 0
retries_made passes = 0
retries_made (makes r answer) = cond answer.retry 1 0

-- a line that lets the run go on: the table and the history behind it, the moves made and the retries among them, and how many forbidden are 1
pub record PassedOn (turn : Turn) (table : List ℕ) (history : Output) (table' : List ℕ) (history' : Output) (p : Passed) : Type 0 where
  pub passed : passes_on turn ≡ true
  pub bytes : table' ≡ table_behind table turn
  pub put : Puts history (added turn) history'
  pub made : p.moves ≡ moves_made turn
  pub retried : p.retries ≡ retries_made turn
  pub count : p.forbidden ≡ forbidden_count (table_of table')

-- a line that stops it
pub record StoppedBy (turn : Turn) (history history' : Output) (number : ℕ) : Type 0 where
  pub stopped : turn ≡ stops number
  pub kept : history' ≡ history

abbrev pub Stepped : Turn → List ℕ → Output → List ℕ → Output → Result Passed Refusal → Type 0
Stepped turn table history table' history' r =
    MatchResult r (λ p. PassedOn turn table history table' history' p) (λ x. StoppedBy turn history history' (number_of x))
