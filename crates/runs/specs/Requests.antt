-- The moves that the run of a script makes of the requests that its lines state, and how it ends.
use Rattle.std.specs.Prelude.{ℕ, zero, suc, ◌≤◌, ◌<◌, false, cond, List, [], ◌∷◌, ◌⊎◌, ◌≡◌, length, get_or, take, drop}
use Rattle.definitions.specs.Answers.{Reply, accepted, refused, answered}
use Rattle.definitions.specs.Chains.{table_after}
use Rattle.definitions.specs.Forms.{Form, threads, request, note, bad, line_form, first_form, first_tests, threads_first}
use Rattle.definitions.specs.Moves.{move_table}
use Rattle.definitions.specs.Run.{steps_line, refused_line, Turn, stops, passes, makes, turn_of}
use Rattle.definitions.specs.Scripts.{requests_in}
use Rattle.definitions.specs.Table.{count_fits, fresh}
use Rattle.definitions.specs.Texts.{Line, lines_of}
use Rattle.definitions.specs.declared.Request.{Request}

-- the moves made of them: the requests accepted, each by the table that the one before left, up to the first line turned down
unfoldable pub moves_from : List ℕ → List Line → List Request
moves_from table [] = []
moves_from table (l ∷ ls) =
    elim (turn_of table (line_form l)) [
      | stops number ↦ []
      | passes ↦ moves_from table ls
      | makes r answer ↦ r ∷ moves_from (move_table table r) ls
    ]

-- the same of a run whose first line has this form; "The run starts fresh"
abbrev pub moves_first : Form → List Line → List Request
moves_first (threads n) ls = cond (count_fits n) (moves_from (fresh n) ls) []
moves_first (request r) ls = []
moves_first note ls = []
moves_first bad ls = []

abbrev pub moves_of_lines : List Line → List Request
moves_of_lines ls = moves_first (first_form ls) (drop 1 ls)

-- the moves that the run of a script makes
abbrev pub moves_of : List ℕ → List Request
moves_of script = moves_of_lines (lines_of script)

-- ---- how a run ends, by its first line's form and the lines behind it

-- a line that is not there: a bad form
abbrev pub no_line : Line
no_line = record { text = []; ended = false }

-- the moves that the lines before line k + 1 state
abbrev pub stated_before : List Line → ℕ → List Request
stated_before ls zero = []
stated_before ls (suc k) = requests_in (take k ls)

-- what the first line does: it gives N, or it is turned down, "a bad form is 8, a bad N 1"
abbrev pub first_turn : Reply ℕ → Turn
first_turn (accepted n) = passes
first_turn (refused number line) = stops number

-- what line k + 1 does, on the table that the moves before it leave
unfoldable pub turn_at : Form → List Line → ℕ → Turn
turn_at first ls zero = first_turn (answered (first_tests first) (threads_first first))
turn_at first ls (suc k) = turn_of (table_after (fresh (threads_first first)) (stated_before ls (suc k))) (line_form (get_or ls k no_line))

-- it isn't turned down
abbrev pub GoesOn : Turn → Type 0
GoesOn (stops number) = ⊥
GoesOn passes = Unit {0}
GoesOn (makes r answer) = Unit {0}

-- no line is turned down: all moves are made that the lines state; "then `(steps K)`, K being the moves made"
pub record AllMade (first : Form) (ls : List Line) (rs : List Request) (last : List ℕ) : Type 0 where
  pub goes_on : (k : ℕ) → k ≤ length ls → GoesOn (turn_at first ls k)
  pub made : rs ≡ requests_in ls
  pub says : last ≡ steps_line (length rs)

-- "At the first line turned down it prints `(refused R L)`, R the number .., L the line from 1, and stops"; a script without a line has a bad form in line 1
pub record StoppedAt (first : Form) (ls : List Line) (rs : List Request) (last : List ℕ) : Type 0 where
  pub index : ℕ
  pub within : index ≤ length ls
  pub goes_on : (k : ℕ) → k < index → GoesOn (turn_at first ls k)
  pub number : ℕ
  pub turned : turn_at first ls index ≡ stops number
  pub made : rs ≡ stated_before ls index
  pub says : last ≡ refused_line number (suc index)

-- the moves of a run, and the last line of its output
abbrev pub Closes : Form → List Line → List Request → List ℕ → Type 0
Closes first ls rs last = AllMade first ls rs last ⊎ StoppedAt first ls rs last
