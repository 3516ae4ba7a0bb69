-- What the first line of a script says, and the lines behind it.
use Rattle.std.specs.Prelude.{ℕ, Bool, true, false, List, ◌≡◌}
use Rattle.definitions.specs.Forms.{Form, threads, request, note, bad, first_form}
use Rattle.definitions.specs.Scripts.{move_lines}
use Rattle.definitions.specs.Texts.{Line, lines_of}

abbrev pub says_threads : Form → Bool
says_threads (threads n) = true
says_threads (request r) = false
says_threads note = false
says_threads bad = false

-- it says a number of threads, and the other lines are these
pub record ThreadsFirst (script : List ℕ) (count : ℕ) (rest : List Line) : Type 0 where
  pub says : first_form (lines_of script) ≡ threads count
  pub behind : move_lines script ≡ rest

-- it doesn't
pub record NoThreads (script : List ℕ) : Type 0 where
  pub says : says_threads (first_form (lines_of script)) ≡ false
