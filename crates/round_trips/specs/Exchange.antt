-- The words of the theorems on scripts written out and read: lists that can be written, scripts that can be read, a script without its notes,
-- what reading refuses, and where a run stops whose refusals 6 and 7 are set aside.
use Rattle.std.specs.Prelude.{ℕ, suc, ◌*◌, ◌-◌, ◌/◌, ◌≤◌, ◌<◌, Bool, true, false, cond, ◌||◌, List, [], ◌∷◌, ◌++◌, ◌⊎◌, ◌≡◌, T, eqb, length, drop}
use Rattle.definitions.specs.Answers.{Reply, accepted, refused, Test, passes_all, answered}
use Rattle.definitions.specs.Bounds.{most_script}
use Rattle.definitions.specs.Forms.{Form, threads, request, note, bad, line_form, first_form, first_tests, threads_first}
use Rattle.definitions.specs.Moves.{move_table}
use Rattle.definitions.specs.Run.{stops, passes, makes, turn_of}
use Rattle.definitions.specs.Scripts.{ended, script_tests, write_tests, read_entry}
use Rattle.definitions.specs.Table.{fresh}
use Rattle.definitions.specs.Texts.{Line, lines_of}
use Rattle.definitions.specs.Threads.{among}
use Rattle.basics.specs.ShortestLines.{shortest_threads, shortest_move}

-- writing turns the list down by 12 at most
abbrev pub Writable : ℕ → List ℕ → Type 0
Writable n triples = T (passes_all (write_tests n triples))

-- and so does reading the script
abbrev pub Readable : List ℕ → Type 0
Readable script = T (passes_all (read_entry script).tests)

-- the triples of every script that can be read have room in so many bytes: behind the shortest threads line, three bytes for each of the shortest lines
abbrev pub enough_triples : ℕ
enough_triples = 3 * ((most_script - shortest_threads) / shortest_move)

-- ---- notes left out

abbrev pub is_note : Form → Bool
is_note (threads n) = false
is_note (request r) = false
is_note note = true
is_note bad = false

-- the lines of a script but for its notes, byte for byte
unfoldable pub without_notes : List Line → List ℕ
without_notes [] = []
without_notes (l ∷ ls) = cond (is_note (line_form l)) [] (ended l.text) ++ without_notes ls

-- ---- the refusals of reading

-- what tests say: a refusal, or none
abbrev pub judged : List Test → Reply (Unit {0})
judged ts = answered ts tt

-- what reading says of a script's lines: it refuses the first line whose form or numbers are bad, or none
abbrev pub read_reply : List ℕ → Reply (Unit {0})
read_reply script = judged (script_tests (lines_of script))

-- a reply that is no refusal, or one of whose number and place P holds
abbrev pub IfRefused : {A : Type 0} → (ℕ → ℕ → Type 0) → Reply A → Type 0
IfRefused P (accepted a) = Unit {0}
IfRefused P (refused number place) = P number place

-- the numbers that reading refuses a line by
abbrev pub read_numbers : List ℕ
read_numbers = 1 ∷ 3 ∷ 5 ∷ 8 ∷ []

-- a refusal of reading: one of its numbers, at a line of the script, or at line 1 of a script that has none
abbrev pub ReadRefusal : List Line → ℕ → ℕ → Type 0
ReadRefusal ls number line = T (among number read_numbers) × (((1 ≤ line) × (line ≤ length ls)) ⊎ ((ls ≡ []) × (line ≡ 1)))

-- ---- the run with its refusals 6 and 7 set aside

abbrev pub set_aside : ℕ → Bool
set_aside number = eqb number 6 || eqb number 7

-- where it stops, from the line of number k on: a line that is refused by 6 or 7 is passed, and the table stays
unfoldable pub stop_from : List ℕ → ℕ → List Line → Reply (Unit {0})
stop_from table k [] = accepted tt
stop_from table k (l ∷ ls) =
    elim (turn_of table (line_form l)) [
      | stops number ↦ cond (set_aside number) (stop_from table (suc k) ls) (refused number k)
      | passes ↦ stop_from table (suc k) ls
      | makes r answer ↦ stop_from (move_table table r) (suc k) ls
    ]

-- "The run starts fresh", with the N of the first line, unless that line is turned down
abbrev pub stop_for : Reply ℕ → List Line → Reply (Unit {0})
stop_for (accepted n) ls = stop_from (fresh n) 2 ls
stop_for (refused number line) ls = refused number line

-- a whole script
unfoldable pub stop_of : List Line → Reply (Unit {0})
stop_of ls = stop_for (answered (first_tests (first_form ls)) (threads_first (first_form ls))) (drop 1 ls)

-- what a run that prints `(refused R L)` says of reading: it refuses that line by that number, or R is 6 or 7 and it refuses no line up to L
abbrev pub RunRefused : Reply (Unit {0}) → ℕ → ℕ → Type 0
RunRefused reading number line = (reading ≡ refused number line) ⊎ (T (set_aside number) × IfRefused (λ other place. line < place) reading)
