-- The forms of a script's lines: the lines that spell a form, then what a line says, read off the line alone.
-- Last what a line says to N threads, which is one definition for the run and for reading (02 §3).
-- `threads_line` and `spelled` write the line of a form; `form_of` reads a line. That the one is the inverse of the other is shown in crates/forms, proofs/Spelling.
use Rattle.std.specs.Prelude.{ℕ, suc, ◌+◌, ◌-◌, Bool, false, cond, ◌&&◌, List, [], ◌∷◌, ◌++◌, eqb, length, get_or, take, drop}
use Rattle.definitions.specs.Answers.{Test, test_at}
use Rattle.definitions.specs.Bounds.{last_move, most_depth}
use Rattle.definitions.specs.Codes.{set_move, clear_move}
use Rattle.definitions.specs.Moves.{ask, names_thread, number_tests}
use Rattle.definitions.specs.Table.{count_fits}
use Rattle.definitions.specs.Texts.{bytes, same, starts, Line, NumberRead, number_read, decimal}
use Rattle.definitions.specs.Threads.{every, gather, between}
use Rattle.definitions.specs.declared.Request.{Request}

-- ---- spelling

-- "First `(threads N)`": the line that says N
abbrev pub threads_line : ℕ → List ℕ
threads_line n = bytes "(threads " ++ (decimal n ++ bytes ")")

-- what stands behind T, by the move's number: "`(T (go))`, `(T (call shared))`, `(T (call exclusive))`, `(T (set K))`, `(T (clear K))`, `(T (relent))`"; "`(T (hold))`" (02 §1)
unfoldable pub act_text : ℕ → ℕ → List ℕ
act_text mv target =
    get_or
    (bytes " (go))"
    ∷ bytes " (call shared))"
    ∷ bytes " (call exclusive))"
    ∷ (bytes " (set " ++ (decimal target ++ bytes "))"))
    ∷ (bytes " (clear " ++ (decimal target ++ bytes "))"))
    ∷ bytes " (relent))"
    ∷ bytes " (hold))"
    ∷ [])
    mv
    []

-- the line that says a request
abbrev pub spelled : Request → List ℕ
spelled r = bytes "(" ++ (decimal r.thread ++ act_text r.mv r.target)

-- ---- reading

-- what a line says: the number of threads, a request, a note, or nothing that the grammar has
pub data Form : Type 0 where
  threads : ℕ → Form
  request : Request → Form
  note : Form
  bad : Form

-- how many of xs are the byte c
unfoldable pub occurrences : ℕ → List ℕ → ℕ
occurrences c [] = 0
occurrences c (x ∷ xs) = cond (eqb x c) 1 0 + occurrences c xs

-- "any number of bytes 32 to 126, none too, whose round brackets balance, to depth 16 with the outermost as 1":
-- the bytes between `(note ` and the note's own closing bracket. Their depth, the brackets opened less those closed, is from 0 to 16 throughout, and 0 at their end.
unfoldable pub note_fits : List ℕ → Bool
note_fits text =
    every (length text) (λ k. between 32 126 (get_or text k 0))
    && (every (suc (length text)) (λ k.
    between (occurrences 41 (take k text)) (occurrences 41 (take k text) + most_depth) (occurrences 40 (take k text)))
    && eqb (occurrences 40 text) (occurrences 41 text))

-- `(note ...)`, from behind the space on: the note's own bracket is the line's last byte
unfoldable pub note_form : List ℕ → Form
note_form xs = cond (eqb (get_or xs (length xs - 1) 0) 41 && note_fits (take (length xs - 1) xs)) note bad

-- `(threads N)`, from N on
abbrev pub threads_form : NumberRead → Form
threads_form r = cond (r.fits && same r.rest (bytes ")")) (threads r.value) bad

-- `K))`
abbrev pub target_form : ℕ → ℕ → NumberRead → Form
target_form thread mv r = cond (r.fits && same r.rest (bytes "))")) (request (ask thread mv r.value)) bad

-- `(T (set K))` and `(T (clear K))`, from the space behind T on
unfoldable pub aimed_form : ℕ → List ℕ → Form
aimed_form thread xs =
    cond (starts (bytes " (set ") xs) (target_form thread set_move (number_read (drop 6 xs)))
    (cond (starts (bytes " (clear ") xs) (target_form thread clear_move (number_read (drop 8 xs))) bad)

-- the moves that name no thread: go, call shared, call exclusive, relent, hold
unfoldable pub plain_moves : List ℕ
plain_moves = gather (suc last_move) (λ mv. cond (names_thread mv) [] (mv ∷ []))

-- one of these moves, if the text is the one that spells it, or else another form
unfoldable pub plain_form : ℕ → List ℕ → List ℕ → Form → Form
plain_form thread xs [] other = other
plain_form thread xs (mv ∷ mvs) other = cond (same xs (act_text mv 0)) (request (ask thread mv 0)) (plain_form thread xs mvs other)

-- what stands behind T, from the space on
unfoldable pub act_form : ℕ → List ℕ → Form
act_form thread xs = plain_form thread xs plain_moves (aimed_form thread xs)

-- the thread's number, then the rest
abbrev pub move_form : NumberRead → Form
move_form r = cond r.fits (act_form r.value r.rest) bad

-- "The reader of a form is handed that line alone."
unfoldable pub form_of : List ℕ → Form
form_of line =
    cond (starts (bytes "(threads ") line) (threads_form (number_read (drop 9 line)))
    (cond (starts (bytes "(note ") line) (note_form (drop 6 line))
    (cond (starts (bytes "(") line) (move_form (number_read (drop 1 line))) bad))

-- a line's form; one that lacks its line feed is bad
abbrev pub line_form : Line → Form
line_form l = cond l.ended (form_of l.text) bad

-- ---- what a line says to N threads

-- what the first line says; a script without a line has a bad form there: "an empty script's `(refused 8 1)`"
abbrev pub first_form : List Line → Form
first_form [] = bad
first_form (l ∷ ls) = line_form l

-- the refusals of the first line, for its form or its N: "First `(threads N)`"; "a bad form is 8, a bad N 1"
abbrev pub first_tests : Form → List Test
first_tests (threads n) = test_at 1 1 (count_fits n) ∷ []
first_tests (request r) = test_at 1 8 false ∷ []
first_tests note = test_at 1 8 false ∷ []
first_tests bad = test_at 1 8 false ∷ []

-- the N of the first line, 0 where it gives none
abbrev pub threads_first : Form → ℕ
threads_first (threads n) = n
threads_first (request r) = 0
threads_first note = 0
threads_first bad = 0

-- the refusals of a line behind the first, for its form or its numbers, with its place; a second threads line is a bad form
abbrev pub line_tests : ℕ → ℕ → Form → List Test
line_tests place n (threads m) = test_at place 8 false ∷ []
line_tests place n (request r) = number_tests place n r
line_tests place n note = []
line_tests place n bad = test_at place 8 false ∷ []

-- the request that it states
abbrev pub request_in : Form → List Request
request_in (threads n) = []
request_in (request r) = r ∷ []
request_in note = []
request_in bad = []
