-- The words of the theorems on spelling: which requests can be spelled, and which lines spell a form.
-- The lines themselves are `threads_line` and `spelled` of the definitions; proofs/Spelling.antt shows that reading is their inverse.
use Rattle.std.specs.Prelude.{ℕ, ◌≤◌, ◌<◌, true, List, ◌++◌, ◌≡◌, T}
use Rattle.definitions.specs.Bounds.{last_move}
use Rattle.definitions.specs.Forms.{Form, threads, request, note, bad, note_fits, threads_line, spelled}
use Rattle.definitions.specs.Moves.{target_fits}
use Rattle.definitions.specs.Texts.{bytes}
use Rattle.definitions.specs.declared.Request.{Request}

-- "numbers of one to three digits": those below this
abbrev pub number_bound : ℕ
number_bound = 1_000

-- a request that a line can say: there is such a move, its numbers have one to three digits, and its target is 0 unless the move names a thread
pub record Spellable (r : Request) : Type 0 where
  pub thread-fits : r.thread < number_bound
  pub move-fits : r.mv ≤ last_move
  pub target_fits_lem : T (target_fits number_bound r.mv r.target)

-- a line that says N
pub record ThreadsLine (line : List ℕ) (n : ℕ) : Type 0 where
  pub count_fits_lem : n < number_bound
  pub is_spelled : line ≡ threads_line n

-- a line that says a request
pub record RequestLine (line : List ℕ) (r : Request) : Type 0 where
  pub can_be : Spellable r
  pub is_spelled : line ≡ spelled r

-- a line that is a note: "after the word, a space and any number of bytes", and its own bracket
pub record NoteLine (line : List ℕ) : Type 0 where
  pub text : List ℕ
  pub text-fits : note_fits text ≡ true
  pub is_spelled : line ≡ bytes "(note " ++ (text ++ bytes ")")

-- what a line is, by the form that it reads as
abbrev pub Spells : List ℕ → Form → Type 0
Spells line (threads n) = ThreadsLine line n
Spells line (request r) = RequestLine line r
Spells line note = NoteLine line
Spells line bad = Unit {0}
