-- A line is read as what it spells.
use Rattle.std.specs.Prelude.{ℕ, ◌<◌, true, List, ◌++◌, ◌≡◌}
use Rattle.definitions.specs.Forms.{threads, request, note, note_fits, form_of, threads_line, spelled}
use Rattle.definitions.specs.Texts.{bytes}
use Rattle.definitions.specs.declared.Request.{Request}
use Rattle.forms.specs.Grammar.{number_bound, Spellable, Spells}

pub record ReadAsSpelled : Type 0 where
  -- Reading a line is the inverse of spelling it: what is spelled is read, and every line spells what it is read as.
  pub threads-read : (n : ℕ) → n < number_bound → form_of (threads_line n) ≡ threads n
  pub request-read : (r : Request) → Spellable r → form_of (spelled r) ≡ request r
  pub note-read : (text : List ℕ) → note_fits text ≡ true → form_of (bytes "(note " ++ (text ++ bytes ")")) ≡ note
  pub spelled_once : (r q : Request) → Spellable r → Spellable q → spelled r ≡ spelled q → r ≡ q
  pub read-spelled : (line : List ℕ) → Spells line (form_of line)
