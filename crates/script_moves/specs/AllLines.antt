-- What the lines behind the first leave of the moves that they state: their triples from the front on, or a refusal.
use Rattle.std.specs.Prelude.{ℕ, Result, MatchResult, List, T}
use Rattle.definitions.specs.Answers.{number_of, passes_all}
use Rattle.definitions.specs.Plan.{bytes_of}
use Rattle.definitions.specs.Scripts.{lines_tests, requests_in}
use Rattle.definitions.specs.Texts.{Line}
use Rattle.definitions.specs.declared.Refused.{Refused}
use Rattle.basics.specs.Outputs.{PutAt}
use Rattle.line_moves.specs.Moves.{TurnedDown}

-- the lines have passed, and the triples of their requests are put
pub record AllTaken (ls : List Line) (n : ℕ) (before after : List ℕ) (next : ℕ) : Type 0 where
  pub passed : T (passes_all (lines_tests 2 n ls))
  pub put : PutAt before 0 (bytes_of (requests_in ls)) after next

-- the lines behind the first, for n threads
abbrev pub LinesTaken : List Line → ℕ → List ℕ → List ℕ → Result ℕ Refused → Type 0
LinesTaken ls n before after a = MatchResult a (AllTaken ls n before after) (λ x. TurnedDown (lines_tests 2 n ls) (number_of x.refusal) x.place)
