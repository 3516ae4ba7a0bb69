-- What a line behind the first gives: the triple of the move that it states, or a refusal.
use Rattle.std.specs.Prelude.{ℕ, Option, Result, MatchResult, List, [], ◌∷◌, ◌≡◌, T, unwrap_or}
use Rattle.definitions.specs.Answers.{Reply, refused, number_of, Test, answered, passes_all}
use Rattle.definitions.specs.Forms.{Form, line_tests, request_in}
use Rattle.definitions.specs.Moves.{number_tests}
use Rattle.definitions.specs.Plan.{bytes_of}
use Rattle.definitions.specs.declared.Refusal.{Refusal}
use Rattle.definitions.specs.declared.Request.{Request}

-- tests of which one isn't passed
pub record TurnedDown (tests : List Test) (number place : ℕ) : Type 0 where
  pub refusal : ◌≡◌ {A = Reply (Unit {0})} (answered tests tt) (refused number place)

-- the tests are passed, and these are the triples of the requests; or one of them isn't. The line may stand at any place
pub record Stated (tests : ℕ → List Test) (rs : List Request) (triples : List ℕ) : Type 0 where
  pub passed : (place : ℕ) → T (passes_all (tests place))
  pub triples_are : triples ≡ bytes_of rs

abbrev pub PassesOr : {A : Type 0} → (ℕ → List Test) → List Request → (A → List ℕ) → Result A Refusal → Type 0
PassesOr tests rs bytes r = MatchResult r (λ a. Stated tests rs (bytes a)) (λ x. (place : ℕ) → TurnedDown (tests place) (number_of x) place)

-- a request, for n threads
abbrev pub TripleTested : ℕ → Request → Result (List ℕ) Refusal → Type 0
TripleTested n r = PassesOr (λ place. number_tests place n r) (r ∷ []) (λ triple. triple)

-- a form; the note gives no triple
abbrev pub LineTaken : ℕ → Form → Result (Option (List ℕ)) Refusal → Type 0
LineTaken n f = PassesOr (λ place. line_tests place n f) (request_in f) (λ triple. unwrap_or triple [])
