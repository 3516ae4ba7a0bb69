-- A move over any storage: its promise (`MoveMadeIn`), and what the functions behind it are handed: a table that was tested, and a request that it accepts.
-- Bytes are one instance; `apply` names it.
use Rattle.std.specs.Prelude.{ℕ, ◌≡◌, T, Result, Ok, Err, MatchResult}
use Rattle.definitions.specs.Answers.{number_of_move, outcome_reply}
use Rattle.definitions.specs.Moves.{accepts, reply_in, step_in}
use Rattle.definitions.specs.Table.{Storage}
use Rattle.definitions.specs.declared.Head.{Head}
use Rattle.definitions.specs.declared.Move.{Move}
use Rattle.definitions.specs.declared.Outcome.{Outcome}
use Rattle.definitions.specs.declared.Refusal.{Refusal}
use Rattle.definitions.specs.declared.Request.{Request}
use Rattle.definitions.specs.declared.Task.{Task}
use Rattle.views.specs.View.{others_by}
use Rattle.views.specs.declared.View.{View}
use Rattle.theory.specs.Tables.{SoundIn, forbidden_count}
use Rattle.moving.specs.declared.Made.{Made}

-- a move's answer, of one that also tells how many forbidden are 1 after it
abbrev pub outcome_of : Result Made Refusal → Result Outcome Refusal
outcome_of (Ok m) = Ok m.outcome
outcome_of (Err x) = Err x

module _ {B : Type 0} (storage : Storage B) where
  -- the move's answer, and what is stored at exit, refused or not
  pub record MoveMadeIn (before : B) (r : Request) (after : B) (answer : Result Outcome Refusal) : Type 0 where
    pub reply : outcome_reply answer ≡ reply_in storage before r
    pub table : after ≡ step_in storage before r

  -- the same of a move that also tells how many forbidden are 1 where it is accepted; where it is refused, they are as many as before
  pub record MoveTriedIn (before : B) (r : Request) (after : B) (tried : Result Made Refusal) : Type 0 where
    pub made : MoveMadeIn before r after (outcome_of tried)
    pub count : MatchResult tried (λ m. m.forbidden ≡ forbidden_count (storage.table after)) (λ why. forbidden_count (storage.table after) ≡ forbidden_count (storage.table before))

  -- a table that passes the tests 1 and 2, and of whose threads k have forbidden 1
  pub record TestedIn (b : B) (k : ℕ) : Type 0 where
    pub tested : SoundIn storage b
    pub count : k ≡ forbidden_count (storage.table b)

  -- with a request that it accepts, and the request's move
  pub record AcceptingIn (b : B) (k : ℕ) (r : Request) (mv : Move) : Type 0 where
    pub table : TestedIn b k
    pub accepted : T (accepts (storage.table b) r)
    pub same_move : r.mv ≡ number_of_move mv

-- what is seen of a head, a mover and a subject, where k forbidden are 1
abbrev pub view_by : Head → Task → ℕ → Task → ℕ → View
view_by head mover number subject k =
    record { head = head; mover = mover; number = number; subject = subject; others = others_by head.threads k subject.forbidden }
