-- What the tests of a request answer, and the tests 4 to 7 of a thread's request from the head and the mover.
use Rattle.std.specs.Prelude.{ℕ, not, Result, Ok, Err, List, [], ◌∷◌, leb}
use Rattle.definitions.specs.Answers.{Reply, accepted, refused, number_of, number_of_move, reply_by_0, Test, test}
use Rattle.definitions.specs.Bounds.{last_move}
use Rattle.definitions.specs.Moves.{target_fits, must_wait}
use Rattle.definitions.specs.Phases.{has_move}
use Rattle.definitions.specs.declared.Head.{Head}
use Rattle.definitions.specs.declared.Move.{Move}
use Rattle.definitions.specs.declared.Refusal.{Refusal}
use Rattle.definitions.specs.declared.Request.{Request}
use Rattle.definitions.specs.declared.Task.{Task}

-- the reply that the answer of the tests stands for at a place: of a request that passes the move is answered
abbrev pub tested_at : ℕ → Result Move Refusal → Reply ℕ
tested_at place (Ok mv) = accepted (number_of_move mv)
tested_at place (Err x) = refused (number_of x) place

-- a move's own request has place 0
abbrev pub tested_reply : Result Move Refusal → Reply ℕ
tested_reply = reply_by_0 number_of_move

-- what `request_tests` asks behind the thread's number, of the head and the mover
abbrev pub later_tests : Head → Task → Request → List Test
later_tests head mover r =
    test 4 (leb r.mv last_move)
    ∷ test 5 (target_fits head.threads r.mv r.target)
    ∷ test 6 (has_move r.mv mover.phase)
    ∷ test 7 (not (must_wait mover.phase head.mutex r.mv))
    ∷ []
