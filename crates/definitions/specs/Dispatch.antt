-- The dispatcher (02 §8): which moves it may make, which one it makes, what it answers, and the table that it leaves.
-- It makes a request of Moves and no other: what that request answers and writes is stated there. "It" in the sentences below is the dispatcher.
-- `dispatch_reply` and `dispatch_table` are those of the byte table, and are what the entry's promise cites.
use Rattle.std.specs.Prelude.{ℕ, suc, Bool, false, cond, not, ◌&&◌, ◌||◌, List, [], ◌∷◌, eqb}
use Rattle.definitions.specs.Answers.{Reply, accepted, refused, MoveAnswer, moved, event_seen, number_of_move, number_of, leaves, test, answered}
use Rattle.definitions.specs.Bounds.{last_move}
use Rattle.definitions.specs.Codes.{go}
use Rattle.definitions.specs.Moves.{ask, is_call, is_retry, move_answer, accepts, step_in}
use Rattle.definitions.specs.Sound.{sound}
use Rattle.definitions.specs.Table.{Table, Storage, byte_table}
use Rattle.definitions.specs.Threads.{some, lowest}
use Rattle.definitions.specs.declared.Dispatched.{Dispatched}
use Rattle.definitions.specs.declared.Dispatched.TheVariants as dispatched
use Rattle.definitions.specs.declared.Request.{Request}

-- ---- the moves that it may make

-- "leaving (go in 6 or 14)"
abbrev pub is_leaving : Table → Request → Bool
is_leaving s r = eqb r.mv go && (eqb (s.phase r.thread) 6 || eqb (s.phase r.thread) 14)

-- "a move that is no call, no retry and no leaving": one that a request would have accepted
unfoldable pub may_dispatch : Table → Request → Bool
may_dispatch s r = accepts s r && (not (is_call r) && (not (is_retry s r) && not (is_leaving s r)))

-- thread i has such a move, by the move's number, whatever its target
unfoldable pub has_turn_by : Table → ℕ → ℕ → Bool
has_turn_by s i mv = some s.threads (λ t. may_dispatch s (ask i mv t))

-- thread i has one
unfoldable pub has_turn : Table → ℕ → Bool
has_turn s i = some (suc last_move) (has_turn_by s i)

-- ---- the one that it makes

-- "for the lowest-numbered thread that has one"
unfoldable pub mover_in : Table → ℕ
mover_in s = lowest s.threads (has_turn s)

-- the number of that thread's move
unfoldable pub move_for : Table → ℕ → ℕ
move_for s i = lowest (suc last_move) (has_turn_by s i)

-- "In 10 the target is the lowest thread with forbidden 0, in 15 the lowest with forbidden 1."; else it is 0, as refusal 5 asks
unfoldable pub target_for : Table → ℕ → ℕ
target_for s i =
    cond (eqb (s.phase i) 10) (lowest s.threads (λ t. eqb (s.forbidden t) 0))
    (cond (eqb (s.phase i) 15) (lowest s.threads (λ t. eqb (s.forbidden t) 1)) 0)

-- the request of thread i
abbrev pub request_of : Table → ℕ → Request
request_of s i = ask i (move_for s i) (target_for s i)

-- the request that it makes
abbrev pub chosen : Table → Request
chosen s = request_of s (mover_in s)

-- "If no thread has such a move it says waiting"
unfoldable pub is_waiting : Table → Bool
is_waiting s = not (some s.threads (has_turn s))

-- ---- what it answers and leaves

-- "It answers thread, move and target with the move's own answer."
pub data DispatchAnswer : Type 0 where
  made : Request → MoveAnswer → DispatchAnswer
  waiting : DispatchAnswer

-- of the thread that a choice names
unfoldable pub turn_answer : (Table → ℕ) → Table → DispatchAnswer
turn_answer choice s = let r = request_of s (choice s) in cond (is_waiting s) waiting (made r (move_answer s r))

-- through a storage, refusal 1 first; "(Only 1 and 2 can occur.)"
module _ (choice : Table → ℕ) {B : Type 0} (storage : Storage B) where
  unfoldable pub turn_reply_in : B → Reply DispatchAnswer
  turn_reply_in b = answered (test 1 (storage.fits b) ∷ test 2 (sound (storage.table b)) ∷ []) (turn_answer choice (storage.table b))

  -- what that request leaves; "it says waiting and changes nothing"
  unfoldable pub turn_in : B → B
  turn_in b =
      leaves (turn_reply_in b) (cond (is_waiting (storage.table b)) b (step_in storage b (request_of (storage.table b) (choice (storage.table b))))) b

-- the dispatcher's choice is the lowest-numbered thread that has a turn
module _ {B : Type 0} (storage : Storage B) where
  abbrev pub dispatch_reply_in : B → Reply DispatchAnswer
  dispatch_reply_in = turn_reply_in mover_in storage

  abbrev pub dispatch_in : B → B
  dispatch_in = turn_in mover_in storage

-- on the byte table
abbrev pub dispatch_reply : List ℕ → Reply DispatchAnswer
dispatch_reply = dispatch_reply_in byte_table

abbrev pub dispatch_table : List ℕ → List ℕ
dispatch_table = dispatch_in byte_table

-- the reply that each case of the dispatcher's answer stands for; it makes no retry, and its refusal has place 0
abbrev pub dispatched_reply : Dispatched → Reply DispatchAnswer
dispatched_reply (dispatched.Moved thread mv target event) = accepted (made (ask thread (number_of_move mv) target) (moved (event_seen event) false))
dispatched_reply dispatched.Waiting = accepted waiting
dispatched_reply (dispatched.Refused r) = refused (number_of r) 0
