-- Requests that the dispatcher may make, in any order; rules of choice, which say whose request it makes; and turns one after the other, whatever a turn is.
use Rattle.std.specs.Prelude.{ℕ, zero, suc, ◌≤◌, ◌<◌, Bool, true, cond, ◌&&◌, List, [], ◌∷◌, ◌≡◌}
use Rattle.definitions.specs.Answers.{accepted, MoveAnswer}
use Rattle.definitions.specs.Dispatch.{may_dispatch, is_waiting, made, waiting, turn_reply_in, turn_in}
use Rattle.definitions.specs.Moves.{step_in}
use Rattle.definitions.specs.Table.{Table, Storage, byte_table}
use Rattle.definitions.specs.declared.Request.{Request}
use Rattle.dispatching.specs.Turns.{NamesTurn}

-- ---- lists of requests

-- each of them may be made on the table that it meets: "a move that is no call, no retry and no leaving", of any thread and with any target
module _ {B : Type 0} (storage : Storage B) where
  unfoldable pub dispatches_all_in : B → List Request → Bool
  dispatches_all_in b [] = true
  dispatches_all_in b (r ∷ rs) = may_dispatch (storage.table b) r && dispatches_all_in (step_in storage b r) rs

abbrev pub dispatches_all : List ℕ → List Request → Bool
dispatches_all = dispatches_all_in byte_table

-- ---- turns one after the other

-- a turn by a choice of the thread that moves makes a move, and it says waiting
module _ {B : Type 0} (choice : Table → ℕ) (storage : Storage B) where
  abbrev pub MovesBy : B → Type 0
  MovesBy b = (r : Request) × (answer : MoveAnswer) × (turn_reply_in choice storage b ≡ accepted (made r answer))

  abbrev pub WaitsBy : B → Type 0
  WaitsBy b = turn_reply_in choice storage b ≡ accepted waiting

-- a dispatcher of what X stores: what its turn leaves, when it makes a move, and when it says waiting
pub record Dispatcher (X : Type 0) : Type 1 where
  pub leaves : X → X
  pub Moves : X → Type 0
  pub Waits : X → Type 0

module _ {X : Type 0} (turn : Dispatcher X) where
  -- what k turns leave, "with the host making no moves between"
  unfoldable pub after_turns_by : ℕ → X → X
  after_turns_by zero x = x
  after_turns_by (suc k) x = after_turns_by k (turn.leaves x)

  -- waiting comes after exactly k turns: the first k turns each make a move, all that follow say waiting, and these leave what they find
  pub record WaitsAfterBy (x : X) (k : ℕ) : Type 0 where
    pub moves : (j : ℕ) → j < k → turn.Moves (after_turns_by j x)
    pub waits : (j : ℕ) → k ≤ j → turn.Waits (after_turns_by j x)
    pub stays : (j : ℕ) → k ≤ j → after_turns_by j x ≡ after_turns_by k x

-- ---- rules of choice

-- which thread of a table moves, by what is kept from turn to turn (the last mover, or nothing), and what is kept then
pub record Rule (Q : Type 0) : Type 0 where
  pub mover : Q → Table → ℕ
  pub keeps : Q → Table → Q

-- what is asked of a rule: whatever is kept, where some thread of a sound table has a turn, it names one that has
abbrev pub NamesTurns : {Q : Type 0} → Rule Q → Type 0
NamesTurns {Q} rule = (q : Q) → NamesTurn (rule.mover q)

-- a turn by a rule: that by its choice; what is kept stays where no thread has a turn
module _ {Q B : Type 0} (rule : Rule Q) (storage : Storage B) where
  abbrev pub turn_by : Dispatcher (Q × B)
  turn_by =
      record {
        leaves = λ (q, b). let s = storage.table b in (cond (is_waiting s) q (rule.keeps q s), turn_in (rule.mover q) storage b);
        Moves = λ (q, b). MovesBy (rule.mover q) storage b;
        Waits = λ (q, b). WaitsBy (rule.mover q) storage b;
      }
