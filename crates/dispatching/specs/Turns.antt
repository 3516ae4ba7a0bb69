-- The words of the theorems on turns: what a turn is that made a move or was refused, by any choice of the thread that moves and by the dispatcher's, and what is known of a table that waits.
use Rattle.std.specs.Prelude.{ℕ, ◌≤◌, ◌<◌, not, List, [], ◌∷◌, ◌⊎◌, ◌≡◌, T}
use Rattle.definitions.specs.Answers.{Reply, accepted, MoveAnswer}
use Rattle.definitions.specs.Bounds.{most_threads, last_move}
use Rattle.definitions.specs.Codes.{Shared, EE}
use Rattle.definitions.specs.Dispatch.{is_leaving, may_dispatch, has_turn, mover_in, is_waiting, DispatchAnswer, turn_reply_in, turn_in}
use Rattle.definitions.specs.Moves.{ask, is_call, is_retry, move_reply, move_table}
use Rattle.definitions.specs.Phases.{node_of}
use Rattle.definitions.specs.Sound.{sound}
use Rattle.definitions.specs.Table.{Table, table_of, sized, byte_table}
use Rattle.definitions.specs.Threads.{among}
use Rattle.definitions.specs.declared.Request.{Request}

-- the numbers of a request to n threads, of which there are at most 200
pub record TurnNumbers (n : ℕ) (r : Request) : Type 0 where
  pub few : n ≤ most_threads
  pub thread : r.thread < n
  pub mv : r.mv ≤ last_move
  pub target : r.target < n

-- ---- by any choice of the thread that moves

-- on bytes: what a turn answers, and what it leaves
abbrev pub turn_reply : (Table → ℕ) → List ℕ → Reply DispatchAnswer
turn_reply choice = turn_reply_in choice byte_table

abbrev pub turn_table : (Table → ℕ) → List ℕ → List ℕ
turn_table choice = turn_in choice byte_table

-- what is asked of a choice: where some thread of a sound table has a turn, it names one that has
abbrev pub NamesTurn : (Table → ℕ) → Type 0
NamesTurn choice = (s : Table) → T (sound s) → T (not (is_waiting s)) → T (has_turn s (choice s))

-- a turn of a table that made request r, answered a
pub record TurnBy (choice : Table → ℕ) (table : List ℕ) (r : Request) (a : MoveAnswer) : Type 0 where
  -- "with the move's own answer": the move accepts the request with this answer, and leaves this table
  pub reply : move_reply table r ≡ accepted a
  pub left : turn_table choice table ≡ move_table table r
  pub numbers : TurnNumbers (table_of table).threads r
  -- "no call, no retry and no leaving"
  pub no_call : T (not (is_call r))
  pub no_retry : T (not (is_retry (table_of table) r))
  pub no_leaving : T (not (is_leaving (table_of table) r))
  -- the thread's own such moves have this one's number
  pub one_move : (q : Request) → q.thread ≡ r.thread → T (may_dispatch (table_of table) q) → q.mv ≡ r.mv
  -- "In 10 the target is the lowest thread with forbidden 0, in 15 the lowest with forbidden 1.": with no lower target has it such a move
  pub lowest-target : (t : ℕ) → t < r.target → T (may_dispatch (table_of table) (ask r.thread r.mv t)) → ⊥

-- "(Only 1 and 2 can occur.)": 1 for a table of a wrong size, 2 for one of the right size that isn't sound
abbrev pub RefusedBy : List ℕ → ℕ → Type 0
RefusedBy table number = ((number ≡ 1) × T (not (sized table))) ⊎ ((number ≡ 2) × T (sized table) × T (not (sound (table_of table))))

-- a refusal of a turn's, which changes nothing
pub record TurnRefusedBy (choice : Table → ℕ) (table : List ℕ) (number place : ℕ) : Type 0 where
  pub one_or_two : RefusedBy table number
  pub no_place : place ≡ 0
  pub stays : turn_table choice table ≡ table

-- ---- by the dispatcher's

-- "for the lowest-numbered thread that has one": no thread below has such a move
pub record TurnMade (table : List ℕ) (r : Request) (a : MoveAnswer) : Type 0 where
  pub turn : TurnBy mover_in table r a
  pub lower_none : (q : Request) → q.thread < r.thread → T (may_dispatch (table_of table) q) → ⊥

abbrev pub TurnRefused : List ℕ → ℕ → ℕ → Type 0
TurnRefused = TurnRefusedBy mover_in

-- ---- a table that waits

-- "If no thread has such a move": no request, with any numbers, may be made
abbrev pub NoTurn : List ℕ → Type 0
NoTurn table = (r : Request) → T (may_dispatch (table_of table) r) → ⊥

-- "In a table that is waiting, a writer in 11 has a target in Shared, and a thread in EE finds the mutex taken", of thread i
pub record WaitsThere (s : Table) (i : ℕ) : Type 0 where
  pub in_11 : s.phase i ≡ 11 → (s.target < s.threads) × (node_of (s.phase s.target) ≡ Shared)
  pub in_EE : node_of (s.phase i) ≡ EE → s.mutex ≡ 1
  pub phases : T (among (s.phase i) (0 ∷ 4 ∷ 6 ∷ 9 ∷ 11 ∷ 14 ∷ []))

-- the phases in which the host alone has a move that is no call: a reader that backed off, and a thread that is in
abbrev pub host_phases : List ℕ
host_phases = 4 ∷ 6 ∷ 14 ∷ []

abbrev pub HostMoves : Table → ℕ → Type 0
HostMoves s i = T (among (s.phase i) host_phases)
