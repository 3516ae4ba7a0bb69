-- Which move a turn makes, by the dispatcher's choice of the thread that moves and by any other, when it says waiting, and what waiting means (02 §8).
use Rattle.std.specs.Prelude.{ℕ, ◌<◌, List, [], ◌∷◌, ◌↔◌, ◌≡◌, T}
use Rattle.definitions.specs.Answers.{accepted, refused, MoveAnswer}
use Rattle.definitions.specs.Dispatch.{mover_in, made, waiting, dispatch_reply, dispatch_table}
use Rattle.definitions.specs.Table.{Table, table_of}
use Rattle.definitions.specs.Threads.{among}
use Rattle.definitions.specs.declared.Request.{Request}
use Rattle.theory.specs.Statements.{NotFree}
use Rattle.theory.specs.Tables.{SoundBytes}
use Rattle.dispatching.specs.Turns.{turn_reply, NamesTurn, TurnBy, TurnMade, TurnRefusedBy, TurnRefused, NoTurn, WaitsThere, HostMoves}

pub record TurnsAndWaiting : Type 0 where
  -- A turn that makes a move makes an accepted request, with the move's own answer and table: no call, no retry, no leaving, of the lowest thread that has one, with its lowest target.
  -- A turn by any other choice that names a thread which has a turn does so of that thread.
  pub turn_is_move : (table : List ℕ) (r : Request) (a : MoveAnswer) → dispatch_reply table ≡ accepted (made r a) → TurnMade table r a
  pub turn_by : (choice : Table → ℕ) → NamesTurn choice → (table : List ℕ) (r : Request) (a : MoveAnswer) → turn_reply choice table ≡ accepted (made r a) → TurnBy choice table r a
  pub mover_names : NamesTurn mover_in
  -- It says waiting exactly if no such request is there, and then the table stays; it refuses by 1 exactly if the size is wrong, by 2 if that is right and the table isn't sound, and keeps it.
  pub waiting_exactly : (table : List ℕ) → (dispatch_reply table ≡ accepted waiting) ↔ (SoundBytes table × NoTurn table)
  pub waiting_stays : (table : List ℕ) → dispatch_reply table ≡ accepted waiting → dispatch_table table ≡ table
  pub turn-refused : (table : List ℕ) (number place : ℕ) → (dispatch_reply table ≡ refused number place) ↔ TurnRefused table number place
  -- Both are the same by every choice, and so is what waiting means.
  pub waiting-any : (choice : Table → ℕ) (table : List ℕ) → (turn_reply choice table ≡ accepted waiting) ↔ (SoundBytes table × NoTurn table)
  pub refused-any : (choice : Table → ℕ) (table : List ℕ) (number place : ℕ) → (turn_reply choice table ≡ refused number place) ↔ TurnRefusedBy choice table number place
  -- What waiting means: a writer in 11 has a target in Shared, a thread in EE finds the mutex taken, and every thread is in 0, 4, 6, 9, 11 or 14.
  pub waiting_means : (table : List ℕ) → dispatch_reply table ≡ accepted waiting → (i : ℕ) → i < (table_of table).threads → WaitsThere (table_of table) i
  -- So the mutex, if it is taken, is held by a writer in 11 or 14; and where some thread isn't Free some thread is in 4, 6 or 14, where the host has a move that is no call.
  pub waiting-holder : (table : List ℕ) → dispatch_reply table ≡ accepted waiting → (table_of table).mutex ≡ 1
      → (h : ℕ) × (h < (table_of table).threads) × T (among ((table_of table).phase h) (11 ∷ 14 ∷ []))
  pub waiting_host : (table : List ℕ) → dispatch_reply table ≡ accepted waiting → (i : ℕ) → i < (table_of table).threads → NotFree table i
      → (j : ℕ) × (j < (table_of table).threads) × HostMoves (table_of table) j
