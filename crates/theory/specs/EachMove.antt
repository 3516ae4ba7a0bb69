-- Each move is the protocol's: over any storage it is one step on the record of the table; sound tables stay sound; Figure 1 holds; who writes what; which moves are open.
use Rattle.std.specs.Prelude.{ℕ, ◌+◌, ◌*◌, ◌≤◌, ◌<◌, not, List, [], ◌∷◌, ◌↔◌, ◌≡◌, T, length, get_or, replicate}
use Rattle.definitions.specs.Answers.{accepted, quiet, moved}
use Rattle.definitions.specs.Bounds.{most_threads}
use Rattle.definitions.specs.Chains.{history_in}
use Rattle.definitions.specs.Codes.{Free, LOE, Shared, LOS, Exclusive}
use Rattle.definitions.specs.Moves.{ask, is_retry, step_reply, step, accepts, reply_in, step_in, accepts_in, move_reply, move_table}
use Rattle.definitions.specs.Nodes.{nodes_of}
use Rattle.definitions.specs.OpenMoves.{open_moves}
use Rattle.definitions.specs.Table.{Storage, itself, byte_table, table_of, fresh, phase_at, busy_at}
use Rattle.definitions.specs.Threads.{among}
use Rattle.definitions.specs.declared.Request.{Request}
use Rattle.theory.specs.Statements.{OutsideView, writes_mutex, MayWrite, Disciplined, at_mutex, local_move, Agree, Stands}
use Rattle.theory.specs.Tables.{SoundBytes, Keeps}

pub record EachMove : Type 1 where
  -- The step is one on the record of the table; a storage that keeps what is written carries it, and lent bytes are such a storage.
  pub bytes-keep : Keeps byte_table
  pub storage_reply : {B : Type 0} (S : Storage B) (b : B) (r : Request) → T (S.fits b) → reply_in S b r ≡ step_reply (S.table b) r
  pub storage_step : {B : Type 0} (S : Storage B) → Keeps S → (b : B) (r : Request) → T (S.fits b) → S.table (step_in S b r) ≡ step (S.table b) r
  pub storage_history : {B : Type 0} (S : Storage B) → Keeps S → (b : B) (rs : List Request) → T (S.fits b)
      → history_in S b rs ≡ history_in itself (S.table b) rs
  -- A fresh table is sound, and every thread of it is Free; a sound table stays sound, and an accepted request is to a sound table.
  pub fresh-sound : (n : ℕ) → 1 ≤ n → n ≤ most_threads → SoundBytes (fresh n)
  pub fresh_free : (n : ℕ) → nodes_of (table_of (fresh n)) ≡ replicate n Free
  pub sound-kept : (table : List ℕ) (r : Request) → SoundBytes table → SoundBytes (move_table table r)
  pub accepted-sound : (table : List ℕ) (r : Request) → T (accepts_in byte_table table r) → SoundBytes table × SoundBytes (move_table table r)
  -- In a sound table a thread in Exclusive keeps every other one out of Exclusive, LOS, LOE and Shared.
  pub exclusive_alone : (table : List ℕ) → SoundBytes table → (i j : ℕ) → i < (table_of table).threads → j < (table_of table).threads → (i ≡ j → ⊥)
      → get_or (nodes_of (table_of table)) i 0 ≡ Exclusive → T (not (among (get_or (nodes_of (table_of table)) j 0) (Exclusive ∷ LOS ∷ LOE ∷ Shared ∷ [])))
  -- From outside: an accepted request keeps every task in its node or takes one along one arrow of Figure 1, its condition met.
  pub figure_1 : (table : List ℕ) (r : Request) → T (accepts_in byte_table table r) → OutsideView table r
  -- Each arrow leads to another node, so one that keeps every task in its node is quiet.
  pub kept-quiet : (table : List ℕ) (r : Request) → T (accepts_in byte_table table r) → nodes_of (table_of (move_table table r)) ≡ nodes_of (table_of table)
      → move_reply table r ≡ accepted (moved quiet (is_retry (table_of table) r))
  -- Who writes what, by the table's bytes and by their kinds; a forbidden that a request writes is that of its one subject.
  pub discipline : (table : List ℕ) (r : Request) (k : ℕ) → (MayWrite (table_of table) r k → ⊥)
      → get_or (move_table table r) k 0 ≡ get_or table k 0
  pub disciplined : (table : List ℕ) (r : Request) → Disciplined (table_of table) r (table_of (move_table table r))
  -- An accepted move that may write the mutex does: it is 1 after it if it was 0 before, and 0 if it was 1.
  pub mutex-turned : (table : List ℕ) (r : Request) → T (accepts_in byte_table table r) → T (writes_mutex ((table_of table).phase r.thread) r.mv)
      → (table_of table).mutex + (table_of (move_table table r)).mutex ≡ 1
  -- What a reader writes, and what it uses, in all its moves but hold in 4 and go in 18: its own three bytes decide its reply and what it writes.
  pub reader-writes : (table : List ℕ) (r : Request) → T (local_move (table_of table) r)
      → (k : ℕ) → (k ≡ phase_at r.thread → ⊥) → (k ≡ busy_at r.thread → ⊥) → get_or (move_table table r) k 0 ≡ get_or table k 0
  pub reader_local : (a b : List ℕ) (r : Request) → SoundBytes a → SoundBytes b
      → Agree (table_of a) (table_of b) r.thread → T (local_move (table_of a) r)
      → (move_reply a r ≡ move_reply b r) × Agree (table_of (move_table a r)) (table_of (move_table b r)) r.thread
  -- Those two write the mutex.
  pub reader_at_mutex : (table : List ℕ) (r : Request) → T (accepts_in byte_table table r) → T (at_mutex (table_of table) r)
      → (table_of table).mutex + (table_of (move_table table r)).mutex ≡ 1
  -- The open moves are pairs, and exactly the requests that are accepted.
  pub open_paired : (table : List ℕ) (thread : ℕ) → (n : ℕ) × (length (open_moves (table_of table) thread) ≡ 2 * n)
  pub open_exact : (table : List ℕ) (thread mv target : ℕ)
      → Stands (open_moves (table_of table) thread) mv target ↔ T (accepts (table_of table) (ask thread mv target))
