-- The words of the theorems' statements: what is seen of a move from outside, a thread that isn't Free, who may write what and the subject of a move, what a reader uses,
-- and a pair that stands in a list.
use Rattle.std.specs.Prelude.{ℕ, ◌+◌, ◌*◌, ◌<◌, Bool, cond, not, ◌&&◌, ◌||◌, List, [], ◌∷◌, ◌≡◌, T, eqb, length, get_or}
use Rattle.definitions.specs.Answers.{accepted, Seen, moved}
use Rattle.definitions.specs.Codes.{Free, go, call_shared, hold}
use Rattle.definitions.specs.Moves.{is_retry, names_thread, takes_mutex, move_reply, move_table}
use Rattle.definitions.specs.Nodes.{nodes_of, Figure1}
use Rattle.definitions.specs.Phases.{node_of}
use Rattle.definitions.specs.Sound.{opened}
use Rattle.definitions.specs.Table.{Table, Write, mutex≔, target≔, phase≔, busy≔, forbidden≔, table_of, phase_at, busy_at, forbidden_at}
use Rattle.definitions.specs.Threads.{between}
use Rattle.definitions.specs.declared.Request.{Request}

-- ---- Figure 1

-- what is seen of an accepted request: its answer, and the nodes before and after it
pub record OutsideView (bytes : List ℕ) (r : Request) : Type 0 where
  pub seen : Seen
  pub reply : move_reply bytes r ≡ accepted (moved seen (is_retry (table_of bytes) r))
  pub moves : Figure1 (nodes_of (table_of bytes)) r.thread seen (nodes_of (table_of (move_table bytes r)))

-- thread i isn't Free
abbrev pub NotFree : List ℕ → ℕ → Type 0
NotFree table i = node_of ((table_of table).phase i) ≡ Free → ⊥

-- ---- who writes what

-- the moves that write the mutex, by the mover's phase: those that take it, go in 9 and hold in 4, and those that let it go, go in 16 and in 18
abbrev pub writes_mutex : ℕ → ℕ → Bool
writes_mutex phase mv = takes_mutex phase mv || eqb mv go && opened phase

-- the phases in which a forbidden may be written, those of a writer that holds the mutex, and those in which the target may
abbrev pub writes_flag : ℕ → Bool
writes_flag phase = between 10 16 phase

abbrev pub writes_target : ℕ → Bool
writes_target phase = between 10 12 phase

-- the thread whose busy a move may read and whose forbidden it may write: that of the request for set and clear, the table's target in phases 11 and 12, else the mover
unfoldable pub subject_by : Request → ℕ → ℕ → ℕ
subject_by r phase target = cond (names_thread r.mv) r.target (cond (between 11 12 phase) target r.thread)

abbrev pub subject_of : Table → Request → ℕ
subject_of s r = subject_by r (s.phase r.thread) s.target

-- what a request may write: the mover's phase and busy; the subject's forbidden, the mutex and the target where these may be written
abbrev pub MayMake : Table → Request → Write → Type 0
MayMake s r (phase≔ j v) = j ≡ r.thread
MayMake s r (busy≔ j v) = j ≡ r.thread
MayMake s r (forbidden≔ j v) = (j ≡ subject_of s r) × T (writes_flag (s.phase r.thread))
MayMake s r (mutex≔ v) = T (writes_mutex (s.phase r.thread) r.mv)
MayMake s r (target≔ v) = T (writes_target (s.phase r.thread))

abbrev pub MayMakeAll : Table → Request → List Write → Type 0
MayMakeAll s r [] = Unit {0}
MayMakeAll s r (w ∷ ws) = MayMake s r w × MayMakeAll s r ws

-- the same by the table's bytes: what byte k may be, if a request to table s may write it
pub data MayWrite (s : Table) (r : Request) (k : ℕ) : Type 0 where
  its_phase : k ≡ phase_at r.thread → MayWrite s r k
  its_busy : k ≡ busy_at r.thread → MayWrite s r k
  the_subjects : k ≡ forbidden_at (subject_of s r) → T (writes_flag (s.phase r.thread)) → MayWrite s r k
  the_mutex : k ≡ 1 → T (writes_mutex (s.phase r.thread) r.mv) → MayWrite s r k
  the_target : k ≡ 2 → T (writes_target (s.phase r.thread)) → MayWrite s r k

-- and for each kind of byte: s before, s' after a request
pub record Disciplined (s : Table) (r : Request) (s' : Table) : Type 0 where
  pub threads-kept : s'.threads ≡ s.threads
  pub phase-own : (j : ℕ) → (j ≡ r.thread → ⊥) → s'.phase j ≡ s.phase j
  pub busy-own : (j : ℕ) → (j ≡ r.thread → ⊥) → s'.busy j ≡ s.busy j
  pub forbidden_subjects : (j : ℕ) → (j ≡ subject_of s r → ⊥) → s'.forbidden j ≡ s.forbidden j
  pub forbidden-held : (T (writes_flag (s.phase r.thread)) → ⊥) → (j : ℕ) → s'.forbidden j ≡ s.forbidden j
  pub mutex_in : (T (writes_mutex (s.phase r.thread) r.mv) → ⊥) → s'.mutex ≡ s.mutex
  pub target_in : (T (writes_target (s.phase r.thread)) → ⊥) → s'.target ≡ s.target

-- ---- what a reader uses

-- the phases of a reader's round
abbrev pub reader_round : ℕ → Bool
reader_round phase = between 1 8 phase

-- and that in which it holds the mutex before it tries again
abbrev pub reader_phase : ℕ → Bool
reader_phase phase = reader_round phase || eqb phase 18

-- a reader's request: call shared, or go or hold in one of them
abbrev pub reader_move : Table → Request → Bool
reader_move s r = eqb r.mv call_shared || (eqb r.mv go || eqb r.mv hold) && reader_phase (s.phase r.thread)

-- a reader's moves at the mutex: hold in 4, and go in 18
abbrev pub at_mutex : Table → Request → Bool
at_mutex s r = eqb r.mv hold && eqb (s.phase r.thread) 4 || eqb r.mv go && eqb (s.phase r.thread) 18

-- the others use the reader's own three bytes alone
abbrev pub local_move : Table → Request → Bool
local_move s r = reader_move s r && not (at_mutex s r)

-- two tables of the same N in which thread i's three bytes are the same
pub record Agree (s t : Table) (i : ℕ) : Type 0 where
  pub threads : s.threads ≡ t.threads
  pub phase : s.phase i ≡ t.phase i
  pub busy : s.busy i ≡ t.busy i
  pub forbidden : s.forbidden i ≡ t.forbidden i

-- ---- open moves

-- the pair of move and target stands at places 2k and 2k + 1 of a list
pub record StandsAt (bytes : List ℕ) (move target k : ℕ) : Type 0 where
  pub within : 2 * k + 1 < length bytes
  pub move_is : get_or bytes (2 * k) 0 ≡ move
  pub target_is : get_or bytes (2 * k + 1) 0 ≡ target

abbrev pub Stands : List ℕ → ℕ → ℕ → Type 0
Stands bytes move target = (k : ℕ) × StandsAt bytes move target k
