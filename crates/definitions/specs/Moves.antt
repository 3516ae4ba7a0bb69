-- The moves: a request, what each move writes and shows by phase, which of them are retries, the refusals in their order,
-- and the step of a table that a request makes, by itself and through a storage.
-- A line of `go_effect` is a phase, as the paper lists them. `step_reply` and `step` are the step on the record;
-- `move_reply` and `move_table` are the same on the byte table, sized first, and are what the move entry's promise cites.
use Rattle.std.specs.Prelude.{ℕ, Bool, cond, not, ◌&&◌, ◌||◌, List, [], ◌∷◌, ◌++◌, leb, ltb, eqb, get_or}
use Rattle.definitions.specs.Answers.{Reply, Seen, shown, quiet, MoveAnswer, moved, is_accepted, leaves, Test, test, test_at, answered}
use Rattle.definitions.specs.Bounds.{last_move, no_target}
use Rattle.definitions.specs.Codes.{go, call_shared, call_exclusive, set_move, clear_move, relent, hold}
use Rattle.definitions.specs.Phases.{has_move}
use Rattle.definitions.specs.Sound.{sound}
use Rattle.definitions.specs.Table.{Table, Write, mutex≔, target≔, phase≔, busy≔, forbidden≔, applied, Storage, byte_table}
use Rattle.definitions.specs.Threads.{every}
use Rattle.definitions.specs.declared.Request.{Request}

-- "A request is thread, move and target": a request by its three numbers
abbrev pub ask : ℕ → ℕ → ℕ → Request
ask thread mv target = record { thread = thread; mv = mv; target = target }

-- ---- what each move writes and shows

-- what a move writes, and what is seen of it
pub record Effect : Type 0 where
  pub writes : List Write
  pub shows : Seen

abbrev pub quietly : List Write → Effect
quietly ws = record { writes = ws; shows = quiet }

abbrev pub showing : ℕ → List Write → Effect
showing event ws = record { writes = ws; shows = shown event }

-- "every forbidden is 1"
abbrev pub all_forbidden : Table → Bool
all_forbidden s = every s.threads (λ j. eqb (s.forbidden j) 1)

-- "every forbidden is 0", once t's is
abbrev pub none_forbidden_but : ℕ → Table → Bool
none_forbidden_but t s = every s.threads (λ j. eqb j t || eqb (s.forbidden j) 0)

-- "Go", by phase
unfoldable pub go_effect : Table → ℕ → Effect
go_effect s i =
    get_or
    (quietly []
    -- "1 to 2, busy := 1."
    ∷ quietly (phase≔ i 2 ∷ busy≔ i 1 ∷ [])
    -- "2 to 5 if the thread's forbidden is 0, else to 3."
    ∷ quietly (phase≔ i (cond (eqb (s.forbidden i) 0) 5 3) ∷ [])
    -- "3 to 4, busy := 0."
    ∷ quietly (phase≔ i 4 ∷ busy≔ i 0 ∷ [])
    -- "4 to 1."; "Go in 4 still means that the time ran out." (02 §1)
    ∷ quietly (phase≔ i 1 ∷ [])
    -- "5 to 6, event 2."
    ∷ showing 2 (phase≔ i 6 ∷ [])
    -- "6 to 7, event 3."
    ∷ showing 3 (phase≔ i 7 ∷ [])
    -- "7 to 8, busy := 0."
    ∷ quietly (phase≔ i 8 ∷ busy≔ i 0 ∷ [])
    -- "8 to 0, event 4."
    ∷ showing 4 (phase≔ i 0 ∷ [])
    -- "9 to 10 if the mutex is 0, and it becomes 1."
    ∷ quietly (phase≔ i 10 ∷ mutex≔ 1 ∷ [])
    -- 10 has no go
    ∷ quietly []
    -- "11: the target's busy is read; if 1, to 12; if 0, target := 255, and to 13 when every forbidden is 1, else to 10."
    ∷ quietly
    (cond (eqb (s.busy s.target) 1)
    (phase≔ i 12 ∷ [])
    (phase≔ i (cond (all_forbidden s) 13 10) ∷ target≔ no_target ∷ []))
    -- "12 to 10, the target's forbidden := 0, target := 255."
    ∷ quietly (phase≔ i 10 ∷ forbidden≔ s.target 0 ∷ target≔ no_target ∷ [])
    -- "13 to 14, event 6."
    ∷ showing 6 (phase≔ i 14 ∷ [])
    -- "14 to 15, event 7."
    ∷ showing 7 (phase≔ i 15 ∷ [])
    -- 15 has no go
    ∷ quietly []
    -- "16 to 17, mutex := 0."
    ∷ quietly (phase≔ i 17 ∷ mutex≔ 0 ∷ [])
    -- "17 to 0, event 8."
    ∷ showing 8 (phase≔ i 0 ∷ [])
    -- "Go in 18 leads to 1, mutex := 0." (02 §1)
    ∷ quietly (phase≔ i 1 ∷ mutex≔ 0 ∷ [])
    ∷ [])
    (s.phase i)
    (quietly [])

-- "Set t: in 10, to 11, t's forbidden := 1, target := t. In 15, t's forbidden := 1, phase kept."
unfoldable pub set_effect : Table → ℕ → ℕ → Effect
set_effect s i t =
    quietly
    (cond (eqb (s.phase i) 10)
    (phase≔ i 11 ∷ forbidden≔ t 1 ∷ target≔ t ∷ [])
    (forbidden≔ t 1 ∷ []))

-- "Clear t: in 15, t's forbidden := 0, and to 16 when every forbidden is 0."
unfoldable pub clear_effect : Table → ℕ → ℕ → Effect
clear_effect s i t =
    quietly (forbidden≔ t 0 ∷ cond (none_forbidden_but t s) (phase≔ i 16 ∷ []) [])

-- the moves in the order of their numbers
unfoldable pub effect : Table → Request → Effect
effect s r =
    get_or
    (go_effect s r.thread
    -- "Call shared: 0 to 1, event 1. Call exclusive: 0 to 9, event 5."
    ∷ showing 1 (phase≔ r.thread 1 ∷ [])
    ∷ showing 5 (phase≔ r.thread 9 ∷ [])
    ∷ set_effect s r.thread r.target
    ∷ clear_effect s r.thread r.target
    -- "Relent: 11 to 12."
    ∷ quietly (phase≔ r.thread 12 ∷ [])
    -- "New move 6, hold, target 0: phase 4 to 18, mutex := 1." (02 §1)
    ∷ quietly (phase≔ r.thread 18 ∷ mutex≔ 1 ∷ [])
    ∷ [])
    r.mv
    (quietly [])

-- ---- retries

-- "Retries are": (02 §7)
unfoldable pub is_retry : Table → Request → Bool
is_retry s r =
    -- "go or hold in phase 4;"
    (eqb r.mv go || eqb r.mv hold) && eqb (s.phase r.thread) 4
    -- "relent;"
    || (eqb r.mv relent
    -- "go in 11 that reads busy 1;"
    || (eqb r.mv go && (eqb (s.phase r.thread) 11 && eqb (s.busy s.target) 1)
    -- "set in 10 on a thread with forbidden 1;"
    || (eqb r.mv set_move && (eqb (s.phase r.thread) 10 && eqb (s.forbidden r.target) 1)
    -- "any set in 15;"
    || (eqb r.mv set_move && eqb (s.phase r.thread) 15
    -- "clear in 15 on a thread with forbidden 0."
    || eqb r.mv clear_move && (eqb (s.phase r.thread) 15 && eqb (s.forbidden r.target) 0)))))

-- the calls: "Call shared: 0 to 1 .. Call exclusive: 0 to 9"
abbrev pub calls : ℕ → Bool
calls mv = eqb mv call_shared || eqb mv call_exclusive

abbrev pub is_call : Request → Bool
is_call r = calls r.mv

-- ---- the refusals

-- set and clear name a thread as their target
abbrev pub names_thread : ℕ → Bool
names_thread mv = eqb mv set_move || eqb mv clear_move

-- refusal 5: "The target of set or clear isn't below N, or that of another move isn't 0."
abbrev pub target_fits : ℕ → ℕ → ℕ → Bool
target_fits n mv t = cond (names_thread mv) (ltb t n) (eqb t 0)

-- the moves that take the mutex, by the mover's phase: a writer's go in 9 and a reader's hold in 4
abbrev pub takes_mutex : ℕ → ℕ → Bool
takes_mutex phase mv = eqb mv go && eqb phase 9 || eqb mv hold && eqb phase 4

-- refusal 7: "Go in phase 9 while the mutex is 1."; "7 is also given to hold while the mutex is 1" (02 §1)
abbrev pub must_wait : ℕ → ℕ → ℕ → Bool
must_wait phase mutex mv = takes_mutex phase mv && eqb mutex 1

-- the refusals 3, 4 and 5 of a request to N threads, which are those of its numbers, in their order
abbrev pub number_tests : ℕ → ℕ → Request → List Test
number_tests place n r =
    test_at place 3 (ltb r.thread n)
    ∷ test_at place 4 (leb r.mv last_move)
    ∷ test_at place 5 (target_fits n r.mv r.target)
    ∷ []

-- 6 and 7, which are those of the table
abbrev pub phase_tests : Table → Request → List Test
phase_tests s r =
    test 6 (has_move r.mv (s.phase r.thread))
    ∷ test 7 (not (must_wait (s.phase r.thread) s.mutex r.mv))
    ∷ []

-- the refusals 3 to 7 of a request
abbrev pub request_tests : Table → Request → List Test
request_tests s r = number_tests 0 s.threads r ++ phase_tests s r

-- with refusal 2 before them
abbrev pub move_tests : Table → Request → List Test
move_tests s r = test 2 (sound s) ∷ request_tests s r

-- ---- the step

-- what a request answers where it is accepted: "a shown event, or quiet", and whether it was a retry
abbrev pub move_answer : Table → Request → MoveAnswer
move_answer s r = moved (effect s r).shows (is_retry s r)

-- "A move answers a shown event, or quiet, or a refusal."
unfoldable pub step_reply : Table → Request → Reply MoveAnswer
step_reply s r = answered (move_tests s r) (move_answer s r)

-- the table after it
unfoldable pub step : Table → Request → Table
step s r = leaves (step_reply s r) (applied s (effect s r).writes) s

abbrev pub accepts : Table → Request → Bool
accepts s r = is_accepted (step_reply s r)

-- through a storage: refusal 1 first, then the step
module _ {B : Type 0} (storage : Storage B) where
  unfoldable pub reply_in : B → Request → Reply MoveAnswer
  reply_in b r = answered (test 1 (storage.fits b) ∷ move_tests (storage.table b) r) (move_answer (storage.table b) r)

  unfoldable pub step_in : B → Request → B
  step_in b r = leaves (reply_in b r) (storage.store b (effect (storage.table b) r).writes) b

  abbrev pub accepts_in : B → Request → Bool
  accepts_in b r = is_accepted (reply_in b r)

-- on the byte table
abbrev pub move_reply : List ℕ → Request → Reply MoveAnswer
move_reply = reply_in byte_table

abbrev pub move_table : List ℕ → Request → List ℕ
move_table = step_in byte_table
