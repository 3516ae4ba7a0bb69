-- The table: a record of N, mutex, target and three functions of the thread, whatever stores it; writes to it; and its bytes, which are one storage of it.
-- The rules speak of the record alone. A `Storage` says how a table is read off what stores it and how writes are made there;
-- `byte_table` is the storage of the scope paper, and `table_of` and `stored` are the only definitions that know where a thread's bytes stand.
-- What a phase says of its thread stands in Phases, what makes a table sound in Sound.
use Rattle.std.specs.Prelude.{ℕ, ◌+◌, ◌*◌, Bool, true, cond, ◌&&◌, List, [], ◌∷◌, leb, eqb, length, get_or, set, replicate}
use Rattle.definitions.specs.Answers.{test, Delivery, counted}
use Rattle.definitions.specs.Bounds.{most_threads, no_target}

-- ---- the record

-- "N threads, 1 to 200, numbered from 0"; "the mutex (0 or 1), .. the target (a thread number, or 255 for none). Then for each thread: phase, busy, forbidden."
pub record Table : Type 0 where
  pub threads : ℕ
  pub mutex : ℕ
  pub target : ℕ
  pub phase : ℕ → ℕ
  pub busy : ℕ → ℕ
  pub forbidden : ℕ → ℕ

-- N is from 1 to 200
abbrev pub count_fits : ℕ → Bool
count_fits n = leb 1 n && leb n most_threads

-- "A fresh table has mutex 0, target 255, all else 0."
abbrev pub fresh_table : ℕ → Table
fresh_table n =
    record { threads = n; mutex = 0; target = no_target; phase = λ i. 0; busy = λ i. 0; forbidden = λ i. 0 }

-- ---- writes

-- one place of a table given a value: the mutex, the target, or a thread's phase, busy or forbidden
pub data Write : Type 0 where
  mutex≔ : ℕ → Write
  target≔ : ℕ → Write
  phase≔ : ℕ → ℕ → Write
  busy≔ : ℕ → ℕ → Write
  forbidden≔ : ℕ → ℕ → Write

-- a column with a value at one thread
abbrev pub update : (ℕ → ℕ) → ℕ → ℕ → ℕ → ℕ
update f i v = λ j. cond (eqb j i) v (f j)

abbrev pub applied_one : Table → Write → Table
applied_one s (mutex≔ v) =
    record { threads = s.threads; mutex = v; target = s.target; phase = s.phase; busy = s.busy; forbidden = s.forbidden }
applied_one s (target≔ v) =
    record { threads = s.threads; mutex = s.mutex; target = v; phase = s.phase; busy = s.busy; forbidden = s.forbidden }
applied_one s (phase≔ i v) =
    record { threads = s.threads; mutex = s.mutex; target = s.target; phase = update s.phase i v; busy = s.busy; forbidden = s.forbidden }
applied_one s (busy≔ i v) =
    record { threads = s.threads; mutex = s.mutex; target = s.target; phase = s.phase; busy = update s.busy i v; forbidden = s.forbidden }
applied_one s (forbidden≔ i v) =
    record { threads = s.threads; mutex = s.mutex; target = s.target; phase = s.phase; busy = s.busy; forbidden = update s.forbidden i v }

-- "What isn't named keeps its value."
abbrev pub applied : Table → List Write → Table
applied s [] = s
applied s (w ∷ ws) = applied (applied_one s w) ws

-- ---- storages

-- what stores a table: refusal 1's test, the table that is read off it, and the same with writes made
pub record Storage (B : Type 0) : Type 0 where
  pub fits : B → Bool
  pub table : B → Table
  pub store : B → List Write → B

-- the record as a storage of itself
abbrev pub itself : Storage Table
itself = record { fits = λ s. true; table = λ s. s; store = applied }

-- ---- the bytes

-- "3 + 3N bytes"
abbrev pub size : ℕ → ℕ
size n = 3 + 3 * n

-- "Then for each thread: phase, busy, forbidden."
abbrev pub phase_at : ℕ → ℕ
phase_at i = 3 + 3 * i

abbrev pub busy_at : ℕ → ℕ
busy_at i = 4 + 3 * i

abbrev pub forbidden_at : ℕ → ℕ
forbidden_at i = 5 + 3 * i

-- "Byte 0 is N, byte 1 the mutex (0 or 1), byte 2 the target (a thread number, or 255 for none)."
abbrev pub table_of : List ℕ → Table
table_of bytes =
    record {
      threads = get_or bytes 0 0;
      mutex = get_or bytes 1 0;
      target = get_or bytes 2 0;
      phase = λ i. get_or bytes (phase_at i) 0;
      busy = λ i. get_or bytes (busy_at i) 0;
      forbidden = λ i. get_or bytes (forbidden_at i) 0;
    }

-- refusal 1: "N is 0 or above 200, or the table isn't 3 + 3N bytes (an empty one included)."
unfoldable pub sized : List ℕ → Bool
sized bytes = count_fits (get_or bytes 0 0) && eqb (length bytes) (size (get_or bytes 0 0))

abbrev pub stored_one : List ℕ → Write → List ℕ
stored_one bytes (mutex≔ v) = set bytes 1 v
stored_one bytes (target≔ v) = set bytes 2 v
stored_one bytes (phase≔ i v) = set bytes (phase_at i) v
stored_one bytes (busy≔ i v) = set bytes (busy_at i) v
stored_one bytes (forbidden≔ i v) = set bytes (forbidden_at i) v

unfoldable pub stored : List ℕ → List Write → List ℕ
stored bytes [] = bytes
stored bytes (w ∷ ws) = stored (stored_one bytes w) ws

abbrev pub byte_table : Storage (List ℕ)
byte_table = record { fits = sized; table = table_of; store = stored }

-- the bytes of a fresh table
unfoldable pub fresh : ℕ → List ℕ
fresh n = n ∷ 0 ∷ no_target ∷ replicate (3 * n) 0

-- the fresh table's entry turns down by 1, 12
abbrev pub fresh_entry : ℕ → Delivery ℕ
fresh_entry n = counted (test 1 (count_fits n) ∷ []) (fresh n)
