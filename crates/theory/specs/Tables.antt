-- What is known of what stores a table, when it was tested, and of a storage that keeps what is written; a table's head and its tasks by value, and what writes them.
use Rattle.std.specs.Prelude.{ℕ, ◌≤◌, ◌<◌, List, [], ◌∷◌, ◌≡◌, T, eqb, length, get_or}
use Rattle.definitions.specs.Bounds.{most_threads}
use Rattle.definitions.specs.Sound.{sound}
use Rattle.definitions.specs.Table.{Table, Write, mutex≔, target≔, phase≔, busy≔, forbidden≔, applied, Storage, byte_table, size}
use Rattle.definitions.specs.Threads.{how_many}
use Rattle.definitions.specs.declared.Head.{Head}
use Rattle.definitions.specs.declared.Task.{Task}

-- the bytes pass refusal 1, as numbers: N is from 1 to 200, and they are 3 + 3N
pub record Sized (bytes : List ℕ) : Type 0 where
  pub least : 1 ≤ get_or bytes 0 0
  pub most : get_or bytes 0 0 ≤ most_threads
  pub long : length bytes ≡ size (get_or bytes 0 0)

-- what stores a table passes the refusals 1 and 2
pub record SoundIn {B : Type 0} (storage : Storage B) (b : B) : Type 0 where
  pub is_sized : T (storage.fits b)
  pub is_sound : T (sound (storage.table b))

-- bytes do
abbrev pub SoundBytes : List ℕ → Type 0
SoundBytes = SoundIn byte_table

-- how many threads have forbidden 1
unfoldable pub forbidden_count : Table → ℕ
forbidden_count s = how_many s.threads (λ i. eqb (s.forbidden i) 1)

-- ---- by value

-- the head of a table, and a thread's task
abbrev pub head_of : Table → Head
head_of s = record { threads = s.threads; mutex = s.mutex; target = s.target }

abbrev pub task_of : Table → ℕ → Task
task_of s i = record { phase = s.phase i; busy = s.busy i; forbidden = s.forbidden i }

-- what writes them; N is never written
abbrev pub head_writes : Head → List Write
head_writes h = mutex≔ h.mutex ∷ target≔ h.target ∷ []

abbrev pub task_writes : ℕ → Task → List Write
task_writes i t = phase≔ i t.phase ∷ busy≔ i t.busy ∷ forbidden≔ i t.forbidden ∷ []

-- a task with another forbidden
abbrev pub flagged : Task → ℕ → Task
flagged t v = record { phase = t.phase; busy = t.busy; forbidden = v }

-- what stores a table with a head and a task given these values
abbrev pub put_head : {B : Type 0} → Storage B → B → Head → B
put_head S b h = S.store b (head_writes h)

abbrev pub put_task : {B : Type 0} → Storage B → B → ℕ → Task → B
put_task S b i t = S.store b (task_writes i t)

-- a mover, then a subject with its forbidden, which may be the same thread, then a head
abbrev pub put_back : {B : Type 0} → Storage B → B → ℕ → ℕ → Head → Task → ℕ → B
put_back S b i t h m f = put_head S (put_task S (put_task S b i m) t (flagged (task_of (S.table (put_task S b i m)) t) f)) h

-- a write as it shows in the head, in its mover's phase and busy, and in its subject's forbidden
abbrev pub head_with : Head → Write → Head
head_with h (mutex≔ v) = record { threads = h.threads; mutex = v; target = h.target }
head_with h (target≔ v) = record { threads = h.threads; mutex = h.mutex; target = v }
head_with h (phase≔ i v) = h
head_with h (busy≔ i v) = h
head_with h (forbidden≔ i v) = h

abbrev pub mover_with : Task → Write → Task
mover_with m (mutex≔ v) = m
mover_with m (target≔ v) = m
mover_with m (phase≔ i v) = record { phase = v; busy = m.busy; forbidden = m.forbidden }
mover_with m (busy≔ i v) = record { phase = m.phase; busy = v; forbidden = m.forbidden }
mover_with m (forbidden≔ i v) = m

abbrev pub flag_with : ℕ → Write → ℕ
flag_with f (mutex≔ v) = f
flag_with f (target≔ v) = f
flag_with f (phase≔ i v) = f
flag_with f (busy≔ i v) = f
flag_with f (forbidden≔ i v) = v

-- a list of writes, one after the other
abbrev pub head_after : Head → List Write → Head
head_after h [] = h
head_after h (w ∷ ws) = head_after (head_with h w) ws

abbrev pub mover_after : Task → List Write → Task
mover_after m [] = m
mover_after m (w ∷ ws) = mover_after (mover_with m w) ws

abbrev pub flag_after : ℕ → List Write → ℕ
flag_after f [] = f
flag_after f (w ∷ ws) = flag_after (flag_with f w) ws

-- ---- writes

-- a write is to a thread below n
abbrev pub WriteFits : ℕ → Write → Type 0
WriteFits n (mutex≔ v) = Unit {0}
WriteFits n (target≔ v) = Unit {0}
WriteFits n (phase≔ i v) = i < n
WriteFits n (busy≔ i v) = i < n
WriteFits n (forbidden≔ i v) = i < n

abbrev pub WritesFit : ℕ → List Write → Type 0
WritesFit n [] = Unit {0}
WritesFit n (w ∷ ws) = WriteFits n w × WritesFit n ws

-- a storage that keeps what is written: what fits it still does after writes, and the table read off it then is the one read before with the writes applied
pub record Keeps {B : Type 0} (storage : Storage B) : Type 0 where
  pub fits : (b : B) (ws : List Write) → T (storage.fits b) → WritesFit (storage.table b).threads ws → T (storage.fits (storage.store b ws))
  pub writes : (b : B) (ws : List Write) → T (storage.fits b) → WritesFit (storage.table b).threads ws → storage.table (storage.store b ws) ≡ applied (storage.table b) ws

-- and that the table tells: what fits and holds the same table is the same
abbrev pub Told : {B : Type 0} → Storage B → Type 0
Told {B} storage = (a b : B) → T (storage.fits a) → T (storage.fits b) → storage.table a ≡ storage.table b → a ≡ b
