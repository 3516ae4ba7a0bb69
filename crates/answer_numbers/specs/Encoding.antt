-- An answer as one number, for C: the low byte is the refusal's number, 0 where the request is accepted; the rest is the value of what is answered, or the refusal's place.
-- The number tells the entry's reply (proofs/Told), but that writing's places above the largest that is held are answered as that one.
use Rattle.std.specs.Prelude.{ℕ, ◌+◌, ◌-◌, ◌*◌, ◌<◌, Bool, Result, cond, leb}
use Rattle.definitions.specs.Answers.{Reply, accepted, refused, Seen, shown, quiet, MoveAnswer, reply_by, reply_by_0, outcome_answer}
use Rattle.definitions.specs.Dispatch.{DispatchAnswer, made, waiting}
use Rattle.definitions.specs.Run.{RunCounts, counts_of}
use Rattle.definitions.specs.Scripts.{Listed, listed_of}
use Rattle.definitions.specs.declared.Outcome.{Outcome}
use Rattle.definitions.specs.declared.Reading.{Reading}
use Rattle.definitions.specs.declared.Refusal.{Refusal}
use Rattle.definitions.specs.declared.Refused.{Refused}
use Rattle.definitions.specs.declared.Running.{Running}

-- one rule for every entry, given the value of what it answers
unfoldable pub encoded : {A : Type 0} → (A → ℕ) → Reply A → ℕ
encoded value (accepted a) = 256 * value a
encoded value (refused number place) = 256 * place + number

-- the replies of a result whose value is answered as it is, and of one whose refusals have no place
abbrev pub reply_of : {A : Type 0} → Result A Refused → Reply A
reply_of = reply_by (λ a. a)

abbrev pub reply_of_0 : {A : Type 0} → Result A Refusal → Reply A
reply_of_0 = reply_by_0 (λ a. a)

-- the value of what is seen of a move: the event's code, 0 for quiet
abbrev pub seen_value : Seen → ℕ
seen_value (shown event) = event
seen_value quiet = 0

-- retries stand above the other value of a move and of a run, which is below this (02 §7)
abbrev pub retry_unit : ℕ
retry_unit = 4_294_967_296

-- of a move, what is seen, and 1 above it for a retry
abbrev pub move_value : MoveAnswer → ℕ
move_value a = seen_value a.seen + retry_unit * cond a.retry 1 0

-- of a run, the number of bytes, and the number of retries above it
abbrev pub run_value : RunCounts → ℕ
run_value c = c.bytes + retry_unit * c.retries

-- of a turn of the dispatcher, 0 for waiting; where it made a move, this and what is seen of the move in the lowest byte, and above it the thread, the move and the target, a byte each (02 §8)
abbrev pub made_mark : ℕ
made_mark = 128

abbrev pub turn_value : DispatchAnswer → ℕ
turn_value (made r a) = made_mark + move_value a + 256 * r.thread + 65_536 * r.mv + 16_777_216 * r.target
turn_value waiting = 0

-- of a count, the count
abbrev pub count_value : ℕ → ℕ
count_value count = count

-- of a watcher's start or event nothing, of its question 1 for yes
abbrev pub watch_value : Unit {0} → ℕ
watch_value u = 0

abbrev pub inside_value : Bool → ℕ
inside_value inside = cond inside 1 0

-- of reading, N in the lowest byte, and the number of bytes above it
abbrev pub listed_value : Listed → ℕ
listed_value l = l.threads + 256 * l.bytes

-- the values of what the code has of a move, of a run and of reading
abbrev pub outcome_value : Outcome → ℕ
outcome_value o = move_value (outcome_answer o)

abbrev pub running_value : Running → ℕ
running_value r = run_value (counts_of r)

abbrev pub reading_value : Reading → ℕ
reading_value r = listed_value (listed_of r)

-- what the move entry answers for its reply, the dispatcher and the run for theirs, the watcher's for theirs, and every other entry for its own
abbrev pub move_number : Reply MoveAnswer → ℕ
move_number = encoded move_value

abbrev pub turn_number : Reply DispatchAnswer → ℕ
turn_number = encoded turn_value

abbrev pub run_number : Reply RunCounts → ℕ
run_number = encoded run_value

abbrev pub watch_number : Reply (Unit {0}) → ℕ
watch_number = encoded watch_value

abbrev pub inside_number : Reply Bool → ℕ
inside_number = encoded inside_value

abbrev pub read_number : Reply Listed → ℕ
read_number = encoded listed_value

abbrev pub count_number : Reply ℕ → ℕ
count_number = encoded count_value

-- what an accepted answer has of a value is below a unit
abbrev pub Below : {A : Type 0} → ℕ → (A → ℕ) → Reply A → Type 0
Below unit value (accepted a) = value a < unit
Below unit value (refused number place) = Unit {0}

-- an answer's value: that of what is answered, or the place
abbrev pub value_of : {A : Type 0} → (A → ℕ) → Reply A → ℕ
value_of value (accepted a) = value a
value_of value (refused number place) = place

abbrev pub value_in : Reply ℕ → ℕ
value_in = value_of count_value

abbrev pub listed_in : Reply Listed → ℕ
listed_in = value_of listed_value

abbrev pub run_in : Reply RunCounts → ℕ
run_in = value_of run_value

-- values stay below this, so that an answer fits 64 bits
abbrev pub value_bound : ℕ
value_bound = 36_028_797_018_963_968

-- every value stays below it
abbrev pub AllSmall : {A : Type 0} → (A → ℕ) → Type 0
AllSmall {A} value = (a : A) → value a < value_bound

-- a place that stands beside the refusal's number: writing's is the index of a triple in a list of any length, and a larger one than this is answered as this
abbrev pub held_place : ℕ → ℕ
held_place place = cond (leb place (value_bound - 1)) place (value_bound - 1)

abbrev pub held : Reply ℕ → Reply ℕ
held (accepted count) = accepted count
held (refused number place) = refused number (held_place place)
