-- Answers in the scope paper's numbers, refusals in their order, and entries that write an output.
-- First the events' codes, the refusals' numbers and the moves' numbers, as the code's enums have them.
-- Then `Reply`, what an entry answers, and the reply that each case of an answer enum stands for. Then `answered`: a request is tried for its refusals in their order.
-- Last `Delivery`: an entry that writes is tested, and its output then delivered whole or not at all.
use Rattle.std.specs.Prelude.{◌≡◌, ℕ, ◌<◌, Option, Some, None, Result, Ok, Err, MatchResult, Bool, true, false, cond, ◌&&◌, List, [], ◌∷◌, ◌++◌, leb, length, get_or, drop}
use Rattle.definitions.specs.Bounds.{last_move}
use Rattle.definitions.specs.Codes.{go, call_shared, call_exclusive, set_move, clear_move, relent, hold}
use Rattle.definitions.specs.declared.Event.{Event}
use Rattle.definitions.specs.declared.Event.TheVariants.{EnterSharedCall, EnterSharedReturn, LeaveSharedCall, LeaveSharedReturn}
use Rattle.definitions.specs.declared.Event.TheVariants.{EnterExclusiveCall, EnterExclusiveReturn, LeaveExclusiveCall, LeaveExclusiveReturn}
use Rattle.definitions.specs.declared.Move.{Move}
use Rattle.definitions.specs.declared.Move.TheVariants.{Go, CallShared, CallExclusive, Set, Clear, Relent, Hold}
use Rattle.definitions.specs.declared.Outcome.{Outcome}
use Rattle.definitions.specs.declared.Outcome.TheVariants as outcome
use Rattle.definitions.specs.declared.Refusal.{Refusal}
use Rattle.definitions.specs.declared.Refused.{Refused}
use Rattle.definitions.specs.declared.Refusal.TheVariants.{BadSize, Unsound, NoThread, NoMove, BadTarget, NotInPhase, MutexHeld, BadForm, UnknownPair, NotNext, Occupied, NoRoom, Inconsistent}

-- ---- events and refusals by number

-- "The eight events bear codes 1 to 8: enter shared call, enter shared return, leave shared call, leave shared return, then the same four for exclusive."
abbrev pub code_of : Event → ℕ
code_of EnterSharedCall = 1
code_of EnterSharedReturn = 2
code_of LeaveSharedCall = 3
code_of LeaveSharedReturn = 4
code_of EnterExclusiveCall = 5
code_of EnterExclusiveReturn = 6
code_of LeaveExclusiveCall = 7
code_of LeaveExclusiveReturn = 8

-- the events by their codes; no event has code 0
unfoldable pub events : List (Option Event)
events =
    None
    ∷ Some EnterSharedCall
    ∷ Some EnterSharedReturn
    ∷ Some LeaveSharedCall
    ∷ Some LeaveSharedReturn
    ∷ Some EnterExclusiveCall
    ∷ Some EnterExclusiveReturn
    ∷ Some LeaveExclusiveCall
    ∷ Some LeaveExclusiveReturn
    ∷ []

-- the event of a code, if there is one
unfoldable pub event_of : ℕ → Option Event
event_of code = get_or events code None

-- "Turned down, in checking order": the numbers 1 to 12; "New: 13, the watcher record is inconsistent" (02 §2)
abbrev pub number_of : Refusal → ℕ
number_of BadSize = 1
number_of Unsound = 2
number_of NoThread = 3
number_of NoMove = 4
number_of BadTarget = 5
number_of NotInPhase = 6
number_of MutexHeld = 7
number_of BadForm = 8
number_of UnknownPair = 9
number_of NotNext = 10
number_of Occupied = 11
number_of NoRoom = 12
number_of Inconsistent = 13

-- ---- moves by number

-- "Moves: 0 go, 1 call shared, 2 call exclusive, 3 set, 4 clear, 5 relent."; "New move 6, hold" (02 §1)
abbrev pub number_of_move : Move → ℕ
number_of_move Go = go
number_of_move CallShared = call_shared
number_of_move CallExclusive = call_exclusive
number_of_move Set = set_move
number_of_move Clear = clear_move
number_of_move Relent = relent
number_of_move Hold = hold

-- the move of a number, or refusal 4 of one above the last
abbrev pub MoveRead : ℕ → Result Move Refusal → Type 0
MoveRead number r = MatchResult r (λ mv. number_of_move mv ≡ number) (λ why. (why ≡ NoMove) × (last_move < number))

-- ---- replies

-- what an entry answers: what it is asked for, or a refusal; "The answer is the number and a place"
pub data Reply (A : Type 0) : Type 0 where
  accepted : A → Reply A
  refused : ℕ → ℕ → Reply A

-- "A move answers a shown event, or quiet, or a refusal.": what is seen of an accepted move, an event by its code
pub data Seen : Type 0 where
  shown : ℕ → Seen
  quiet : Seen

-- "An accepted move now also says whether it was one": what it answers is what is seen of it, and whether it was a retry (02 §7)
pub record MoveAnswer : Type 0 where
  pub seen : Seen
  pub retry : Bool

abbrev pub moved : Seen → Bool → MoveAnswer
moved seen retry = record { seen = seen; retry = retry }

-- what is seen of a move that shows an event or none
abbrev pub event_seen : Option Event → Seen
event_seen (Some e) = shown (code_of e)
event_seen None = quiet

-- the answer that each case of a move's outcome stands for, and the event in it
abbrev pub outcome_answer : Outcome → MoveAnswer
outcome_answer (outcome.Shown e) = moved (shown (code_of e)) false
outcome_answer outcome.Quiet = moved quiet false
outcome_answer outcome.Retry = moved quiet true

abbrev pub shown_in : Outcome → Option Event
shown_in (outcome.Shown e) = Some e
shown_in outcome.Quiet = None
shown_in outcome.Retry = None

-- the reply that a result of the code stands for, by what its value stands for: accepted, or refused with the number and the place
abbrev pub reply_by : {A B : Type 0} → (A → B) → Result A Refused → Reply B
reply_by f (Ok a) = accepted (f a)
reply_by f (Err r) = refused (number_of r.refusal) r.place

-- the same where a refusal has no place of its own, "else 0"
abbrev pub reply_by_0 : {A B : Type 0} → (A → B) → Result A Refusal → Reply B
reply_by_0 f (Ok a) = accepted (f a)
reply_by_0 f (Err r) = refused (number_of r) 0

-- a move's
abbrev pub outcome_reply : Result Outcome Refusal → Reply MoveAnswer
outcome_reply = reply_by_0 outcome_answer

-- that of another entry that answers a count
abbrev pub answer_reply : Result ℕ Refused → Reply ℕ
answer_reply = reply_by (λ n. n)

-- "Accepted means answered with a shown event or quiet.", and of any entry: answered with no refusal
abbrev pub is_accepted : {A : Type 0} → Reply A → Bool
is_accepted (accepted a) = true
is_accepted (refused number place) = false

-- what is left where a request is accepted, or else where it is refused: "Every lent byte stays."
abbrev pub leaves {ℓ} : {A : Type 0} {B : Type ℓ} → Reply A → B → B → B
leaves (accepted a) carried kept = carried
leaves (refused number place) carried kept = kept

-- ---- refusals in their order

-- a refusal's number and place, and what must hold for a request to pass it
pub record Test : Type 0 where
  pub number : ℕ
  pub place : ℕ
  pub passed : Bool

-- the place is "the index of the first bad pair for 9, 10, 11 .., else 0"; for a list that is written the triple's index, and for a script that is read the line (02 §3)
abbrev pub test : ℕ → Bool → Test
test number passed = record { number = number; place = 0; passed = passed }

abbrev pub test_at : ℕ → ℕ → Bool → Test
test_at place number passed = record { number = number; place = place; passed = passed }

-- "the first number that fits": that of the first test that isn't passed; where all are, the request is accepted
unfoldable pub answered : {A : Type 0} → List Test → A → Reply A
answered [] a = accepted a
answered (t ∷ ts) a = cond t.passed (answered ts a) (refused t.number t.place)

-- a request passes all of a list of tests
unfoldable pub passes_all : List Test → Bool
passes_all [] = true
passes_all (t ∷ ts) = t.passed && passes_all ts

-- ---- entries that write

-- "Writers fill exactly their output from the front and leave the bytes after it."
abbrev pub filled : List ℕ → List ℕ → List ℕ
filled out text = text ++ drop (length text) out

-- an entry that writes: its refusals but for 12, the text that is its whole output, and what it answers
pub record Delivery (A : Type 0) : Type 0 where
  pub tests : List Test
  pub text : List ℕ
  pub answer : A

-- 12: "The lent output is shorter than the whole output."
abbrev pub room_test : List ℕ → List ℕ → Test
room_test text out = test 12 (leb (length text) (length out))

-- what it answers, 12 tested last
unfoldable pub delivery_reply : {A : Type 0} → Delivery A → List ℕ → Reply A
delivery_reply d out = answered (d.tests ++ (room_test d.text out ∷ [])) d.answer

-- and the lent output at its exit
unfoldable pub delivery_output : {A : Type 0} → Delivery A → List ℕ → List ℕ
delivery_output d out = leaves (delivery_reply d out) (filled out d.text) out

-- an entry that answers "the number of bytes written"
abbrev pub counted : List Test → List ℕ → Delivery ℕ
counted tests text = record { tests = tests; text = text; answer = length text }
