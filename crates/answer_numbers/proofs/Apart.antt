-- Replies are told apart by their numbers: one law for every encoding whose values tell what is answered (`told`), then the values that there are.
-- What is answered must fit its value, as an N that has a byte: `Fits` says so of a reply, and that a refusal's number is from 1 to 255.
use Prim.Native.Nat.{ℕ, ◌+◌, ◌*◌, ◌≤◌, ◌<◌}
use native.Mathlib.Nat.{mul-le-mul_left, mul-add}
use native.Mathlib.Omega.{arith}
use mathlib.Core.Bool.{Bool, true, false, cond}
use mathlib.Core.Logic.{⊎_elim}
use mathlib.Core.Path.{◌≡◌, refl, sym, ap, ap₂}
use lib.Dec.{lit≤}
use Rattle.std.specs.Prelude.{Option, Some, None}
use Rattle.definitions.specs.Answers.{Reply, accepted, refused, Seen, shown, quiet, MoveAnswer, moved, code_of, number_of, event_seen}
use Rattle.definitions.specs.Bounds.{last_event}
use Rattle.definitions.specs.Dispatch.{DispatchAnswer, made, waiting}
use Rattle.definitions.specs.Moves.{ask}
use Rattle.definitions.specs.Run.{RunCounts}
use Rattle.definitions.specs.Scripts.{Listed}
use Rattle.definitions.specs.declared.Event.{Event}
use Rattle.definitions.specs.declared.Event.TheVariants.{EnterSharedCall, EnterSharedReturn, LeaveSharedCall, LeaveSharedReturn}
use Rattle.definitions.specs.declared.Event.TheVariants.{EnterExclusiveCall, EnterExclusiveReturn, LeaveExclusiveCall, LeaveExclusiveReturn}
use Rattle.definitions.specs.declared.Refusal.{Refusal}
use Rattle.definitions.specs.declared.Refusal.TheVariants.{BadSize, Unsound, NoThread, NoMove, BadTarget, NotInPhase, MutexHeld, BadForm, UnknownPair, NotNext, Occupied, NoRoom, Inconsistent}
use Rattle.definitions.specs.declared.Request.{Request}
use Rattle.basics.proofs.Tests.{below?}
use Rattle.answer_numbers.specs.Encoding.{encoded, retry_unit, made_mark, seen_value, move_value, run_value, turn_value, inside_value, listed_value, Below}

-- ---- one law

-- of what is accepted P holds, and a refusal's number is from 1 to 255
abbrev pub Fits : {A : Type 0} → (A → Type 0) → Reply A → Type 0
Fits P (accepted a) = P a
Fits P (refused number place) = (1 ≤ number) × (number < 256)

module _ {A : Type 0} (P : A → Type 0) (value : A → ℕ) where
  -- what is answered is told by its value, so the reply is told by its number
  pub told : ((a b : A) → P a → P b → value a ≡ value b → a ≡ b) → (x y : Reply A) → Fits P x → Fits P y → encoded value x ≡ encoded value y → x ≡ y
  unfolding encoded
  told tells (accepted a) (accepted b) f g e = ap accepted (tells a b f g (omega arith))
  told tells (accepted a) (refused l q) f g e = absurd (omega arith)
  told tells (refused k p) (accepted b) f g e = absurd (omega arith)
  told tells (refused k p) (refused l q) f g e = ap₂ refused (omega arith) (omega arith)

  -- what it has of a value is below a unit
  pub low : (unit : ℕ) → ((a : A) → P a → value a < unit) → (x : Reply A) → Fits P x → Below unit value x
  low unit small (accepted a) f = small a f
  low unit small (refused number place) f = tt

-- ---- the refusals' numbers and the events' codes

pub numbers : (r : Refusal) → (1 ≤ number_of r) × (number_of r < 256)
numbers BadSize = (lit≤ tt, lit≤ tt)
numbers Unsound = (lit≤ tt, lit≤ tt)
numbers NoThread = (lit≤ tt, lit≤ tt)
numbers NoMove = (lit≤ tt, lit≤ tt)
numbers BadTarget = (lit≤ tt, lit≤ tt)
numbers NotInPhase = (lit≤ tt, lit≤ tt)
numbers MutexHeld = (lit≤ tt, lit≤ tt)
numbers BadForm = (lit≤ tt, lit≤ tt)
numbers UnknownPair = (lit≤ tt, lit≤ tt)
numbers NotNext = (lit≤ tt, lit≤ tt)
numbers Occupied = (lit≤ tt, lit≤ tt)
numbers NoRoom = (lit≤ tt, lit≤ tt)
numbers Inconsistent = (lit≤ tt, lit≤ tt)

codes : (e : Event) → (1 ≤ code_of e) × (code_of e ≤ 8)
codes EnterSharedCall = (lit≤ tt, lit≤ tt)
codes EnterSharedReturn = (lit≤ tt, lit≤ tt)
codes LeaveSharedCall = (lit≤ tt, lit≤ tt)
codes LeaveSharedReturn = (lit≤ tt, lit≤ tt)
codes EnterExclusiveCall = (lit≤ tt, lit≤ tt)
codes EnterExclusiveReturn = (lit≤ tt, lit≤ tt)
codes LeaveExclusiveCall = (lit≤ tt, lit≤ tt)
codes LeaveExclusiveReturn = (lit≤ tt, lit≤ tt)

-- what is seen of a move
pub seen_most : (e : Option Event) → seen_value (event_seen e) ≤ last_event
seen_most (Some e) = (codes e).1
seen_most None = omega arith

-- ---- answers of two values, of which the lower is below a unit

-- one unit more is too much
too_far : (unit n m x y z : ℕ) → m < unit → n + x ≡ m + y → z ≤ x → z ≡ unit * 1 + y → ⊥
too_far unit n m x y z h e l f = omega arith

-- the higher ones are in order
above_most : (unit n m k l : ℕ) → m < unit → n + unit * k ≡ m + unit * l → k ≤ l
above_most unit n m k l h e =
    ⊎_elim (λ below. absurd (too_far unit n m (unit * k) (unit * l) (unit * (1 + l)) h e (mul-le-mul_left unit (omega arith)) (mul-add unit 1 l))) (λ le. le) (below? k l)

-- so both are told
both_told : (unit n m k l : ℕ) → n < unit → m < unit → n + unit * k ≡ m + unit * l → (n ≡ m) × (k ≡ l)
both_told unit n m k l f g e =
    let same : k ≡ l = omega (arith, above_most unit n m k l g e, above_most unit m n l k f (sym e)) in
    (omega (arith, e, ap (λ (x : ℕ). unit * x) same), same)

-- ---- what each value tells

-- yes and no
pub bool_tells : (a b : Bool) → inside_value a ≡ inside_value b → a ≡ b
bool_tells true true e = refl
bool_tells true false e = absurd (omega arith)
bool_tells false true e = absurd (omega arith)
bool_tells false false e = refl

-- reading's answer, whose N has a byte, and a run's, whose bytes stand below its retries
pub listed-tells : (a b : Listed) → a.threads < 256 → b.threads < 256 → listed_value a ≡ listed_value b → a ≡ b
listed-tells a b f g e = let t = both_told 256 a.threads b.threads a.bytes b.bytes f g e in λ i. record { threads = t.0 i; bytes = t.1 i }

pub run-tells : (a b : RunCounts) → a.bytes < retry_unit → b.bytes < retry_unit → run_value a ≡ run_value b → a ≡ b
run-tells a b f g e = let t = both_told retry_unit a.bytes b.bytes a.retries b.retries f g e in λ i. record { bytes = t.0 i; retries = t.1 i }

-- what is seen of a move: an event has a code from 1 to 8
abbrev pub SeenFits : Seen → Type 0
SeenFits (shown event) = (1 ≤ event) × (event ≤ last_event)
SeenFits quiet = Unit {0}

seen-tells : (a b : Seen) → SeenFits a → SeenFits b → seen_value a ≡ seen_value b → a ≡ b
seen-tells (shown d) (shown e) f g h = ap shown h
seen-tells (shown d) quiet f g h = absurd (omega arith)
seen-tells quiet (shown e) f g h = absurd (omega arith)
seen-tells quiet quiet f g h = refl

pub seen_low : (a : Seen) → SeenFits a → seen_value a ≤ last_event
seen_low (shown event) f = f.1
seen_low quiet f = omega arith

-- a move's answer
pub move-tells : (a b : MoveAnswer) → SeenFits a.seen → SeenFits b.seen → move_value a ≡ move_value b → a ≡ b
move-tells a b f g e =
    let t = both_told retry_unit (seen_value a.seen) (seen_value b.seen) (cond a.retry 1 0) (cond b.retry 1 0)
    (omega (arith, seen_low a.seen f)) (omega (arith, seen_low b.seen g)) e in
    let seen = seen-tells a.seen b.seen f g t.0 in
    let retry = bool_tells a.retry b.retry t.1 in
    λ i. moved (seen i) (retry i)

-- a turn's, whose thread, move and target have a byte each, and whose move is no retry
pub record MadeFits (r : Request) (a : MoveAnswer) : Type 0 where
  pub thread : r.thread < 256
  pub mv : r.mv < 256
  pub target : r.target < 256
  pub seen : SeenFits a.seen
  pub no_retry : ◌≡◌ {A = ℕ} (cond a.retry 1 0) 0

abbrev pub TurnFits : DispatchAnswer → Type 0
TurnFits (made r a) = MadeFits r a
TurnFits waiting = Unit {0}

-- its four bytes are told
bytes_told : (v w i j m n t u : ℕ) → v ≤ last_event → w ≤ last_event → i < 256 → j < 256 → m < 256 → n < 256
    → made_mark + v + 256 * i + 65_536 * m + 16_777_216 * t ≡ made_mark + w + 256 * j + 65_536 * n + 16_777_216 * u → (v ≡ w) × (i ≡ j) × (m ≡ n) × (t ≡ u)
bytes_told v w i j m n t u a b c d e f h =
    let low = both_told 256 (made_mark + v) (made_mark + w) (i + 256 * (m + 256 * t)) (j + 256 * (n + 256 * u)) (omega arith) (omega arith) (omega arith) in
    let (thread, rest) = both_told 256 i j (m + 256 * t) (n + 256 * u) c d low.1 in
    let (mv, target) = both_told 256 m n t u e f rest in
    (omega (arith, low.0), thread, mv, target)

pub turn-tells : (a b : DispatchAnswer) → TurnFits a → TurnFits b → turn_value a ≡ turn_value b → a ≡ b
turn-tells (made r a) (made q b) f g e =
    let told = bytes_told (move_value a) (move_value b) r.thread q.thread r.mv q.mv r.target q.target
    (omega (arith, seen_low a.seen f.seen)) (omega (arith, seen_low b.seen g.seen)) f.thread g.thread f.mv g.mv e in
    let answer = move-tells a b f.seen g.seen told.0 in
    λ i. made (ask (told.1 i) (told.2 i) (told.3 i)) (answer i)
turn-tells (made r a) waiting f g e = absurd (omega arith)
turn-tells waiting (made q b) f g e = absurd (omega arith)
turn-tells waiting waiting f g e = refl

pub turn_low : (a : DispatchAnswer) → TurnFits a → turn_value a < retry_unit
turn_low (made r a) f = omega (arith, seen_low a.seen f.seen)
turn_low waiting f = omega arith
