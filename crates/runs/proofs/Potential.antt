-- The amortised cost of a move: the bytes that it prints and the potential after it are at most twice the bytes of its line and the potential before it.
-- The potential of a table is the sum of its threads' credits, and a thread's credit goes by its phase.
use Prim.Native.Nat.{ℕ, suc, ◌+◌, ◌*◌, ◌≤◌, ◌<◌}
use native.Mathlib.Omega.{arith}
use mathlib.Core.List.{List}
use mathlib.Core.Path.{◌≡◌, sym, subst, ap, ◌∙◌}
use lib.Dec.{T}
use lib.ListN.{length}
use Rattle.definitions.specs.Answers.{Reply, accepted, is_accepted, MoveAnswer, shown}
use Rattle.definitions.specs.Bounds.{last_move}
use Rattle.definitions.specs.Moves.{calls, move_answer, Effect, effect, move_reply, move_table}
use Rattle.definitions.specs.Phases.{rows, has_move}
use Rattle.definitions.specs.Run.{event_name, event_line}
use Rattle.definitions.specs.Table.{Table, update, applied, table_of, byte_table, fresh}
use Rattle.definitions.specs.Texts.{bytes, decimal}
use Rattle.definitions.specs.Threads.{every, sum_of, among, implies}
use Rattle.definitions.specs.declared.Request.{Request}
use Rattle.runs.specs.Length.{credit}
use Rattle.basics.proofs.Numbers.{decimal-some}
use Rattle.basics.proofs.Quantifiers.{every_at}
use Rattle.basics.proofs.Sums.{sum_update, sum_zero}
use Rattle.basics.proofs.Tests.{implies_e}
use Rattle.theory.proofs.Bytes.{byte_keeps, fresh-table}
use Rattle.theory.proofs.Lengths.{event-size}
use Rattle.theory.proofs.Storages.{accepts_e, accepted-reply, accepted-table}
use Rattle.theory.proofs.Ways.{accepted_e, Way, way}
use Rattle.theory.proofs.Ways.{call_shared_lem, raise_busy, find_open, find-forbidden, back_off, try_again, hold-mutex, give_back, enter-shared, leave_shared, lower_busy, return_shared}
use Rattle.theory.proofs.Ways.{call_exclusive_lem, take-mutex, set-flag, find-busy, last-flag, next-flag, relents, give_up, enter-exclusive, leave_exclusive}
use Rattle.theory.proofs.Ways.{set_again, clear_flag, clear_last, release_mutex, return_exclusive}
use Rattle.runs.proofs.Lines.{LineFits}

-- ---- the potential

abbrev pub potential : Table → ℕ
potential s = sum_of s.threads (λ j. credit (s.phase j))

pub fresh_potential : (n : ℕ) → potential (table_of (fresh n)) ≡ 0
unfolding credit
fresh_potential n = ap potential (fresh-table n) ∙ sum_zero n

-- a thread goes from phase p to phase q
moved : (s : Table) (i p q : ℕ) → i < s.threads → s.phase i ≡ p → sum_of s.threads (λ j. credit (update s.phase i q j)) + credit p ≡ potential s + credit q
moved s i p q l e = let change = sum_update s.threads credit s.phase i q l in let before = ap credit e in omega arith

-- ---- what a move prints

-- phase 0 has only the calls, by trying the moves
only_calls : (mv : ℕ) → mv ≤ last_move → T (has_move mv 0) → T (calls mv)
unfolding rows every among
only_calls mv l =
    implies_e (has_move mv 0) (calls mv) (every_at (λ m. implies (has_move m 0) (calls m)) (suc last_move) tt mv (omega arith))

module _ (s : Table) (i mv t size : ℕ) (fits : i < s.threads) (plain : length (decimal i) + 8 ≤ size) (call : s.phase i ≡ 0 → length (decimal i) + 17 ≤ size) where
  -- quiet
  quiet_cost : (p q : ℕ) → s.phase i ≡ p → credit q ≤ 18 + credit p → 0 + sum_of s.threads (λ j. credit (update s.phase i q j)) ≤ 2 * size + potential s
  quiet_cost p q e enough = let some = decimal-some i in let m = moved s i p q fits e in omega arith

  -- an event
  event_cost : (event p q : ℕ) → s.phase i ≡ p → length (decimal i) + (12 + length (event_name event)) + credit q ≤ 2 * size + credit p
      → length (event_line i (shown event)) + sum_of s.threads (λ j. credit (update s.phase i q j)) ≤ 2 * size + potential s
  event_cost event p q e enough = let z = event-size i event in let m = moved s i p q fits e in omega arith

  way_cost : (e : Effect) → Way s i mv t e → length (event_line i e.shows) + potential (applied s e.writes) ≤ 2 * size + potential s
  unfolding credit event_name bytes event_line
  way_cost e (call_shared_lem p) = let long = call p in event_cost 1 _ _ p (omega arith)
  way_cost e (call_exclusive_lem p) = let long = call p in event_cost 5 _ _ p (omega arith)
  way_cost e (raise_busy p) = quiet_cost _ _ p (omega arith)
  way_cost e (find_open p f) = quiet_cost _ _ p (omega arith)
  way_cost e (find-forbidden p f) = quiet_cost _ _ p (omega arith)
  way_cost e (back_off p) = quiet_cost _ _ p (omega arith)
  way_cost e (try_again p) = quiet_cost _ _ p (omega arith)
  way_cost e (hold-mutex m p f) = quiet_cost _ _ p (omega arith)
  way_cost e (give_back m p) = quiet_cost _ _ p (omega arith)
  way_cost e (enter-shared p) = let one = decimal-some i in event_cost 2 _ _ p (omega arith)
  way_cost e (leave_shared p) = let one = decimal-some i in event_cost 3 _ _ p (omega arith)
  way_cost e (lower_busy p) = quiet_cost _ _ p (omega arith)
  way_cost e (return_shared p) = let one = decimal-some i in event_cost 4 _ _ p (omega arith)
  way_cost e (take-mutex m p f) = quiet_cost _ _ p (omega arith)
  way_cost e (find-busy p b) = quiet_cost _ _ p (omega arith)
  way_cost e (last-flag p b a) = quiet_cost _ _ p (omega arith)
  way_cost e (next-flag p b a) = quiet_cost _ _ p (omega arith)
  way_cost e (give_up p) = quiet_cost _ _ p (omega arith)
  way_cost e (enter-exclusive p) = let one = decimal-some i in event_cost 6 _ _ p (omega arith)
  way_cost e (leave_exclusive p) = let one = decimal-some i in event_cost 7 _ _ p (omega arith)
  way_cost e (release_mutex m p) = quiet_cost _ _ p (omega arith)
  way_cost e (return_exclusive p) = let one = decimal-some i in event_cost 8 _ _ p (omega arith)
  way_cost e (set-flag p l) = quiet_cost _ _ p (omega arith)
  way_cost e (set_again p l) = omega arith
  way_cost e (clear_last p l a) = quiet_cost _ _ p (omega arith)
  way_cost e (clear_flag p l a) = omega arith
  way_cost e (relents p) = quiet_cost _ _ p (omega arith)

-- `size` is the length of the line that states the request, with its line feed
pub move_cost : (table : List ℕ) (r : Request) (answer : MoveAnswer) (size : ℕ) → move_reply table r ≡ accepted answer → LineFits size r.thread r.mv
    → length (event_line r.thread answer.seen) + potential (table_of (move_table table r)) ≤ 2 * size + potential (table_of table)
move_cost table r answer size e w =
    let s = table_of table in
    let t = subst (λ (x : Reply MoveAnswer). T (is_accepted x)) (sym e) tt in
    let a = accepted_e s r (accepts_e byte_table table r t).1 in
    let cost =
    way_cost s r.thread r.mv r.target size a.thread-fits w.plain
    (λ p. w.call (only_calls r.mv a.move-fits (subst (λ (k : ℕ). T (has_move r.mv k)) p a.has_move_lem)))
    (effect s r) (way s r a)
    in
    let reply = accepted-reply byte_table table r t in
    let same : answer ≡ move_answer s r = cc in
    let prints = ap (λ (x : MoveAnswer). length (event_line r.thread x.seen)) same in
    let leaves = ap potential (accepted-table byte_table byte_keeps table r t) in
    omega arith
