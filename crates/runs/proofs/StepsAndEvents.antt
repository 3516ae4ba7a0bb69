-- A run in the words of demand 3: its output is the history that its accepted requests show, a line an event, and then one last line.
-- All those requests are accepted in turn from the fresh table. Where no line is turned down the last line is a steps line with their number, and they are all that the script states;
-- else it is the refusal of the first line turned down, on the table that the moves before it left.
-- So what is proved of lists of requests, as in crates/orders, holds of scripts.
use Prim.Native.Nat.{ℕ, zero, suc, ◌+◌, ◌≤◌, ◌<◌}
use native.Mathlib.Nat.{zero-add}
use native.Mathlib.Omega.{arith}
use mathlib.Core.Bool.{Bool, true, false, cond}
use mathlib.Core.List.{List, [], ◌∷◌, ◌++◌, append_assoc}
use mathlib.Core.Logic.{◌⊎◌, inl, inr}
use mathlib.Core.Path.{◌≡◌, refl, sym, subst, ap, ◌∙◌}
use lib.Dec.{T}
use lib.ListN.{length, get_or, take, drop, length-append}
use Rattle.definitions.specs.Answers.{Reply, accepted, refused, is_accepted, Seen, shown, quiet, MoveAnswer, test_at, answered}
use Rattle.definitions.specs.Chains.{pair_seen, pair_for, history_in, after_in, accepts_all_in, history, table_after, accepts_all}
use Rattle.definitions.specs.Forms.{Form, threads, request, note, bad, line_form, first_form, threads_first, request_in}
use Rattle.definitions.specs.Moves.{accepts_in, move_reply, move_table}
use Rattle.definitions.specs.PlainLock.{Pair}
use Rattle.definitions.specs.Run.{event_line, event_lines, steps_line, refused_line, Turn, stops, passes, makes, turn_for, turn_of, printed, printed_first, run_text, run_output_of}
use Rattle.definitions.specs.Scripts.{requests_in, threads_of, move_lines}
use Rattle.definitions.specs.Table.{count_fits, byte_table, fresh}
use Rattle.definitions.specs.Texts.{Line, lines_of}
use Rattle.definitions.specs.declared.Request.{Request}
use Rattle.runs.specs.Requests.{moves_from, moves_first, moves_of_lines, moves_of, no_line, first_turn, turn_at, GoesOn, Closes}
use Rattle.basics.proofs.Replies.{passed, failed, all-passed, no_test}
use Rattle.basics.proofs.Tests.{true-T, false-T, and_i}
use Rattle.theory.proofs.LineTurns.{first_printed, request_either}
use Rattle.runs.proofs.LastLine.{steps_once, steps_not_refused}

-- ---- events

-- the pair of an accepted move prints what is seen of it
pub pair_line : (thread : ℕ) (seen : Seen) (rest : List Pair) → event_lines (pair_seen thread seen ++ rest) ≡ event_line thread seen ++ event_lines rest
unfolding event_lines event_line
pair_line thread (shown event) rest = refl
pair_line thread quiet rest = refl

-- ---- one line

-- a line that is passed states no request, and one that makes a move states that move's request, which is accepted
abbrev Says : List ℕ → Form → Turn → Type 0
Says table f (stops number) = Unit {0}
Says table f passes = request_in f ≡ []
Says table f (makes r answer) = (move_reply table r ≡ accepted answer) × (request_in f ≡ r ∷ [])

form_says : (table : List ℕ) (f : Form) → Says table f (turn_of table f)
unfolding answered
form_says table (threads n) = tt
form_says table (request r) = request_either table r (Says table (request r)) (λ number place e. tt) (by (move_reply table r) refl)
  where
    by : (x : Reply MoveAnswer) → move_reply table r ≡ x → Says table (request r) (turn_for r x)
    by (accepted answer) e = (e, refl)
    by (refused number place) e = tt
form_says table note = refl
form_says table bad = tt

-- ---- the lines behind the first

-- what the line of index k does, on the table that the lines before it leave
abbrev turn_from : List ℕ → List Line → ℕ → Turn
turn_from table ls k = turn_of (table_after table (requests_in (take k ls))) (line_form (get_or ls k no_line))

abbrev GoesUpTo : List ℕ → List Line → ℕ → Type 0
GoesUpTo table ls bound = (k : ℕ) → k < bound → GoesOn (turn_from table ls k)

-- the run goes on behind the last line: it made all requests that the lines state, and prints their number
record Finishes (table : List ℕ) (steps : ℕ) (ls : List Line) (rs : List Request) (last : List ℕ) : Type 0 where
  goes_on : GoesUpTo table ls (length ls)
  made : rs ≡ requests_in ls
  says : last ≡ steps_line (steps + length rs)

-- the run stops at a line that is turned down: it made the requests of the lines before it, and prints the refusal that the line gets from the table that they left
record Stops (table : List ℕ) (line : ℕ) (ls : List Line) (rs : List Request) (last : List ℕ) : Type 0 where
  before : ℕ
  within : before < length ls
  goes_on : GoesUpTo table ls before
  number : ℕ
  turned : turn_from table ls before ≡ stops number
  made : rs ≡ requests_in (take before ls)
  says : last ≡ refused_line number (line + before)

abbrev Ends : List ℕ → ℕ → ℕ → List Line → List Request → List ℕ → Type 0
Ends table line steps ls rs last = Finishes table steps ls rs last ⊎ Stops table line ls rs last

-- the run from a line on: the moves rs that it makes, and its output
record FromLine (table : List ℕ) (line steps : ℕ) (ls : List Line) (rs : List Request) (output : List ℕ) : Type 0 where
  last : List ℕ
  prints : output ≡ event_lines (history table rs) ++ last
  accepted : T (accepts_all table rs)
  ending : Ends table line steps ls rs last

-- at a line turned down
stop_line : (table : List ℕ) (line steps : ℕ) (l : Line) (ls : List Line) (number : ℕ) → turn_of table (line_form l) ≡ stops number
    → FromLine table line steps (l ∷ ls) [] (refused_line number line)
unfolding history_in event_lines accepts_all_in requests_in after_in
stop_line table line steps l ls number e =
    record {
      last = refused_line number line;
      prints = refl;
      accepted = tt;
      ending =
          inr
          record {
            before = 0;
            within = omega arith;
            goes_on = λ k m. absurd (omega arith);
            number = number;
            turned = e;
            made = refl;
            says = ap (refused_line number) (omega arith);
          };
    }

-- at a line that goes on: it states qs, none or one, and the lines behind it find the table that this leaves
module _ (table after : List ℕ) (line steps more : ℕ) (l : Line) (ls : List Line) (qs : List Request) (states : request_in (line_form l) ≡ qs)
    (goes : GoesOn (turn_of table (line_form l))) (left : (xs : List Request) → table_after table (qs ++ xs) ≡ table_after after xs) (counts : more ≡ steps + length qs) where
  turn-later : (k : ℕ) → turn_from table (l ∷ ls) (suc k) ≡ turn_from after ls k
  unfolding requests_in
  turn-later k =
      let xs = requests_in (take k ls) in
      let form = line_form (get_or ls k no_line) in
      ap (λ (ys : List Request). turn_of (table_after table (ys ++ xs)) form) states ∙ ap (λ (b : List ℕ). turn_of b form) (left xs)

  goes_later : (bound : ℕ) → GoesUpTo after ls bound → GoesUpTo table (l ∷ ls) (suc bound)
  unfolding requests_in after_in
  goes_later bound h zero m = goes
  goes_later bound h (suc k) m = subst GoesOn (sym (turn-later k)) (h k (omega arith))

  stated : (rs : List Request) (k : ℕ) → rs ≡ requests_in (take k ls) → qs ++ rs ≡ request_in (line_form l) ++ requests_in (take k ls)
  stated rs k e = ap (λ (xs : List Request). qs ++ xs) e ∙ ap (λ (xs : List Request). xs ++ requests_in (take k ls)) (sym states)

  later : (rs : List Request) (last : List ℕ) → Ends after (suc line) more ls rs last → Ends table line steps (l ∷ ls) (qs ++ rs) last
  unfolding requests_in
  later rs last (inl f) =
      inl
      record {
        goes_on = goes_later (length ls) f.goes_on;
        made = ap (λ (xs : List Request). qs ++ xs) f.made ∙ ap (λ (xs : List Request). xs ++ requests_in ls) (sym states);
        says = f.says ∙ ap steps_line (omega (arith, length-append qs rs));
      }
  later rs last (inr d) =
      inr
      record {
        before = suc d.before;
        within = omega arith;
        goes_on = goes_later d.before d.goes_on;
        number = d.number;
        turned = turn-later d.before ∙ d.turned;
        made = stated rs d.before d.made;
        says = d.says ∙ ap (refused_line d.number) (omega arith);
      }

-- at a note
note_line : (table : List ℕ) (line steps : ℕ) (l : Line) (ls : List Line) (rs : List Request) (output : List ℕ) → turn_of table (line_form l) ≡ passes → request_in (line_form l) ≡ []
    → FromLine table (suc line) steps ls rs output → FromLine table line steps (l ∷ ls) rs output
note_line table line steps l ls rs output u e t =
    record {
      last = t.last;
      prints = t.prints;
      accepted = t.accepted;
      ending = later table table line steps steps l ls [] e (subst GoesOn (sym u) tt) (λ xs. refl) (omega arith) rs t.last t.ending;
    }

-- at a request that is accepted
move_line : (table : List ℕ) (line steps : ℕ) (l : Line) (ls : List Line) (r : Request) (answer : MoveAnswer) (rs : List Request) (output : List ℕ)
    → turn_of table (line_form l) ≡ makes r answer → move_reply table r ≡ accepted answer → request_in (line_form l) ≡ r ∷ []
    → FromLine (move_table table r) (suc line) (suc steps) ls rs output → FromLine table line steps (l ∷ ls) (r ∷ rs) (event_line r.thread answer.seen ++ output)
unfolding history_in accepts_all_in after_in
move_line table line steps l ls r answer rs output u a e t =
    let here = event_line r.thread answer.seen in
    let rest = history (move_table table r) rs in
    let shows : event_lines (pair_for r.thread (move_reply table r) ++ rest) ≡ here ++ event_lines rest =
    ap (λ (x : Reply MoveAnswer). event_lines (pair_for r.thread x ++ rest)) a ∙ pair_line r.thread answer.seen rest in
    record {
      last = t.last;
      prints =
          ap (λ (xs : List ℕ). here ++ xs) t.prints
          ∙ (sym (append_assoc here (event_lines rest) t.last) ∙ ap (λ (xs : List ℕ). xs ++ t.last) (sym shows));
      accepted = and_i (accepts_in byte_table table r) (accepts_all (move_table table r) rs) (subst (λ (x : Reply MoveAnswer). T (is_accepted x)) (sym a) tt) t.accepted;
      ending = later table (move_table table r) line steps (suc steps) l ls (r ∷ []) e (subst GoesOn (sym u) tt) (λ xs. refl) (omega arith) rs t.last t.ending;
    }

from_line : (table : List ℕ) (line steps : ℕ) (ls : List Line) → FromLine table line steps ls (moves_from table ls) (printed table line steps ls)
unfolding printed moves_from history_in event_lines accepts_all_in requests_in
from_line table line steps [] =
    record {
      last = steps_line steps;
      prints = refl;
      accepted = tt;
      ending = inl record { goes_on = λ k m. absurd (omega arith); made = refl; says = ap steps_line (omega arith) };
    }
from_line table line steps (l ∷ ls) =
    by (turn_of table (line_form l)) refl (form_says table (line_form l)) (from_line table (suc line) steps ls) (λ after. from_line after (suc line) (suc steps) ls)
  where
    by : (u : Turn) → turn_of table (line_form l) ≡ u → Says table (line_form l) u
        → FromLine table (suc line) steps ls (moves_from table ls) (printed table (suc line) steps ls)
        → ((after : List ℕ) → FromLine after (suc line) (suc steps) ls (moves_from after ls) (printed after (suc line) (suc steps) ls))
        → FromLine table line steps (l ∷ ls)
        (elim u [
          | stops number ↦ []
          | passes ↦ moves_from table ls
          | makes r answer ↦ r ∷ moves_from (move_table table r) ls
        ])
        (elim u [
          | stops number ↦ refused_line number line
          | passes ↦ printed table (suc line) steps ls
          | makes r answer ↦ event_line r.thread answer.seen ++ printed (move_table table r) (suc line) (suc steps) ls
        ])
    by (stops number) e s same next = stop_line table line steps l ls number e
    by passes e s same next = note_line table line steps l ls (moves_from table ls) (printed table (suc line) steps ls) e s same
    by (makes r answer) e s same next =
        move_line table line steps l ls r answer (moves_from (move_table table r) ls) (printed (move_table table r) (suc line) (suc steps) ls) e s.0 s.1 (next (move_table table r))

-- ---- the whole run

-- a run whose first line has a form, over the lines behind it: the moves rs that it makes, and its output
pub record WholeRun (first : Form) (ls : List Line) (rs : List Request) (output : List ℕ) : Type 0 where
  pub last : List ℕ
  pub prints : output ≡ event_lines (history (fresh (threads_first first)) rs) ++ last
  pub accepted : T (accepts_all (fresh (threads_first first)) rs)
  pub ending : Closes first ls rs last

-- it ends at its first line
not-started : (first : Form) (ls : List Line) (number : ℕ) → turn_at first ls 0 ≡ stops number → WholeRun first ls [] (refused_line number 1)
unfolding history_in event_lines accepts_all_in
not-started first ls number e =
    record {
      last = refused_line number 1;
      prints = refl;
      accepted = tt;
      ending =
          inr
          record { index = 0; within = omega arith; goes_on = λ k m. absurd (omega arith); number = number; turned = e; made = refl; says = refl };
    }

-- it starts, with N threads
module _ (n : ℕ) (ls : List Line) (fits : T (count_fits n)) where
  first_goes : GoesOn (turn_at (threads n) ls 0)
  unfolding turn_at
  first_goes = subst (λ (x : Reply ℕ). GoesOn (first_turn x)) (sym (passed (test_at 1 1 (count_fits n)) [] n fits ∙ all-passed n [] no_test)) tt

  all_go : (bound : ℕ) → GoesUpTo (fresh n) ls bound → (k : ℕ) → k ≤ bound → GoesOn (turn_at (threads n) ls k)
  unfolding turn_at
  all_go bound h zero m = first_goes
  all_go bound h (suc k) m = h k (omega arith)

  closes : (rs : List Request) (last : List ℕ) → Ends (fresh n) 2 0 ls rs last → Closes (threads n) ls rs last
  unfolding turn_at
  closes rs last (inl f) =
      inl record { goes_on = all_go (length ls) f.goes_on; made = f.made; says = f.says ∙ ap steps_line (zero-add (length rs)) }
  closes rs last (inr d) =
      inr
      record {
        index = suc d.before;
        within = omega arith;
        goes_on = λ k m. all_go d.before d.goes_on k (omega arith);
        number = d.number;
        turned = d.turned;
        made = d.made;
        says = d.says ∙ ap (refused_line d.number) (omega arith);
      }

first_run : (f : Form) (ls : List Line) → WholeRun f ls (moves_first f ls) (printed_first f ls)
unfolding printed_first answered turn_at
first_run (threads n) ls = subst (WholeRun (threads n) ls (moves_first (threads n) ls)) (sym (first_printed n ls)) (by (count_fits n) refl)
  where
    by : (b : Bool) → count_fits n ≡ b → WholeRun (threads n) ls (cond b (moves_from (fresh n) ls) []) (cond b (printed (fresh n) 2 0 ls) (refused_line 1 1))
    by true e =
        let t = from_line (fresh n) 2 0 ls in
        record { last = t.last; prints = t.prints; accepted = t.accepted; ending = closes n ls (true-T (count_fits n) e) (moves_from (fresh n) ls) t.last t.ending }
    by false e = not-started (threads n) ls 1 (ap first_turn (failed (test_at 1 1 (count_fits n)) [] n (false-T (count_fits n) e)))
first_run (request r) ls = not-started (request r) ls 8 refl
first_run note ls = not-started note ls 8 refl
first_run bad ls = not-started bad ls 8 refl

lines-run : (ls : List Line) → WholeRun (first_form ls) (drop 1 ls) (moves_of_lines ls) (run_text ls)
unfolding run_text
lines-run ls = first_run (first_form ls) (drop 1 ls)

-- every script's run
abbrev first_of : List ℕ → Form
first_of script = first_form (lines_of script)

pub whole_run : (script : List ℕ) → WholeRun (first_of script) (move_lines script) (moves_of script) (run_output_of script)
whole_run script = lines-run (lines_of script)

-- every move is accepted in turn from the fresh table
pub all-accepted : (script : List ℕ) → T (accepts_all (fresh (threads_of script)) (moves_of script))
all-accepted script = (whole_run script).accepted

-- the output is the history of the moves, a line an event, and then one line
pub events-printed : (script : List ℕ)
    → (last : List ℕ)
    × (run_output_of script ≡ event_lines (history (fresh (threads_of script)) (moves_of script)) ++ last)
    × Closes (first_form (lines_of script)) (move_lines script) (moves_of script) last
events-printed script = let r = whole_run script in (r.last, r.prints, r.ending)

-- "then `(steps K)`, K being the moves made": an output that ends in a steps line has the number of the moves, and they are all that the script states
pub steps_counted : (script before : List ℕ) (k : ℕ) → run_output_of script ≡ before ++ steps_line k → (k ≡ length (moves_of script)) × (moves_of script ≡ requests_in (move_lines script))
steps_counted script before k e = by r.ending
  where
    r : WholeRun (first_of script) (move_lines script) (moves_of script) (run_output_of script)
    r = whole_run script

    events : List ℕ
    events = event_lines (history (fresh (threads_of script)) (moves_of script))

    ends_in : (line : List ℕ) → r.last ≡ line → before ++ steps_line k ≡ events ++ line
    ends_in line z = sym e ∙ (r.prints ∙ ap (λ (xs : List ℕ). events ++ xs) z)

    by : Closes (first_of script) (move_lines script) (moves_of script) r.last → (k ≡ length (moves_of script)) × (moves_of script ≡ requests_in (move_lines script))
    by (inl a) = (steps_once before events k _ (ends_in _ a.says), a.made)
    by (inr d) = absurd (steps_not_refused before events k d.number (suc d.index) (ends_in _ d.says))
