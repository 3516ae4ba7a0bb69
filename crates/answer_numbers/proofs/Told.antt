-- The number that an entry answers tells its reply; where it accepts, the value has 32 bits, but for the retries. For all that an entry may be lent and asked.
use Prim.Native.Nat.{ℕ, ◌<◌}
use native.Mathlib.Omega.{arith}
use mathlib.Core.List.{List, Memᴰ}
use mathlib.Core.Logic.{inl, inr}
use mathlib.Core.Path.{◌≡◌, refl, sym, subst, ap, ◌∙◌}
use lib.Dec.{T}
use Rattle.definitions.specs.Answers.{Reply, accepted, is_accepted, Seen, MoveAnswer, delivery_reply}
use Rattle.definitions.specs.Chains.{retry_for}
use Rattle.definitions.specs.Dispatch.{mover_in, DispatchAnswer, made, waiting, turn_answer, turn_reply_in, dispatch_reply}
use Rattle.definitions.specs.Moves.{is_retry, move_answer, reply_in, move_reply}
use Rattle.definitions.specs.Nodes.{Arrow, arrows, Figure1}
use Rattle.definitions.specs.Run.{run_entry}
use Rattle.definitions.specs.Scripts.{read_entry}
use Rattle.definitions.specs.Table.{table_of, byte_table}
use Rattle.definitions.specs.Watch.{start_reply, event_reply, question_reply}
use Rattle.definitions.specs.declared.Request.{Request}
use Rattle.definitions.specs.declared.Watcher.{Watcher}
use Rattle.basics.proofs.Lists.{each_member}
use Rattle.basics.proofs.Replies.{accepted_is, all-passed}
use Rattle.basics.proofs.Tests.{cond_no}
use Rattle.dispatching.proofs.TurnIsMove.{turn_is_move}
use Rattle.theory.proofs.Figure1.{figure_on}
use Rattle.theory.proofs.Storages.{accepts_e, accepted-reply}
use Rattle.answer_numbers.specs.Calls.{CountCall, fresh-table, nodes, open_moves_call, check, plan-length, plan-bytes, write_script, count_reply, WatchCall, watch_start, watch_event, watch_reply}
use Rattle.answer_numbers.specs.Encoding.{retry_unit, seen_value, move_value, turn_value, count_value, watch_value, inside_value, listed_value, run_value, Below}
use Rattle.answer_numbers.specs.Encoding.{move_number, turn_number, run_number, count_number, watch_number, inside_number, read_number}
use Rattle.answer_numbers.proofs.Apart.{Fits, told, low, SeenFits, seen_low, TurnFits, bool_tells, listed-tells, run-tells, move-tells, turn-tells}
use Rattle.answer_numbers.proofs.Apart as apart
use Rattle.answer_numbers.proofs.Small.{Few, ListedFits, fits-answer, fresh_small, nodes_small, open_small, check_small, length_small, plan_small, write_small, read_small, run_small}

-- ---- the move

-- the events of Figure 1's arrows have codes from 1 to 8
arrow-fits : (a : Arrow) → Memᴰ a arrows → SeenFits a.shows
unfolding arrows
arrow-fits = each_member (λ a. SeenFits a.shows) arrows (omega arith)

figure_fits : (before : List ℕ) (i : ℕ) (seen : Seen) (after : List ℕ) → Figure1 before i seen after → SeenFits seen
figure_fits before i seen after (inl (same, q)) = subst SeenFits (sym q) tt
figure_fits before i seen after (inr (a, m, t)) = subst SeenFits (sym t.shows) (arrow-fits a m)

abbrev MoveFits : MoveAnswer → Type 0
MoveFits a = SeenFits a.seen

move-fits : (table : List ℕ) (r : Request) → Fits MoveFits (move_reply table r)
unfolding reply_in
move-fits table r =
    let s = table_of table in
    fits-answer MoveFits _ (move_answer s r) (omega arith)
    (λ p. figure_fits _ _ _ _ (figure_on s r (accepts_e byte_table table r (subst T (sym (accepted_is (move_answer s r) _)) p)).1))

pub move_told : (a b : List ℕ) (r q : Request) → move_number (move_reply a r) ≡ move_number (move_reply b q) → move_reply a r ≡ move_reply b q
move_told a b r q e = told MoveFits move_value move-tells (move_reply a r) (move_reply b q) (move-fits a r) (move-fits b q) e

pub move_low : (table : List ℕ) (r : Request) → Below retry_unit (λ x. seen_value x.seen) (move_reply table r)
move_low table r = low MoveFits (λ x. seen_value x.seen) retry_unit (λ a f. omega (arith, seen_low a.seen f)) (move_reply table r) (move-fits table r)

-- ---- the dispatcher

made-fits : (table : List ℕ) (d : DispatchAnswer) → dispatch_reply table ≡ accepted d → TurnFits d
made-fits table waiting e = tt
made-fits table (made r a) e =
    let m = (turn_is_move table r a e).turn in
    let n = m.numbers in
    let ok = subst (λ (x : Reply MoveAnswer). T (is_accepted x)) (sym m.reply) tt in
    record {
      thread = omega (arith, n);
      mv = omega (arith, n);
      target = omega (arith, n);
      seen = subst (Fits MoveFits) m.reply (move-fits table r);
      no_retry = ap retry_for (sym m.reply ∙ accepted-reply byte_table table r ok) ∙ cond_no (is_retry (table_of table) r) 1 0 m.no_retry;
    }

turn-fits : (table : List ℕ) → Fits TurnFits (dispatch_reply table)
unfolding turn_reply_in
turn-fits table =
    let turn = turn_answer mover_in (table_of table) in
    fits-answer TurnFits _ turn (omega arith) (λ p. made-fits table turn (all-passed turn _ p))

pub turn_told : (a b : List ℕ) → turn_number (dispatch_reply a) ≡ turn_number (dispatch_reply b) → dispatch_reply a ≡ dispatch_reply b
turn_told a b e = told TurnFits turn_value turn-tells (dispatch_reply a) (dispatch_reply b) (turn-fits a) (turn-fits b) e

pub turn_low : (table : List ℕ) → Below retry_unit turn_value (dispatch_reply table)
turn_low table = low TurnFits turn_value retry_unit apart.turn_low (dispatch_reply table) (turn-fits table)

-- ---- counts

count_fits_lem : (a : CountCall) → Fits Few (count_reply a)
count_fits_lem (fresh-table n out) = (fresh_small n out _ refl).1
count_fits_lem (nodes table out) = (nodes_small table out _ refl).1
count_fits_lem (open_moves_call table thread out) = (open_small table thread out _ refl).1
count_fits_lem (check n history) = (check_small n history _ refl).1
count_fits_lem (plan-length n history) = (length_small n history _ refl).1
count_fits_lem (plan-bytes n history out) = (plan_small n history out _ refl).1
count_fits_lem (write_script n triples out) = (write_small n triples out _ refl).1

pub count_told : (a b : CountCall) → count_number (count_reply a) ≡ count_number (count_reply b) → count_reply a ≡ count_reply b
count_told a b e = told Few count_value (λ m n f g d. d) (count_reply a) (count_reply b) (count_fits_lem a) (count_fits_lem b) e

pub count_low : (a : CountCall) → Below retry_unit count_value (count_reply a)
count_low a = low Few count_value retry_unit (λ k f. f) (count_reply a) (count_fits_lem a)

-- ---- the watcher

abbrev Any : {A : Type 0} → A → Type 0
Any a = Unit {0}

watch_fits : (a : WatchCall) → Fits Any (watch_reply a)
unfolding start_reply event_reply
watch_fits (watch_start n) = fits-answer Any _ tt (omega arith) (λ p. tt)
watch_fits (watch_event w x) = fits-answer Any _ tt (omega arith) (λ p. tt)

pub watch_told : (a b : WatchCall) → watch_number (watch_reply a) ≡ watch_number (watch_reply b) → watch_reply a ≡ watch_reply b
watch_told a b e = told Any watch_value (λ u v f g d. refl) (watch_reply a) (watch_reply b) (watch_fits a) (watch_fits b) e

question_fits : (w : Watcher) → Fits Any (question_reply w)
unfolding question_reply
question_fits w = fits-answer Any _ _ (omega arith) (λ p. tt)

pub inside_told : (v w : Watcher) → inside_number (question_reply v) ≡ inside_number (question_reply w) → question_reply v ≡ question_reply w
inside_told v w e = told Any inside_value (λ a b f g d. bool_tells a b d) (question_reply v) (question_reply w) (question_fits v) (question_fits w) e

-- ---- reading and the run

module _ (a b out back : List ℕ) where
  pub read_told : read_number (delivery_reply (read_entry a) out) ≡ read_number (delivery_reply (read_entry b) back) → delivery_reply (read_entry a) out ≡ delivery_reply (read_entry b) back
  read_told e =
      told ListedFits listed_value (λ x y f g d. listed-tells x y f.byte g.byte d) (delivery_reply (read_entry a) out) (delivery_reply (read_entry b) back)
      (read_small a out _ refl).1 (read_small b back _ refl).1 e

  pub run_told : run_number (delivery_reply (run_entry a) out) ≡ run_number (delivery_reply (run_entry b) back) → delivery_reply (run_entry a) out ≡ delivery_reply (run_entry b) back
  run_told e =
      told (λ c. c.bytes < retry_unit) run_value run-tells (delivery_reply (run_entry a) out) (delivery_reply (run_entry b) back) (run_small a out _ refl).1 (run_small b back _ refl).1 e

pub read_low : (script out : List ℕ) → Below retry_unit listed_value (delivery_reply (read_entry script) out)
read_low script out = low ListedFits listed_value retry_unit (λ l f. f.few) (delivery_reply (read_entry script) out) (read_small script out _ refl).1

-- its N has a byte
pub read_byte : (script out : List ℕ) → Below 256 (λ l. l.threads) (delivery_reply (read_entry script) out)
read_byte script out = low ListedFits (λ l. l.threads) 256 (λ l f. f.byte) (delivery_reply (read_entry script) out) (read_small script out _ refl).1

pub run_low : (script out : List ℕ) → Below retry_unit (λ c. c.bytes) (delivery_reply (run_entry script) out)
run_low script out = low (λ c. c.bytes < retry_unit) (λ c. c.bytes) retry_unit (λ c f. f) (delivery_reply (run_entry script) out) (run_small script out _ refl).1
