-- A plan, written as a script and run, prints exactly the events of its history: plan, then write, then run, in one theorem, for every permitted history whose script fits (`plan-write-run`).
-- That such a plan can be written is `plan_writable`; what the run of any script that was written of a plan prints is `written_plan_run`.
-- Shown of every list of requests that are all accepted from the fresh table: the run of its script makes them all (`run_written`), and counts the retries among them (`retries_written`).
use Prim.Native.Nat.{ℕ, suc, ◌+◌, ◌*◌, ◌≤◌}
use native.Mathlib.Nat.{zero-add}
use native.Mathlib.Omega.{arith}
use mathlib.Core.Bool.{cond}
use mathlib.Core.List.{List, [], ◌∷◌, ◌++◌, append_assoc}
use mathlib.Core.Path.{◌≡◌, refl, sym, subst, ap, ◌∙◌}
use lib.Dec.{T, leb, le→leb}
use lib.ListN.{length, take}
use Rattle.definitions.specs.Answers.{Reply, accepted, MoveAnswer, filled, delivery_reply, delivery_output}
use Rattle.definitions.specs.Bounds.{most_threads, most_script, enough_output}
use Rattle.definitions.specs.Chains.{pair_for, retry_for, history_in, retries_in, accepts_all_in, history, retries, accepts_all, requests_of}
use Rattle.definitions.specs.Forms.{Form, spelled, line_form}
use Rattle.definitions.specs.Moves.{effect, is_retry, move_answer, reply_in, accepts_in, move_table}
use Rattle.definitions.specs.PlainLock.{Pair, pairs_of, check_reply}
use Rattle.definitions.specs.Plan.{plan, bytes_of, plan_entry}
use Rattle.definitions.specs.Run.{event_line, event_lines, steps_line, refused_line, makes, turn_for, turn_of, printed, printed_first, run_text, run_output_of, retries_from, retries_first, run_retries, run_entry}
use Rattle.definitions.specs.Scripts.{script_of, write_entry}
use Rattle.definitions.specs.Table.{count_fits, fresh_table, table_of, byte_table, fresh}
use Rattle.definitions.specs.Texts.{Line, lines_of}
use Rattle.definitions.specs.declared.Request.{Request}
use Rattle.basics.specs.Outputs.{Delivered}
use Rattle.round_trips.specs.Exchange.{Writable}
use Rattle.basics.proofs.Outputs.{whole, delivered_as, answered_so, text_first}
use Rattle.basics.proofs.Tests.{and_l, and_r, and_i, cond_yes}
use Rattle.theory.proofs.Chains.{accepts-fresh, accepted-numbers, all-numbers}
use Rattle.orders.proofs.CheckReply.{passes_i}
use Rattle.orders.proofs.EveryOrder.{checked, planned, plan_run}
use Rattle.progress.proofs.PlanRetries.{plan-retries}
use Rattle.runs.proofs.StepsAndEvents.{pair_line}
use Rattle.runs.proofs.Suffices.{never_refused}
use Rattle.theory.proofs.Bytes.{sized_e}
use Rattle.theory.proofs.LineTurns.{first_printed, first_retries, request-turn}
use Rattle.theory.proofs.SoundKept.{accepted-sound}
use Rattle.theory.proofs.Storages.{accepts_e, accepted-reply}
use Rattle.theory.proofs.Ways.{accepted_e}
use Rattle.theory.proofs.Triples.{bytes_read}
use Rattle.round_trips.proofs.WrittenLines.{line_of, lines_for, script_lines, writable_e, bytes_writable, count-read, move_read}

-- The plan for a history that the check passes can be written, if its script isn't too long.
pub plan_writable : (n : ℕ) (bytes : List ℕ) (events : ℕ) → check_reply n bytes ≡ accepted events → length (script_of n (plan n (pairs_of bytes))) ≤ most_script
    → Writable n (bytes_of (plan n (pairs_of bytes)))
plan_writable n bytes events e short =
    let p = (checked n bytes events).0 e in
    let rs = plan n (pairs_of bytes) in
    let m = planned n p.least p.most (pairs_of bytes) p.allowed in
    bytes_writable n rs (and_i (leb 1 n) (leb n most_threads) (le→leb 1 n p.least) (le→leb n most_threads p.most))
    (all-numbers (fresh_table n) rs (subst T (accepts-fresh n p.least p.most rs) m.accepted)) short

-- ---- the run of requests that are all accepted

-- a line that makes a move
printed-move : (table : List ℕ) (line steps : ℕ) (l : Line) (ls : List Line) (r : Request) (answer : MoveAnswer) → turn_of table (line_form l) ≡ makes r answer
    → printed table line steps (l ∷ ls) ≡ event_line r.thread answer.seen ++ printed (move_table table r) (suc line) (suc steps) ls
unfolding printed
printed-move table line steps l ls r answer e = rw (e, printed)

-- the line of an accepted request does
turn-made : (table : List ℕ) (r : Request) → T (accepts_in byte_table table r) → turn_of table (line_form (line_of (spelled r))) ≡ makes r (move_answer (table_of table) r)
turn-made table r t =
    let a = accepts_e byte_table table r t in
    ap (turn_of table) (move_read (table_of table).threads r (sized_e table a.0).most (accepted-numbers (table_of table) r (accepted_e (table_of table) r a.1)))
    ∙ (request-turn table r (accepted-sound table r t).0 ∙ ap (turn_for r) (accepted-reply byte_table table r t))

printed-all : (table : List ℕ) (line steps : ℕ) (rs : List Request) → T (accepts_all table rs)
    → printed table line steps (lines_for rs) ≡ event_lines (history table rs) ++ steps_line (steps + length rs)
unfolding accepts_all_in history_in event_lines printed
printed-all table line steps [] a = ap steps_line (omega arith)
printed-all table line steps (r ∷ rs) a =
    let t = and_l (accepts_in byte_table table r) (accepts_all (move_table table r) rs) a in
    let seen = (effect (table_of table) r).shows in
    let here = event_line r.thread seen in
    let rest = history (move_table table r) rs in
    let shows : event_lines (pair_for r.thread (reply_in byte_table table r) ++ rest) ≡ here ++ event_lines rest =
    ap (λ (x : Reply MoveAnswer). event_lines (pair_for r.thread x ++ rest)) (accepted-reply byte_table table r t) ∙ pair_line r.thread seen rest in
    let last : suc steps + length rs ≡ steps + suc (length rs) = omega arith in
    printed-move table line steps (line_of (spelled r)) (lines_for rs) r (move_answer (table_of table) r) (turn-made table r t)
    ∙ (ap (λ (xs : List ℕ). here ++ xs) (printed-all (move_table table r) (suc line) (suc steps) rs (and_r (accepts_in byte_table table r) (accepts_all (move_table table r) rs) a))
    ∙ rw (shows, append_assoc here (event_lines rest), last))

-- The script of requests that are all accepted from the fresh table prints, when it is run, the history that they show, and their number.
pub run_written : (n : ℕ) (rs : List Request) → T (count_fits n) → T (accepts_all (fresh n) rs)
    → run_output_of (script_of n rs) ≡ event_lines (history (fresh n) rs) ++ steps_line (length rs)
unfolding run_text
run_written n rs c a =
    ap run_text (script_lines n rs)
    ∙ (ap (λ (f : Form). printed_first f (lines_for rs)) (count-read n c)
    ∙ (first_printed n (lines_for rs)
    ∙ (cond_yes (count_fits n) (printed (fresh n) 2 0 (lines_for rs)) (refused_line 1 1) c
    ∙ (printed-all (fresh n) 2 0 rs a ∙ ap (λ (k : ℕ). event_lines (history (fresh n) rs) ++ steps_line k) (zero-add (length rs))))))

-- ---- the retries of such a run

-- a line that makes a move
counted-move : (table : List ℕ) (l : Line) (ls : List Line) (r : Request) (answer : MoveAnswer) → turn_of table (line_form l) ≡ makes r answer
    → retries_from table (l ∷ ls) ≡ cond answer.retry 1 0 + retries_from (move_table table r) ls
unfolding retries_from
counted-move table l ls r answer e = rw (e, retries_from)

counted-all : (table : List ℕ) (rs : List Request) → T (accepts_all table rs) → retries_from table (lines_for rs) ≡ retries table rs
unfolding accepts_all_in retries_in retries_from
counted-all table [] a = refl
counted-all table (r ∷ rs) a =
    let t = and_l (accepts_in byte_table table r) (accepts_all (move_table table r) rs) a in
    let here : ◌≡◌ {A = ℕ} (retry_for (reply_in byte_table table r)) (cond (is_retry (table_of table) r) 1 0) = ap retry_for (accepted-reply byte_table table r t) in
    let rest = counted-all (move_table table r) rs (and_r (accepts_in byte_table table r) (accepts_all (move_table table r) rs) a) in
    omega (arith, counted-move table (line_of (spelled r)) (lines_for rs) r (move_answer (table_of table) r) (turn-made table r t))

-- The run of their script counts the retries among them.
pub retries_written : (n : ℕ) (rs : List Request) → T (count_fits n) → T (accepts_all (fresh n) rs) → run_retries (lines_of (script_of n rs)) ≡ retries (fresh n) rs
unfolding run_retries
retries_written n rs c a =
    ap run_retries (script_lines n rs)
    ∙ (ap (λ (f : Form). retries_first f (lines_for rs)) (count-read n c)
    ∙ (first_retries n (lines_for rs) ∙ (cond_yes (count_fits n) (retries_from (fresh n) (lines_for rs)) 0 c ∙ counted-all (fresh n) rs a)))

-- Whatever plan and whatever script of it the entries accept, the run of that script, lent 65,536 bytes, prints the events of the history, and the plan's number of moves.
pub written_plan_run : (n : ℕ) (bytes plan-out script-out run_out : List ℕ) (moves size : ℕ) → delivery_reply (plan_entry n bytes) plan-out ≡ accepted moves
    → let triples = take (3 * moves) (delivery_output (plan_entry n bytes) plan-out) in
    delivery_reply (write_entry n triples) script-out ≡ accepted size → enough_output ≤ length run_out
    → let script = take size (delivery_output (write_entry n triples) script-out) in
    let text = event_lines (pairs_of bytes) ++ steps_line moves in
    Delivered (run_entry script) run_out (filled run_out text) (accepted (record { bytes = length text; retries = run_retries (lines_of script) }))
written_plan_run n bytes plan-out script-out run_out moves size p w room =
    let triples = take (3 * moves) (delivery_output (plan_entry n bytes) plan-out) in
    let rs = requests_of triples in
    let made = plan_run n bytes plan-out moves p in
    let s = answered_so (write_entry n triples) script-out size w in
    let f = writable_e n triples s.tested in
    let prints : event_lines (pairs_of bytes) ++ steps_line moves ≡ run_output_of (script_of n rs) =
    sym (run_written n rs f.count made.1.accepted
    ∙ (ap (λ (h : List Pair). event_lines h ++ steps_line (length rs)) made.1.shows ∙ ap (λ (k : ℕ). event_lines (pairs_of bytes) ++ steps_line k) made.0)) in
    rw (text_first (write_entry n triples) script-out size size w s.answer)
    (delivered_as (never_refused (script_of n rs) run_out f.short room) (ap (filled run_out) prints)
    (ap (λ (xs : List ℕ). accepted (record { bytes = length xs; retries = run_retries (lines_of (script_of n rs)) })) prints))

-- For every history that the check passes and whose script isn't too long, with room in the three outputs:
-- the plan entry leaves the plan's triples, the writing entry their script, and the run prints the events of the history, without a retry.
pub plan-write-run : (n : ℕ) (bytes plan-out script-out run_out : List ℕ) (events : ℕ) → check_reply n bytes ≡ accepted events
    → let moves = plan n (pairs_of bytes) in
    let script = script_of n moves in
    let text = event_lines (pairs_of bytes) ++ steps_line (length moves) in
    length script ≤ most_script → length (bytes_of moves) ≤ length plan-out → length script ≤ length script-out → enough_output ≤ length run_out
    → Delivered (plan_entry n bytes) plan-out (filled plan-out (bytes_of moves)) (accepted (length moves))
    × Delivered (write_entry n (bytes_of moves)) script-out (filled script-out script) (accepted (length script))
    × Delivered (run_entry script) run_out (filled run_out text) (accepted (record { bytes = length text; retries = 0 }))
plan-write-run n bytes plan-out script-out run_out events e short plan-room script-room run_room =
    let moves = plan n (pairs_of bytes) in
    let p = (checked n bytes events).0 e in
    let made = planned n p.least p.most (pairs_of bytes) p.allowed in
    let w = plan_writable n bytes events e short in
    let same = ap (script_of n) (bytes_read moves) in
    let prints : event_lines (pairs_of bytes) ++ steps_line (length moves) ≡ run_output_of (script_of n moves) =
    sym (run_written n moves (writable_e n (bytes_of moves) w).count made.accepted ∙ ap (λ (h : List Pair). event_lines h ++ steps_line (length moves)) made.shows) in
    let none : run_retries (lines_of (script_of n moves)) ≡ 0 =
    retries_written n moves (writable_e n (bytes_of moves) w).count made.accepted ∙ plan-retries n p.least p.most (pairs_of bytes) p.allowed in (
      whole (plan_entry n bytes) plan-out (passes_i n bytes events p) plan-room,
      delivered_as (whole (write_entry n (bytes_of moves)) script-out w (rw same script-room)) (ap (filled script-out) (sym same)) (ap (λ (xs : List ℕ). accepted (length xs)) (sym same)),
      delivered_as (never_refused (script_of n moves) run_out short run_room) (ap (filled run_out) prints)
          (ap accepted (λ i. record { bytes = length (prints i); retries = sym none i })),
    )
