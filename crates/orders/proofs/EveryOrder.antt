-- Demand 3, for every N of 1 to 200 and lists of any length: what requests to the move show is permitted (`safe`, `safe-from`), every permitted history is shown
-- by requests that are all accepted (`exact`), and the plan is such a list (`planned`, `plan-entry`, `plan_run`);
-- what the check answers (`checked`, `checked-count`, `checked-bad`, `from_list`); and what a run prints (`run-shown`).
-- `fresh`, `history`, `accepts_all`, `permitted`, `plan`, `check_reply` and `plan_entry` are the definitions that the promises of the fresh table, the move, the check and the plan cite;
-- `Makes`, `Passes`, `FirstBad` and `history_bytes` stand in specs/Histories. Here are the statements, each with a short proof from the other files of this folder.
use Prim.Native.Nat.{ℕ, ◌*◌, ◌≤◌}
use native.Mathlib.Omega.{arith}
use mathlib.Core.List.{List, [], ◌++◌}
use mathlib.Core.Logic.{◌↔◌}
use mathlib.Core.Path.{◌≡◌, sym, subst, ap, ◌∙◌}
use lib.Dec.{T, leb, leb→le}
use lib.ListN.{length, take, drop}
use Rattle.definitions.specs.Answers.{accepted, refused, filled, delivery_reply, delivery_output}
use Rattle.definitions.specs.Bounds.{most_threads}
use Rattle.definitions.specs.Chains.{history_in, history, table_after, requests_of}
use Rattle.definitions.specs.Forms.{Form, threads, request, note, bad, first_form, threads_first}
use Rattle.definitions.specs.Phases.{rows}
use Rattle.definitions.specs.PlainLock.{Pair, pairs_of, at_start, places_after, permitted, check_reply}
use Rattle.definitions.specs.Plan.{plan, bytes_of, plan_entry}
use Rattle.definitions.specs.Run.{event_lines, run_output_of}
use Rattle.definitions.specs.Scripts.{threads_of_lines, threads_of, move_lines}
use Rattle.definitions.specs.Table.{fresh_table, count_fits, table_of, byte_table, fresh}
use Rattle.definitions.specs.Texts.{Line, lines_of}
use Rattle.definitions.specs.Threads.{every}
use Rattle.definitions.specs.declared.Request.{Request}
use Rattle.runs.specs.Requests.{Closes, moves_from, moves_first, moves_of_lines, moves_of}
use Rattle.orders.specs.Histories.{most_events, history_bytes, AllBytes, Passes, FirstBad, Makes}
use Rattle.orders.specs.Rounds.{place_of, places_of}
use Rattle.plain_lock.specs.Permitted.{permitted_from}
use Rattle.plain_lock.proofs.PlainLaws.{permitted_is}
use Rattle.runs.proofs.StepsAndEvents.{events-printed}
use Rattle.theory.specs.Tables.{SoundBytes}
use Rattle.basics.proofs.Tests.{and_l, and_r, cond_either}
use Rattle.theory.proofs.Bytes.{byte_keeps}
use Rattle.theory.proofs.Lengths.{bytes-length}
use Rattle.theory.proofs.Stages.{fresh-fits}
use Rattle.theory.proofs.Storages.{history-same, after_same}
use Rattle.theory.proofs.Chains.{history-fresh, accepts-fresh, all_16}
use Rattle.orders.proofs.CheckReply.{passes_e, passes_count, passes_i, check-accepted, check-refused}
use Rattle.orders.proofs.EventPlans.{plan-fresh}
use Rattle.orders.proofs.HistoryBytes.{pairs-read, bytes-long, all-bytes}
use Rattle.orders.proofs.PlanEntry.{plan-reply, plan-output, plan-accepted, plan-read}
use Rattle.orders.proofs.Safety.{shown-permitted, shown_places}

-- ---- 1. Safe

-- Whatever requests are made to a fresh table, with any numbers, refused ones among them: what they show is permitted.
pub safe : (n : ℕ) → 1 ≤ n → n ≤ most_threads → (rs : List Request) → T (permitted n (history (fresh n) rs))
unfolding place_of rows
safe n least most rs =
    rw (permitted_is n (history (fresh n) rs), history-fresh n least most rs) (shown-permitted (fresh_table n) rs (fresh-fits n least))

-- The same from any table that is sound, as one that a host restarts with: at the places that its nodes give, what requests show is permitted, and leads to those of the table that is left.
pub safe-from : (table : List ℕ) → SoundBytes table → (rs : List Request)
    → T (permitted_from (table_of table).threads (places_of (table_of table)) (history table rs))
    × (places_after (places_of (table_of table)) (history table rs) ≡ places_of (table_of (table_after table rs)))
safe-from table g rs =
    let s = table_of table in
    rw (history-same byte_table byte_keeps table rs g.is_sized, after_same byte_table byte_keeps table rs g.is_sized) (shown-permitted s rs g.is_sound, shown_places s rs g.is_sound)

-- ---- 2. Planned

-- The plan for a permitted history is accepted throughout and shows exactly that history.
pub planned : (n : ℕ) → 1 ≤ n → n ≤ most_threads → (h : List Pair) → T (permitted n h) → Makes n (plan n h) h
planned n least most h t =
    let a = plan-fresh n h least (subst T (permitted_is n h) t) in
    record {
      numbers = all_16 (fresh_table n) (plan n h) most a.all-accepted;
      accepted = subst T (sym (accepts-fresh n least most (plan n h))) a.all-accepted;
      shows = history-fresh n least most (plan n h) ∙ a.shows;
    }

-- ---- 3. Exact

-- A history is permitted if and only if some requests, 16 bits each, are all accepted from the fresh table and show exactly it.
pub exact : (n : ℕ) → 1 ≤ n → n ≤ most_threads → (h : List Pair) → T (permitted n h) ↔ ((rs : List Request) × Makes n rs h)
exact n least most h = (
  λ t. (plan n h, planned n least most h t),
  λ made. subst (λ (k : List Pair). T (permitted n k)) made.1.shows (safe n least most made.0),
)

-- ---- 4. Checked

-- The check answers a number exactly for an N of 1 to 200 and at most 60,000 bytes that are permitted pairs.
pub checked : (n : ℕ) (bytes : List ℕ) (events : ℕ) → (check_reply n bytes ≡ accepted events) ↔ Passes n bytes events
checked = check-accepted

-- The number is that of the pairs, at most 30,000.
pub checked-count : (n : ℕ) (bytes : List ℕ) (events : ℕ) → Passes n bytes events → (length (pairs_of bytes) ≡ events) × (events ≤ most_events)
checked-count n bytes events p = (passes_count n bytes events p, omega arith)

-- A refusal by 9, 10 or 11 is that of the first bad pair: every pair before it passes its tests, and the number is that of the first test that it fails.
pub checked-bad : (n : ℕ) (bytes : List ℕ) (number place : ℕ) → check_reply n bytes ≡ refused number place → 9 ≤ number → FirstBad n (pairs_of bytes) number place
checked-bad = check-refused

-- ---- 5. The plan entry

-- Where the check passes and the output has room, the plan entry answers the plan's number of moves, and leaves the plan's bytes, three a move, followed by the rest of the output.
pub plan-entry : (n : ℕ) (bytes out : List ℕ) (events : ℕ) → check_reply n bytes ≡ accepted events → length (bytes_of (plan n (pairs_of bytes))) ≤ length out
    → (delivery_reply (plan_entry n bytes) out ≡ accepted (length (plan n (pairs_of bytes))))
    × (delivery_output (plan_entry n bytes) out ≡ bytes_of (plan n (pairs_of bytes)) ++ drop (3 * length (plan n (pairs_of bytes))) out)
plan-entry n bytes out events e room =
    let moves = plan n (pairs_of bytes) in
    let tested = passes_i n bytes events ((checked n bytes events).0 e) in (
      plan-reply n bytes out tested room,
      plan-output n bytes out tested room ∙ ap (λ (k : ℕ). bytes_of moves ++ drop k out) (bytes-length moves),
    )

-- Whenever the plan entry answers a number of moves, the triples that it wrote are that many requests, all accepted from the fresh table, and show the history that it was given.
pub plan_run : (n : ℕ) (bytes out : List ℕ) (moves : ℕ) → delivery_reply (plan_entry n bytes) out ≡ accepted moves
    → (length (requests_of (take (3 * moves) (delivery_output (plan_entry n bytes) out))) ≡ moves)
    × Makes n (requests_of (take (3 * moves) (delivery_output (plan_entry n bytes) out))) (pairs_of bytes)
plan_run n bytes out moves e =
    let a = plan-accepted n bytes out moves e in
    let p = passes_e n bytes a.0 in
    rw (plan-read n bytes out moves e) (a.2, planned n p.least p.most (pairs_of bytes) p.allowed)

-- ---- 6. From a list of pairs

-- Every permitted history of at most 30,000 pairs is that of some bytes, thread then event: the check answers its number of pairs, and the plan entry, with room, its plan.
pub from_list : (n : ℕ) → 1 ≤ n → n ≤ most_threads → (h : List Pair) → T (permitted n h) → length h ≤ most_events
    → AllBytes (history_bytes h)
    × (check_reply n (history_bytes h) ≡ accepted (length h))
    × ((out : List ℕ) → length (bytes_of (plan n h)) ≤ length out
    → (delivery_reply (plan_entry n (history_bytes h)) out ≡ accepted (length (plan n h)))
    × (delivery_output (plan_entry n (history_bytes h)) out ≡ filled out (bytes_of (plan n h))))
from_list n least most h t few =
    let read = pairs-read h in
    let long = bytes-long h in
    let p : Passes n (history_bytes h) (length h) = record { least = least; most = most; whole = long; short = omega arith; allowed = rw read t } in
    let tested = passes_i n (history_bytes h) (length h) p in (
      all-bytes n at_start h most (subst T (permitted_is n h) t),
      (checked n (history_bytes h) (length h)).1 p,
      λ out room. (
        plan-reply n (history_bytes h) out tested (rw read room) ∙ ap (λ (k : List Pair). accepted (length (plan n k))) read,
        plan-output n (history_bytes h) out tested (rw read room) ∙ ap (λ (k : List Pair). filled out (bytes_of (plan n k))) read,
      ),
    )

-- ---- 7. The run

nothing-shown : (n : ℕ) → T (permitted n (history (fresh n) []))
unfolding permitted history_in every
nothing-shown n = tt

first_shown : (f : Form) (ls : List Line) → T (permitted (threads_first f) (history (fresh (threads_first f)) (moves_first f ls)))
first_shown (threads n) ls =
    cond_either (λ (rs : List Request). T (permitted n (history (fresh n) rs))) (count_fits n) (moves_from (fresh n) ls) []
    (λ t. safe n (leb→le 1 n (and_l (leb 1 n) (leb n most_threads) t)) (leb→le n most_threads (and_r (leb 1 n) (leb n most_threads) t)) (moves_from (fresh n) ls))
    (λ t. nothing-shown n)
first_shown (request r) ls = nothing-shown 0
first_shown note ls = nothing-shown 0
first_shown bad ls = nothing-shown 0

lines-shown : (ls : List Line) → T (permitted (threads_of_lines ls) (history (fresh (threads_of_lines ls)) (moves_of_lines ls)))
lines-shown ls = first_shown (first_form ls) (drop 1 ls)

-- The events that the run of a script prints, whatever the script is, are a permitted history; what is printed besides is one last line, which says how the run ended.
pub run-shown : (script : List ℕ)
    → T (permitted (threads_of script) (history (fresh (threads_of script)) (moves_of script)))
    × ((last : List ℕ)
    × (run_output_of script ≡ event_lines (history (fresh (threads_of script)) (moves_of script)) ++ last)
    × Closes (first_form (lines_of script)) (move_lines script) (moves_of script) last)
run-shown script = (lines-shown (lines_of script), events-printed script)
