-- Every order: what requests show is permitted by the plain lock, and what is permitted is shown by requests, which the plan gives; what the check and the plan entry answer.
use Rattle.std.specs.Prelude.{ℕ, ◌*◌, ◌≤◌, List, ◌++◌, ◌↔◌, ◌≡◌, T, length, take, drop}
use Rattle.definitions.specs.Answers.{accepted, refused, filled, delivery_reply, delivery_output}
use Rattle.definitions.specs.Bounds.{most_threads}
use Rattle.definitions.specs.Chains.{history, table_after, requests_of}
use Rattle.definitions.specs.PlainLock.{Pair, pairs_of, places_after, permitted, check_reply}
use Rattle.definitions.specs.Plan.{plan, bytes_of, plan_entry}
use Rattle.definitions.specs.Scripts.{threads_of}
use Rattle.definitions.specs.Table.{table_of, fresh}
use Rattle.definitions.specs.declared.Request.{Request}
use Rattle.basics.specs.Outputs.{Delivered}
use Rattle.plain_lock.specs.Permitted.{permitted_from}
use Rattle.runs.specs.Requests.{moves_of}
use Rattle.theory.specs.Tables.{SoundBytes}
use Rattle.orders.specs.Histories.{most_events, history_bytes, AllBytes, Passes, FirstBad, Makes}
use Rattle.orders.specs.Rounds.{places_of}

pub record EveryOrder : Type 0 where
  -- What requests show is permitted, refused ones among them; every permitted history is shown by requests of 16 bits that are all accepted, and only such; the plan is such a list.
  pub safe : (n : ℕ) → 1 ≤ n → n ≤ most_threads → (rs : List Request) → T (permitted n (history (fresh n) rs))
  pub exact : (n : ℕ) → 1 ≤ n → n ≤ most_threads → (h : List Pair) → T (permitted n h) ↔ ((rs : List Request) × Makes n rs h)
  pub planned : (n : ℕ) → 1 ≤ n → n ≤ most_threads → (h : List Pair) → T (permitted n h) → Makes n (plan n h) h
  -- From any sound table, as one that a host restarts with: what requests show is permitted at the places that its nodes give, and leads to the places of the table left.
  pub safe-from : (table : List ℕ) → SoundBytes table → (rs : List Request)
      → T (permitted_from (table_of table).threads (places_of (table_of table)) (history table rs))
      × (places_after (places_of (table_of table)) (history table rs) ≡ places_of (table_of (table_after table rs)))
  -- The check answers the number of events of what is permitted, and else the first bad pair with the first test that it fails.
  pub checked : (n : ℕ) (bytes : List ℕ) (events : ℕ) → (check_reply n bytes ≡ accepted events) ↔ Passes n bytes events
  pub checked-count : (n : ℕ) (bytes : List ℕ) (events : ℕ) → Passes n bytes events → (length (pairs_of bytes) ≡ events) × (events ≤ most_events)
  pub checked-bad : (n : ℕ) (bytes : List ℕ) (number place : ℕ) → check_reply n bytes ≡ refused number place → 9 ≤ number
      → FirstBad n (pairs_of bytes) number place
  -- Where the check passes and the output has room, the plan entry answers the plan's number of moves and writes three bytes a move.
  pub plan-entry : (n : ℕ) (bytes out : List ℕ) (events : ℕ) → check_reply n bytes ≡ accepted events → length (bytes_of (plan n (pairs_of bytes))) ≤ length out
      → let moves = plan n (pairs_of bytes) in Delivered (plan_entry n bytes) out (bytes_of moves ++ drop (3 * length moves) out) (accepted (length moves))
  -- Whenever the plan entry answers a number of moves, the triples that it wrote are that many requests, all accepted, and show the history.
  pub plan_run : (n : ℕ) (bytes out : List ℕ) (moves : ℕ) → delivery_reply (plan_entry n bytes) out ≡ accepted moves
      → let written = requests_of (take (3 * moves) (delivery_output (plan_entry n bytes) out)) in
      (length written ≡ moves) × Makes n written (pairs_of bytes)
  -- Every permitted history of at most 30,000 pairs is that of some bytes that the check passes and the plan entry, with room, plans.
  pub history-bytes : (n : ℕ) → 1 ≤ n → n ≤ most_threads → (h : List Pair) → T (permitted n h) → length h ≤ most_events
      → AllBytes (history_bytes h) × (check_reply n (history_bytes h) ≡ accepted (length h))
  pub history-planned : (n : ℕ) → 1 ≤ n → n ≤ most_threads → (h : List Pair) → T (permitted n h) → length h ≤ most_events
      → (out : List ℕ) → length (bytes_of (plan n h)) ≤ length out
      → Delivered (plan_entry n (history_bytes h)) out (filled out (bytes_of (plan n h))) (accepted (length (plan n h)))
  -- The events that a run prints are a permitted history, that of the moves that it made.
  pub run-permitted : (script : List ℕ) → T (permitted (threads_of script) (history (fresh (threads_of script)) (moves_of script)))
