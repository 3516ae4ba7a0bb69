-- The calls of the entries that answer a count, and of a watcher's start and events: what each is lent and asked, and its reply.
use Rattle.std.specs.Prelude.{ℕ, List}
use Rattle.definitions.specs.Answers.{Reply, delivery_reply}
use Rattle.definitions.specs.Nodes.{nodes_entry}
use Rattle.definitions.specs.OpenMoves.{open_entry}
use Rattle.definitions.specs.PlainLock.{Pair, check_reply}
use Rattle.definitions.specs.Plan.{plan_entry, plan_length_reply}
use Rattle.definitions.specs.Scripts.{write_entry}
use Rattle.definitions.specs.Table.{fresh_entry}
use Rattle.definitions.specs.Watch.{start_reply, event_reply}
use Rattle.definitions.specs.declared.Watcher.{Watcher}
use Rattle.answer_numbers.specs.Encoding.{held}

pub data CountCall : Type 0 where
  fresh-table : (n : ℕ) (out : List ℕ) → CountCall
  nodes : (table out : List ℕ) → CountCall
  open_moves_call : (table : List ℕ) (thread : ℕ) (out : List ℕ) → CountCall
  check : (n : ℕ) (history : List ℕ) → CountCall
  plan-length : (n : ℕ) (history : List ℕ) → CountCall
  plan-bytes : (n : ℕ) (history out : List ℕ) → CountCall
  write_script : (n : ℕ) (triples out : List ℕ) → CountCall

abbrev pub count_reply : CountCall → Reply ℕ
count_reply (fresh-table n out) = delivery_reply (fresh_entry n) out
count_reply (nodes table out) = delivery_reply (nodes_entry table) out
count_reply (open_moves_call table thread out) = delivery_reply (open_entry table thread) out
count_reply (check n history) = check_reply n history
count_reply (plan-length n history) = plan_length_reply n history
count_reply (plan-bytes n history out) = delivery_reply (plan_entry n history) out
count_reply (write_script n triples out) = held (delivery_reply (write_entry n triples) out)

pub data WatchCall : Type 0 where
  watch_start : (n : ℕ) → WatchCall
  watch_event : (w : Watcher) (x : Pair) → WatchCall

abbrev pub watch_reply : WatchCall → Reply (Unit {0})
watch_reply (watch_start n) = start_reply n
watch_reply (watch_event w x) = event_reply w x
