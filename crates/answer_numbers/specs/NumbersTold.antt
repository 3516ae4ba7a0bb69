-- The numbers tell the replies: where two calls of an entry answer the same number, their replies are the same. The values that are answered are small.
use Rattle.std.specs.Prelude.{ℕ, ◌*◌, ◌≤◌, List, ◌≡◌, length}
use Rattle.definitions.specs.Answers.{delivery_reply}
use Rattle.definitions.specs.Dispatch.{dispatch_reply}
use Rattle.definitions.specs.Moves.{move_reply}
use Rattle.definitions.specs.Run.{run_entry}
use Rattle.definitions.specs.Scripts.{write_entry, read_entry}
use Rattle.definitions.specs.Watch.{question_reply}
use Rattle.definitions.specs.declared.Request.{Request}
use Rattle.definitions.specs.declared.Watcher.{Watcher}
use Rattle.answer_numbers.specs.Calls.{CountCall, count_reply, WatchCall, watch_reply}
use Rattle.answer_numbers.specs.Encoding.{retry_unit, seen_value, turn_value, count_value, listed_value, Below, value_bound, held}
use Rattle.answer_numbers.specs.Encoding.{move_number, turn_number, run_number, count_number, watch_number, inside_number, read_number}

pub record NumbersTold : Type 0 where
  -- The number that an entry answers tells its reply, whatever it was lent and asked. `CountCall` lists the calls of the entries that answer a count, writing's among them, and `WatchCall` those of
  -- a watcher's start and events: of two calls of one list the same number is the same reply.
  pub move_told : (a b : List ℕ) (r q : Request) → move_number (move_reply a r) ≡ move_number (move_reply b q) → move_reply a r ≡ move_reply b q
  pub turn_told : (a b : List ℕ) → turn_number (dispatch_reply a) ≡ turn_number (dispatch_reply b) → dispatch_reply a ≡ dispatch_reply b
  pub count_told : (a b : CountCall) → count_number (count_reply a) ≡ count_number (count_reply b) → count_reply a ≡ count_reply b
  pub watch_told : (a b : WatchCall) → watch_number (watch_reply a) ≡ watch_number (watch_reply b) → watch_reply a ≡ watch_reply b
  pub inside_told : (v w : Watcher) → inside_number (question_reply v) ≡ inside_number (question_reply w) → question_reply v ≡ question_reply w
  pub read_told : (a b out back : List ℕ) → read_number (delivery_reply (read_entry a) out) ≡ read_number (delivery_reply (read_entry b) back)
      → delivery_reply (read_entry a) out ≡ delivery_reply (read_entry b) back
  pub run_told : (a b out back : List ℕ) → run_number (delivery_reply (run_entry a) out) ≡ run_number (delivery_reply (run_entry b) back)
      → delivery_reply (run_entry a) out ≡ delivery_reply (run_entry b) back
  -- Where an entry accepts, its value has 32 bits, but for the retries, which stand above them. The N that reading answers has a byte.
  pub move_low : (table : List ℕ) (r : Request) → Below retry_unit (λ a. seen_value a.seen) (move_reply table r)
  pub turn_low : (table : List ℕ) → Below retry_unit turn_value (dispatch_reply table)
  pub count_low : (a : CountCall) → Below retry_unit count_value (count_reply a)
  pub read_low : (script out : List ℕ) → Below retry_unit listed_value (delivery_reply (read_entry script) out)
  pub read_byte : (script out : List ℕ) → Below 256 (λ l. l.threads) (delivery_reply (read_entry script) out)
  pub run_low : (script out : List ℕ) → Below retry_unit (λ c. c.bytes) (delivery_reply (run_entry script) out)
  -- Of a list of triples whose indices stand beside a refusal's number, at most 3 × 2^55 bytes, writing's answer is the reply itself.
  pub write-held : (n : ℕ) (triples out : List ℕ) → length triples ≤ 3 * value_bound → held (delivery_reply (write_entry n triples) out) ≡ delivery_reply (write_entry n triples) out
