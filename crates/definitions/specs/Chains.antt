-- Lists of requests to the move: what they show, what they leave, whether all are accepted, and how many were retries. Demand 3 speaks of the first three.
-- "each request gets the table that the one before left, and nothing else writes it": what stores the table goes from one step to the next, whatever the storage is;
-- `history`, `table_after`, `accepts_all` and `retries` are those of the byte table.
use Rattle.std.specs.Prelude.{ℕ, ◌+◌, ◌<◌, ◌^◌, Bool, true, cond, ◌&&◌, List, [], ◌∷◌, ◌++◌}
use Rattle.definitions.specs.Answers.{Reply, accepted, refused, Seen, shown, quiet, MoveAnswer}
use Rattle.definitions.specs.Moves.{reply_in, step_in, accepts_in}
use Rattle.definitions.specs.PlainLock.{Pair}
use Rattle.definitions.specs.Table.{Storage, byte_table}
use Rattle.definitions.specs.declared.Request.{Request}

-- "for each answer that is a shown event, in order, the request's thread and the event's code. Quiet and refusals add no pair."
abbrev pub pair_seen : ℕ → Seen → List Pair
pair_seen thread (shown event) = record { thread = thread; event = event } ∷ []
pair_seen thread quiet = []

abbrev pub pair_for : ℕ → Reply MoveAnswer → List Pair
pair_for thread (accepted answer) = pair_seen thread answer.seen
pair_for thread (refused number place) = []

-- 1 for an answer that says retry, and 0 for every other one (02 §7)
abbrev pub retry_for : Reply MoveAnswer → ℕ
retry_for (accepted answer) = cond answer.retry 1 0
retry_for (refused number place) = 0

module _ {B : Type 0} (storage : Storage B) where
  -- "What the list shows is a history"
  unfoldable pub history_in : B → List Request → List Pair
  history_in b [] = []
  history_in b (r ∷ rs) = pair_for r.thread (reply_in storage b r) ++ history_in (step_in storage b r) rs

  -- what a list of requests leaves
  unfoldable pub after_in : B → List Request → B
  after_in b [] = b
  after_in b (r ∷ rs) = after_in (step_in storage b r) rs

  -- how many requests of the list were retries, by their answers
  unfoldable pub retries_in : B → List Request → ℕ
  retries_in b [] = 0
  retries_in b (r ∷ rs) = retry_for (reply_in storage b r) + retries_in (step_in storage b r) rs

  -- every request of the list is accepted
  unfoldable pub accepts_all_in : B → List Request → Bool
  accepts_all_in b [] = true
  accepts_all_in b (r ∷ rs) = accepts_in storage b r && accepts_all_in (step_in storage b r) rs

abbrev pub history : List ℕ → List Request → List Pair
history = history_in byte_table

abbrev pub retries : List ℕ → List Request → ℕ
retries = retries_in byte_table

abbrev pub table_after : List ℕ → List Request → List ℕ
table_after = after_in byte_table

abbrev pub accepts_all : List ℕ → List Request → Bool
accepts_all = accepts_all_in byte_table

-- "A request is thread, move and target, 16 bits each"
pub record Fits16 (r : Request) : Type 0 where
  pub thread : r.thread < 2 ^ 16
  pub mv : r.mv < 2 ^ 16
  pub target : r.target < 2 ^ 16

-- a list of 16-bit requests
abbrev pub AllFit16 : List Request → Type 0
AllFit16 [] = Unit {0}
AllFit16 (r ∷ rs) = Fits16 r × AllFit16 rs

-- "A plan's triples, in order, are such requests.": bytes read three at a time
unfoldable pub requests_of : List ℕ → List Request
requests_of [] = []
requests_of (i ∷ []) = []
requests_of (i ∷ m ∷ []) = []
requests_of (i ∷ m ∷ t ∷ rest) = record { thread = i; mv = m; target = t } ∷ requests_of rest
