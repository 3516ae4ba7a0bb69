-- Retries, and progress: the limit on moves without calls and retries, that it is reached, and no standstill (02 §7).
use Rattle.std.specs.Prelude.{ℕ, ◌≤◌, ◌<◌, true, List, ◌≡◌, T, length}
use Rattle.definitions.specs.Answers.{accepted, quiet, moved}
use Rattle.definitions.specs.Bounds.{most_threads}
use Rattle.definitions.specs.Chains.{retries}
use Rattle.definitions.specs.Moves.{effect, is_retry, accepts_in, move_reply, move_table}
use Rattle.definitions.specs.Nodes.{nodes_of}
use Rattle.definitions.specs.PlainLock.{Pair, permitted}
use Rattle.definitions.specs.Plan.{plan}
use Rattle.definitions.specs.Table.{byte_table, table_of, fresh}
use Rattle.definitions.specs.declared.Request.{Request}
use Rattle.theory.specs.Statements.{NotFree}
use Rattle.theory.specs.Tables.{SoundBytes}
use Rattle.progress.specs.Progress.{progresses, most_progress, LimitReached, CanMove}

pub record RetriesAndProgress : Type 0 where
  -- An accepted move answers what it shows, and whether it is one of the retries of `is_retry`. A retry is quiet and keeps every thread in its node.
  pub move-says : (table : List ℕ) (r : Request) → T (accepts_in byte_table table r)
      → move_reply table r ≡ accepted (moved (effect (table_of table) r).shows (is_retry (table_of table) r))
  pub retry-keeps : (table : List ℕ) (r : Request) → T (accepts_in byte_table table r) → T (is_retry (table_of table) r)
      → (move_reply table r ≡ accepted (moved quiet true)) × (nodes_of (table_of (move_table table r)) ≡ nodes_of (table_of table))
  -- The plan of a permitted history makes none.
  pub plan-retries : (n : ℕ) → 1 ≤ n → n ≤ most_threads → (h : List Pair) → T (permitted n h) → retries (fresh n) (plan n h) ≡ 0
  -- The limit: accepted moves without calls and without retries, in any order and from any table, are at most N × (3N + 5). (What accepts a request is sound.)
  pub limit : (table : List ℕ) (rs : List Request) → T (progresses table rs) → length rs ≤ most_progress (table_of table).threads
  -- It is reached for every N, from the table with every thread in 9, which is sound and reached.
  pub limit-reached : (n : ℕ) → 1 ≤ n → n ≤ most_threads → LimitReached n
  -- No standstill: where some thread isn't Free, some request that is no call is accepted.
  pub no_standstill : (table : List ℕ) → SoundBytes table → (i : ℕ) → i < (table_of table).threads → NotFree table i → CanMove table
