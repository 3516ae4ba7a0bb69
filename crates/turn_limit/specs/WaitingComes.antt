-- Waiting comes: the limit on the dispatcher's turns, that it is reached, and that it holds in any order of such moves and for any rule of choice (02 §8).
use Rattle.std.specs.Prelude.{ℕ, ◌≤◌, List, ◌≡◌, T, length}
use Rattle.definitions.specs.Answers.{accepted}
use Rattle.definitions.specs.Bounds.{most_threads}
use Rattle.definitions.specs.Dispatch.{waiting, dispatch_reply}
use Rattle.definitions.specs.Table.{byte_table, table_of}
use Rattle.definitions.specs.declared.Request.{Request}
use Rattle.theory.specs.Tables.{SoundBytes}
use Rattle.turn_limit.specs.AnyOrder.{dispatches_all, WaitsAfterBy, Rule, NamesTurns, turn_by}
use Rattle.turn_limit.specs.TurnLimit.{most_turns, after_turns, WaitsAfter, TurnsReached}

pub record WaitingComes : Type 1 where
  -- From every sound table waiting comes after at most 6N - 2 turns, and every turn from then on says it; turns keep a table sound. For every N some table takes exactly so many.
  pub turn-limit : (table : List ℕ) → SoundBytes table → (k : ℕ) × (k ≤ most_turns (table_of table).threads) × WaitsAfter table k
  pub waits_then : (table : List ℕ) → SoundBytes table → (j : ℕ) → most_turns (table_of table).threads ≤ j → dispatch_reply (after_turns j table) ≡ accepted waiting
  pub turns-sound : (table : List ℕ) → SoundBytes table → (k : ℕ) → SoundBytes (after_turns k table)
  pub turn-limit-reached : (n : ℕ) → 1 ≤ n → n ≤ most_threads → TurnsReached n
  -- The limit holds in any order: requests that the dispatcher may make, of whichever threads and with whichever targets, are at most so many;
  -- and by any rule of choice that names a thread which has a turn, waiting comes after at most so many turns.
  pub turns_any_order : (table : List ℕ) → SoundBytes table → (rs : List Request) → T (dispatches_all table rs) → length rs ≤ most_turns (table_of table).threads
  pub turns_any_rule : {Q : Type 0} (rule : Rule Q) → NamesTurns rule → (q : Q) (table : List ℕ) → SoundBytes table
      → (k : ℕ) × (k ≤ most_turns (table_of table).threads) × WaitsAfterBy (turn_by rule byte_table) (q, table) k
