-- The dispatcher's turns one after the other, how many of them move, and their limit (02 §8).
use Rattle.std.specs.Prelude.{ℕ, ◌*◌, ◌-◌, List}
use Rattle.definitions.specs.Dispatch.{mover_in, dispatch_in}
use Rattle.definitions.specs.Table.{Storage, byte_table}
use Rattle.completeness.specs.Reached.{Reached}
use Rattle.theory.specs.Tables.{SoundBytes}
use Rattle.turn_limit.specs.AnyOrder.{MovesBy, WaitsBy, Dispatcher, after_turns_by, WaitsAfterBy}

-- "waiting comes after at most 6N - 2 turns"
abbrev pub most_turns : ℕ → ℕ
most_turns n = 6 * n - 2

-- a turn of the dispatcher: what it leaves, that it makes a move, and that it says waiting
abbrev pub dispatcher_in : {B : Type 0} → Storage B → Dispatcher B
dispatcher_in storage =
    record {
      leaves = dispatch_in storage;
      Moves = MovesBy mover_in storage;
      Waits = WaitsBy mover_in storage;
    }

-- on bytes
abbrev pub after_turns : ℕ → List ℕ → List ℕ
after_turns = after_turns_by (dispatcher_in byte_table)

abbrev pub WaitsAfter : List ℕ → ℕ → Type 0
WaitsAfter = WaitsAfterBy (dispatcher_in byte_table)

-- the limit is reached for n: some table of the right size is sound, accepted moves from the fresh table lead to it, and from it waiting comes after exactly 6N - 2 turns
pub record TurnsReached (n : ℕ) : Type 0 where
  pub table : List ℕ
  pub passes : SoundBytes table
  pub reached : Reached n table
  pub turns : WaitsAfter table (most_turns n)
