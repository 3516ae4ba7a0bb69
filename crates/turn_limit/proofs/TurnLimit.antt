-- The limit on turns (02 §8): from every sound table, with nothing else between, waiting comes after at most 6N - 2 turns (`turn-limit`), so that every later turn says waiting (`waits_then`);
-- and turns keep a table sound (`turns-sound`). They are turns as those of Turns (`by-lowest`).
use Prim.Native.Nat.{ℕ, ◌≤◌}
use native.Mathlib.Omega.{arith}
use mathlib.Core.List.{List}
use mathlib.Core.Path.{◌≡◌}
use Rattle.definitions.specs.Answers.{accepted}
use Rattle.definitions.specs.Dispatch.{mover_in, waiting, dispatch_reply}
use Rattle.definitions.specs.Table.{Storage, table_of, byte_table}
use Rattle.dispatching.proofs.TurnIsMove.{mover_names}
use Rattle.theory.specs.Tables.{SoundBytes, Keeps}
use Rattle.theory.proofs.Bytes.{byte_keeps}
use Rattle.turn_limit.specs.TurnLimit.{most_turns, dispatcher_in, after_turns, WaitsAfter}
use Rattle.turn_limit.proofs.ByChoice.{by_choice}
use Rattle.turn_limit.proofs.OneRequest.{Passes, bytes-pass}
use Rattle.turn_limit.proofs.Turns.{Dispatches, stays_good, at_most}

pub by-lowest : {B : Type 0} (S : Storage B) → Keeps S → Dispatches (dispatcher_in S) S.table (Passes S)
by-lowest S kept = by_choice S kept mover_in mover_names

pub turns-sound : (table : List ℕ) → SoundBytes table → (k : ℕ) → SoundBytes (after_turns k table)
turns-sound table g k =
    let after = stays_good (dispatcher_in byte_table) table_of (Passes byte_table) (by-lowest byte_table byte_keeps) k table (bytes-pass table g) in
    record { is_sized = after.fits; is_sound = after.is_sound }

pub turn-limit : (table : List ℕ) → SoundBytes table → (k : ℕ) × (k ≤ most_turns (table_of table).threads) × WaitsAfter table k
turn-limit table g = at_most (dispatcher_in byte_table) table_of (Passes byte_table) (by-lowest byte_table byte_keeps) table (bytes-pass table g)

pub waits_then : (table : List ℕ) → SoundBytes table → (j : ℕ) → most_turns (table_of table).threads ≤ j → dispatch_reply (after_turns j table) ≡ accepted waiting
waits_then table g j l = let (k, most, turns) = turn-limit table g in turns.waits j (omega arith)
