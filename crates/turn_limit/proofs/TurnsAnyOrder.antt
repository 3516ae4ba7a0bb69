-- The limit on turns in any order (02 §8): requests that the dispatcher may make, of whichever threads and with whichever targets, are at most 6N - 2 from every sound table (`turns_any_order`).
-- So for every rule of choice that names a thread which has a turn, waiting comes after at most 6N - 2 turns (`turns_any_rule`).
use Prim.Native.Nat.{ℕ, ◌+◌, ◌≤◌}
use native.Mathlib.Omega.{arith}
use mathlib.Core.List.{List, [], ◌∷◌}
use mathlib.Core.Path.{◌≡◌}
use lib.Dec.{T}
use lib.ListN.{length}
use Rattle.definitions.specs.Dispatch.{may_dispatch}
use Rattle.definitions.specs.Moves.{step_in}
use Rattle.definitions.specs.Table.{Storage, table_of, byte_table}
use Rattle.definitions.specs.declared.Request.{Request}
use Rattle.theory.specs.Tables.{SoundBytes, Keeps}
use Rattle.basics.proofs.Tests.{and_l, and_r}
use Rattle.theory.proofs.Bytes.{byte_keeps}
use Rattle.theory.proofs.Soundness.{sound_e}
use Rattle.theory.proofs.Storages.{table_step}
use Rattle.turn_limit.specs.AnyOrder.{dispatches_all_in, dispatches_all, WaitsAfterBy, Rule, NamesTurns, turn_by}
use Rattle.turn_limit.specs.TurnLimit.{most_turns}
use Rattle.turn_limit.proofs.ByChoice.{by_rule}
use Rattle.turn_limit.proofs.OneRequest.{request_lowers, Passes, bytes-pass, step-passes}
use Rattle.turn_limit.proofs.Turns.{at_most}
use Rattle.turn_limit.proofs.TurnsLeft.{turns_left, left-most}

module _ {B : Type 0} (S : Storage B) (kept : Keeps S) where
  -- a list takes one of the turns left with each request
  counted : (b : B) (rs : List Request) → Passes S b → T (dispatches_all_in S b rs) → length rs ≤ turns_left (S.table b)
  unfolding dispatches_all_in
  counted b [] g t = omega arith
  counted b (r ∷ rs) g t =
      let s = S.table b in
      let b' = step_in S b r in
      let one : turns_left (S.table b') + 1 ≡ turns_left s = rw (table_step S kept b r g.fits) (request_lowers s (sound_e s g.is_sound) r (and_l (may_dispatch s r) (dispatches_all_in S b' rs) t)) in
      omega (arith, counted b' rs (step-passes S kept b r g) (and_r (may_dispatch s r) (dispatches_all_in S b' rs) t))

pub turns_any_order : (table : List ℕ) → SoundBytes table → (rs : List Request) → T (dispatches_all table rs) → length rs ≤ most_turns (table_of table).threads
turns_any_order table g rs t = omega (arith, counted byte_table byte_keeps table rs (bytes-pass table g) t, left-most (table_of table) (sound_e (table_of table) g.is_sound))

pub turns_any_rule : {Q : Type 0} (rule : Rule Q) → NamesTurns rule → (q : Q) (table : List ℕ) → SoundBytes table
    → (k : ℕ) × (k ≤ most_turns (table_of table).threads) × WaitsAfterBy (turn_by rule byte_table) (q, table) k
turns_any_rule rule names q table g = at_most (turn_by rule byte_table) _ _ (by_rule byte_table byte_keeps rule names) (q, table) (bytes-pass table g)
