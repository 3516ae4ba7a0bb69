-- A turn by any choice that names a thread which has a turn: where no thread has one it says waiting and changes nothing (`choice_waits`),
-- and else it leaves what a request leaves that the dispatcher may make, and what passes the tests 1 and 2 (`choice_moves`).
-- So turns by a choice, and by a rule of choice, are turns as those of Turns (`by_choice`, `by_rule`). Whatever stores the table.
use Prim.Native.Nat.{ℕ}
use mathlib.Core.Bool.{not}
use mathlib.Core.Path.{◌≡◌, ap₂}
use lib.Dec.{T}
use Rattle.definitions.specs.Dispatch.{request_of, is_waiting, turn_in}
use Rattle.definitions.specs.Table.{Table, Storage}
use Rattle.dispatching.specs.Turns.{NamesTurn}
use Rattle.theory.specs.Tables.{Keeps}
use Rattle.basics.proofs.Tests.{cond_yes}
use Rattle.dispatching.proofs.Choice.{turn_may}
use Rattle.dispatching.proofs.TurnReplies.{waits, moves}
use Rattle.theory.proofs.Soundness.{sound_e}
use Rattle.turn_limit.specs.AnyOrder.{MovesBy, WaitsBy, Rule, NamesTurns, turn_by}
use Rattle.turn_limit.proofs.OneRequest.{Passes, Made, made_by}
use Rattle.turn_limit.proofs.Turns.{Dispatches}

module _ {B : Type 0} (S : Storage B) where
  module _ (choice : Table → ℕ) (b : B) (g : Passes S b) where
    choice_waits : T (is_waiting (S.table b)) → WaitsBy choice S b × (turn_in choice S b ≡ b)
    choice_waits = waits choice S b g.fits g.is_sound

    choice_moves : Keeps S → NamesTurn choice → T (not (is_waiting (S.table b))) → MovesBy choice S b × Passes S (turn_in choice S b) × Made (S.table b) (S.table (turn_in choice S b))
    choice_moves kept names t =
        let s = S.table b in
        let (reply, left) = moves choice S b g.fits g.is_sound t in
        let may = turn_may s (sound_e s g.is_sound) (choice s) (names s g.is_sound t) in
        let (good, made) = made_by S kept b (request_of s (choice s)) g (turn_in choice S b) may left in ((_, _, reply), good, made)

  module _ (kept : Keeps S) where
    pub by_choice : (choice : Table → ℕ) → NamesTurn choice
        → Dispatches (record { leaves = turn_in choice S; Moves = MovesBy choice S; Waits = WaitsBy choice S }) S.table (Passes S)
    by_choice choice names =
        record { is_sound = λ b g. g.is_sound; waits = choice_waits choice; moves = λ b g. choice_moves choice b g kept names }

    pub by_rule : {Q : Type 0} (rule : Rule Q) → NamesTurns rule → Dispatches (turn_by rule S) (λ (q, b). S.table b) (λ (q, b). Passes S b)
    by_rule {Q} rule names =
        record {
          is_sound = λ (q, b) g. g.is_sound;
          waits = λ (q, b) g t.
              let (says, stays) = choice_waits (rule.mover q) b g t in (says, ap₂ (λ (p : Q) (c : B). (p, c)) (cond_yes (is_waiting (S.table b)) q _ t) stays);
          moves = λ (q, b) g. choice_moves (rule.mover q) b g kept (names q);
        }
