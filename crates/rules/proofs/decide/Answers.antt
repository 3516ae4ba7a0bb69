-- Hold, which exists in phase 4 alone and is a retry there, and the numbers without an arm.
use native.Mathlib.Omega.{arith}
use mathlib.Core.Path.{refl, sym, ap, ◌∙◌}
use Rattle.definitions.specs.Answers.{number_of_move, quiet, moved}
use Rattle.definitions.specs.Codes.{hold}
use Rattle.definitions.specs.Moves.{effect, is_retry}
use Rattle.arms.proofs.Steps.{move_arm}
use Rattle.rules.proofs.Arms.{hold-retry, no_arm}
use Rattle.rules.proofs.decide.Goals as goal

pub returns-in-Hold : goal.returns-in-Hold
unfolding effect is_retry
returns-in-Hold c =
    move_arm _ _ hold _ _ (sym c.from.ensures ∙ (sym c.in-Ok.ensures ∙ ap number_of_move c.in-Hold.is)) c.set_mutex.ensures
    (λ s r a seen. record { head = refl; mover = refl; flag = refl; says = ap (moved quiet) (hold-retry s r a) })

pub returns-in_default : goal.returns-in_default
returns-in_default c = let above = c.in_default.ensures.1 in no_arm _ _ _ (omega (arith, above, c.from.ensures))
