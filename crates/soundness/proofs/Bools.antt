-- Laws of Bool tests: `implies` compared. More of them stand in the crate theory.
use mathlib.Core.Bool.{Bool, true, false, cond, not}
use mathlib.Core.Path.{◌≡◌, refl, ap, ◌∙◌}
use lib.Dec.{T}
use Rattle.definitions.specs.Threads.{implies}

-- rules under one condition are compared where it holds
pub implies_cong : (p p' q q' : Bool) → p ≡ p' → (T p → q ≡ q') → implies p q ≡ implies p' q'
implies_cong true p' q q' e f = f tt ∙ ap (λ (x : Bool). cond x q' true) e
implies_cong false p' q q' e f = ap (λ (x : Bool). cond x q' true) e

pub not-not : (b : Bool) → not (not b) ≡ b
not-not true = refl
not-not false = refl
