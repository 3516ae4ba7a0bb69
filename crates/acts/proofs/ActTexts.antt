-- What stands behind T in the line of a move, and its length.
use Prim.Native.Nat.{ℕ, zero, suc, ◌≤◌}
use native.Mathlib.Omega.{arith}
use mathlib.Core.List.{List, []}
use mathlib.Core.Path.{◌≡◌, refl, ◌∙◌}
use lib.ListN.{length, get_or, get_or-eq_default}
use Rattle.definitions.specs.Bounds.{last_move}
use Rattle.definitions.specs.Forms.{act_text}
use Rattle.definitions.specs.Texts.{bytes}
use Rattle.definitions.specs.Threads.{list_of}

-- a number that is no move's
pub no_act : (mv target : ℕ) → 7 ≤ mv → act_text mv target ≡ []
unfolding act_text list_of
no_act mv target past =
    let texts : List (List ℕ) = list_of 7 (λ k. act_text k target) in
    let row : act_text mv target ≡ get_or texts mv [] = refl in
    row ∙ get_or-eq_default texts [] past

-- ---- the shortest

pub act_least : (mv target : ℕ) → mv ≤ last_move → 6 ≤ length (act_text mv target)
unfolding act_text bytes
act_least zero target h = omega arith
act_least (suc zero) target h = omega arith
act_least (suc (suc zero)) target h = omega arith
act_least (suc (suc (suc zero))) target h = omega arith
act_least (suc (suc (suc (suc zero)))) target h = omega arith
act_least (suc (suc (suc (suc (suc zero))))) target h = omega arith
act_least (suc (suc (suc (suc (suc (suc zero)))))) target h = omega arith
act_least (suc (suc (suc (suc (suc (suc (suc mv))))))) target h = absurd (omega arith)
