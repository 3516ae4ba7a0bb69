-- The moves that name no thread, as a script's line says them: which they are (`plain_e`), and what a text behind T reads as (`plain_form`).
use Prim.Native.Nat.{ℕ, suc, ◌≤◌}
use native.Mathlib.Omega.{arith}
use mathlib.Core.Bool.{not}
use mathlib.Core.List.{List, [], ◌∷◌}
use mathlib.Core.Path.{◌≡◌, refl}
use lib.Dec.{T, eqb}
use Rattle.definitions.specs.Bounds.{last_move}
use Rattle.definitions.specs.Forms.{Form, request, act_text, plain_moves, plain_form}
use Rattle.definitions.specs.Moves.{ask, names_thread}
use Rattle.definitions.specs.Texts.{same}
use Rattle.definitions.specs.Threads.{among}
use Rattle.basics.proofs.Cases.{among_here, among_unless}
use Rattle.basics.proofs.Tests.{T_true, or_r, cond_either}
use Rattle.basics.proofs.Texts.{same_eq}

pub plain_e : (mv : ℕ) → T (among mv plain_moves) → (mv ≤ last_move) × T (not (names_thread mv))
unfolding plain_moves
plain_e mv t = let r = among_unless mv names_thread (suc last_move) t in let l = r.0 in (omega arith, r.1)

-- what holds of each of these moves that the text spells, and of the other form, holds of what is read
module _ (P : Form → Type 0) (thread : ℕ) (xs : List ℕ) (other : Form) (rest : P other) where
  pub plain_form_lem : (mvs : List ℕ) → ((mv : ℕ) → T (among mv mvs) → xs ≡ act_text mv 0 → P (request (ask thread mv 0))) → P (plain_form thread xs mvs other)
  unfolding plain_form among
  plain_form_lem [] f = rest
  plain_form_lem (mv ∷ mvs) f =
      cond_either P (same xs (act_text mv 0)) (request (ask thread mv 0)) (plain_form thread xs mvs other)
      (λ t. f mv (among_here mv mv mvs refl) (same_eq xs (act_text mv 0) (T_true (same xs (act_text mv 0)) t)))
      (λ t. plain_form_lem mvs (λ k m e. f k (or_r (eqb k mv) (among k mvs) m) e))
