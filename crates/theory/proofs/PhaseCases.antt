-- Cases of a phase: a number that is none has no row (`no_row_lem`); a phase that has a move (`has_phase`) or holds the mutex (`is_holder`).
use Prim.Native.Nat.{ℕ, suc, ◌≤◌, ◌<◌}
use native.Mathlib.Omega.{arith}
use mathlib.Core.Bool.{Bool, cond}
use mathlib.Core.List.{List, [], ◌∷◌}
use mathlib.Core.Logic.{⊎_elim}
use mathlib.Core.Path.{◌≡◌, refl, sym, subst}
use lib.Dec.{T}
use lib.ListN.{get_or-eq_default}
use Rattle.definitions.specs.Bounds.{last_phase}
use Rattle.definitions.specs.Phases.{Row, no_row, rows, row_of, has_move, holds}
use Rattle.definitions.specs.Threads.{gather, among}
use Rattle.basics.proofs.Tests.{T_true, below?}
use Rattle.basics.proofs.Cases.{none_of, among_here, among-gather}

-- a number that is no phase has no row
pub no_row_lem : (p : ℕ) → last_phase < p → row_of p ≡ no_row
unfolding rows
no_row_lem p h = get_or-eq_default rows no_row h

-- nor does it hold the mutex, so a holder's number is a phase
no_holder : (p : ℕ) → last_phase < p → T (holds p) → ⊥
no_holder p l t = subst (λ (row : Row). T row.holder) (no_row_lem p l) t

pub holder-phase : (p : ℕ) → T (holds p) → p ≤ last_phase
holder-phase p t = ⊎_elim (λ l. omega arith) (λ l. absurd (no_holder p l t)) (below? (suc last_phase) p)

-- the phases of which f holds, by trying them all
unfoldable pub phases_where : (ℕ → Bool) → List ℕ
phases_where f = gather (suc last_phase) (λ p. cond (f p) (p ∷ []) [])

-- f holds of no other number
module _ (f : ℕ → Bool) (outside : (p : ℕ) → last_phase < p → T (f p) → ⊥) where
  is_phase : (p : ℕ) (ks : List ℕ) → phases_where f ≡ ks → T (f p) → T (among p ks)
  unfolding phases_where
  is_phase p ks e t = subst (λ (xs : List ℕ). T (among p xs)) e (⊎_elim inside (λ l. absurd (outside p l t)) (below? (suc last_phase) p))
    where
      inside : p < suc last_phase → T (among p (gather (suc last_phase) (λ q. cond (f q) (q ∷ []) [])))
      inside l =
          among-gather p (λ q. cond (f q) (q ∷ []) []) (suc last_phase) p l
          (subst (λ (b : Bool). T (among p (cond b (p ∷ []) []))) (sym (T_true (f p) t)) (among_here p p [] refl))

-- a phase that has a move
pub has_phase : (mv p : ℕ) (ks : List ℕ) → phases_where (has_move mv) ≡ ks → T (has_move mv p) → T (among p ks)
has_phase mv = is_phase (has_move mv) (λ p l t. none_of mv (subst (λ (row : Row). T (among mv row.moves)) (no_row_lem p l) t))

-- a phase that holds the mutex
pub is_holder : (p : ℕ) → T (holds p) → T (among p (10 ∷ 11 ∷ 12 ∷ 13 ∷ 14 ∷ 15 ∷ 16 ∷ 18 ∷ []))
unfolding rows gather phases_where
is_holder p t = is_phase holds no_holder p _ refl t
