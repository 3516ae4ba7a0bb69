-- A number that none of the arms of a match takes: what its `_` arm is told, as the check has it.
use Prim.Native.Nat.{ℕ, zero, suc, ◌≤◌, ◌<◌}
use native.Mathlib.Numerals.{lt_of_le_of_ne}
use native.Mathlib.Omega.{arith}
use mathlib.Core.Bool.{not, ◌||◌}
use mathlib.Core.List.{List, [], ◌∷◌}
use mathlib.Core.Logic.{◌⊎◌, inl, inr, ⊎_elim}
use mathlib.Core.Path.{◌≡◌, sym}
use lib.Dec.{T, eqb, eqb→eq}
use Rattle.definitions.specs.Threads.{every, among}
use Rattle.basics.proofs.Cases.{or_at, none_of}
use Rattle.basics.proofs.Quantifiers.{every_at}
use Rattle.basics.proofs.Tests.{not_i, or_e, below?}

-- x is none of the numbers of the arms, the last first
abbrev pub NoneOf : ℕ → List ℕ → Type 0
NoneOf x [] = Unit {0}
NoneOf x (k ∷ ks) = NoneOf x ks × (x ≡ k → ⊥)

none_among : (x : ℕ) (ks : List ℕ) → NoneOf x ks → T (among x ks) → ⊥
none_among x [] none = none_of x
none_among x (k ∷ ks) none = or_at x k ks none.1 (none_among x ks none.0)

pub not-among : (x : ℕ) (ks : List ℕ) → NoneOf x ks → T (not (among x ks))
not-among x ks none = not_i (among x ks) (none_among x ks none)

-- the numbers of the arms, the last first, from the first on
abbrev pub backwards : List ℕ → List ℕ
backwards ks = onto ks []
  where
    onto : List ℕ → List ℕ → List ℕ
    onto [] done = done
    onto (k ∷ ks) done = onto ks (k ∷ done)

-- where the arms are 0, 1, .. up to n - 1, it is past them
abbrev pub down_from : ℕ → List ℕ
down_from zero = []
down_from (suc n) = n ∷ down_from n

pub above : (n x : ℕ) → NoneOf x (down_from n) → n ≤ x
above zero x none = omega arith
above (suc n) x none = lt_of_le_of_ne (above n x none.0) (λ e. none.1 (sym e))

-- where they are 1, 2, .. up to n - 1, in any order, it is 0 or past them
pub left_over : (n x : ℕ) (ks : List ℕ) → NoneOf x ks → T (every n (λ k. among k ks || eqb k 0)) → (x ≡ 0) ⊎ (n ≤ x)
left_over n x ks none all = ⊎_elim (λ l. inl (inside l)) inr (below? n x)
  where
    inside : x < n → x ≡ 0
    inside l =
        ⊎_elim (λ t. absurd (none_among x ks none t)) (eqb→eq x 0)
        (or_e (among x ks) (eqb x 0) (every_at (λ k. among k ks || eqb k 0) n all x l))
