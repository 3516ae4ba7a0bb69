-- Texts as lists of bytes: `same` holds of equal texts alone, and a text that starts with another is no shorter.
use Prim.Native.Nat.{ℕ, ◌≤◌}
use native.Mathlib.Omega.{arith}
use mathlib.Core.Bool.{true, false≢true}
use mathlib.Core.List.{List, [], ◌∷◌}
use mathlib.Core.Path.{◌≡◌, refl, ap}
use borrow.Author.Tests.{eq-eqb, eqb-true}
use lib.Dec.{eqb}
use lib.ListN.{length, take, length-take}
use Rattle.definitions.specs.Texts.{same, starts}
use Rattle.basics.proofs.Tests.{and_both}

pub same_refl : (xs : List ℕ) → same xs xs ≡ true
unfolding same
same_refl [] = refl
same_refl (x ∷ xs) = rw (eq-eqb x x refl) (same_refl xs)

pub same_eq : (xs ys : List ℕ) → same xs ys ≡ true → xs ≡ ys
unfolding same
same_eq [] [] e = refl
same_eq [] (y ∷ ys) e = absurd (false≢true e)
same_eq (x ∷ xs) [] e = absurd (false≢true e)
same_eq (x ∷ xs) (y ∷ ys) e =
    let both = and_both (eqb x y) (same xs ys) e in
    let head = eqb-true x y both.0 in
    let tail = same_eq xs ys both.1 in
    cc

pub starts-length : (p xs : List ℕ) → starts p xs ≡ true → length p ≤ length xs
starts-length p xs e = omega (arith, simp length-take at (ap length (same_eq (take (length p) xs) p e)))
