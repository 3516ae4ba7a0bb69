-- When a comparison of texts fails or passes, and what a text that begins with another is.
use Prim.Native.Nat.{ℕ, ◌<◌}
use native.Mathlib.Omega.{arith}
use mathlib.Core.Bool.{true, false}
use mathlib.Core.List.{List, [], ◌∷◌, ◌++◌}
use mathlib.Core.Path.{◌≡◌, refl, sym, ap, ◌∙◌}
use lib.Dec.{eqb}
use lib.ListN.{length, get_or, take, drop, take-append-drop}
use lib.Seq.{ext_get_or}
use Rattle.std.specs.List.{list_all, zip}
use Rattle.definitions.specs.Texts.{same, starts}
use Rattle.basics.proofs.Tests.{T_true, T_false, not_i}
use Rattle.basics.proofs.Texts.{same_refl, same_eq, starts-length}

pub same_ne : (xs ys : List ℕ) → (xs ≡ ys → ⊥) → same xs ys ≡ false
same_ne xs ys h = T_false (same xs ys) (not_i (same xs ys) (λ t. h (same_eq xs ys (T_true (same xs ys) t))))

-- of one length, and equal at each place
pub same_at : (xs ys : List ℕ) → length xs ≡ length ys → ((k : ℕ) → k < length ys → get_or xs k 0 ≡ get_or ys k 0) → same xs ys ≡ true
same_at xs ys e h = rw (ext_get_or 0 xs ys e (λ k l. h k (omega arith))) (same_refl ys)

-- of one length, by the comparison at each place
pub same_zipped : (xs ys : List ℕ) → length xs ≡ length ys → list_all (λ p. eqb p.0 p.1) (zip xs ys) ≡ same xs ys
unfolding same
same_zipped [] [] e = refl
same_zipped [] (y ∷ ys) e = absurd (omega arith)
same_zipped (x ∷ xs) [] e = absurd (omega arith)
same_zipped (x ∷ xs) (y ∷ ys) e = rw (same_zipped xs ys (omega arith))

pub starts-short : (p xs : List ℕ) → length xs < length p → starts p xs ≡ false
starts-short p xs h =
    T_false (starts p xs) (not_i (starts p xs) (λ t. omega (arith, starts-length p xs (T_true (starts p xs) t))))

-- what begins with p is p and what follows
pub starts-split : (p xs : List ℕ) → starts p xs ≡ true → xs ≡ p ++ drop (length p) xs
starts-split p xs e =
    sym (take-append-drop (length p) xs) ∙ ap (λ (l : List ℕ). l ++ drop (length p) xs) (same_eq (take (length p) xs) p e)
