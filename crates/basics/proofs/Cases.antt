-- Cases of a number: one of a list (`or_at`), one of f 0, f 1, .. (`among_list`), one of a range (`among_range`).
use Prim.Native.Nat.{ℕ, zero, suc, ◌+◌, ◌-◌, ◌<◌}
use native.Mathlib.Nat.{not-suc-le-zero}
use native.Mathlib.Omega.{arith}
use mathlib.Core.Bool.{Bool, cond, not}
use mathlib.Core.List.{List, [], ◌∷◌, ◌++◌}
use mathlib.Core.Logic.{⊎_elim}
use mathlib.Core.Path.{◌≡◌, sym, subst, ap}
use lib.Dec.{T, leb, eqb, leb→le, eqb→eq}
use Rattle.definitions.specs.Threads.{list_of, gather, among, between}
use Rattle.basics.proofs.Quantifiers.{below_suc}
use Rattle.basics.proofs.Tests.{and_l, and_r, or_e, or_l, or_r, eq_T, T_true, T_false, decided}

-- x is the first number of a list, or one of the others
module _ {P : Type 0} (x : ℕ) where
  pub or_at : (y : ℕ) (ys : List ℕ) → (x ≡ y → P) → (T (among x ys) → P) → T (among x (y ∷ ys)) → P
  unfolding among
  or_at y ys here there t = ⊎_elim (λ u. here (eqb→eq x y u)) there (or_e (eqb x y) (among x ys) t)

  pub none_of : T (among x []) → P
  unfolding among
  none_of t = absurd t

pub among_here : (x y : ℕ) (ys : List ℕ) → x ≡ y → T (among x (y ∷ ys))
unfolding among
among_here x y ys e = or_l (eqb x y) (among x ys) (eq_T x y e)

module _ (x : ℕ) where
  among_front : (ys zs : List ℕ) → T (among x ys) → T (among x (ys ++ zs))
  unfolding among
  among_front [] zs t = absurd t
  among_front (y ∷ ys) zs t =
      ⊎_elim (or_l (eqb x y) (among x (ys ++ zs))) (λ u. or_r (eqb x y) (among x (ys ++ zs)) (among_front ys zs u)) (or_e (eqb x y) (among x ys) t)

  among_back : (ys zs : List ℕ) → T (among x zs) → T (among x (ys ++ zs))
  unfolding among
  among_back [] zs t = t
  among_back (y ∷ ys) zs t = or_r (eqb x y) (among x (ys ++ zs)) (among_back ys zs t)

  pub among-gather : (f : ℕ → List ℕ) (n j : ℕ) → j < n → T (among x (f j)) → T (among x (gather n f))
  unfolding gather
  among-gather f zero j l t = absurd (not-suc-le-zero l)
  among-gather f (suc n) j l t =
      ⊎_elim (λ e. among_back (gather n f) (f n) (subst (λ (k : ℕ). T (among x (f k))) e t)) (λ k. among_front (gather n f) (f n) (among-gather f n j k t)) (below_suc j n l)

  among_append : {P : Type 0} (ys zs : List ℕ) → (T (among x ys) → P) → (T (among x zs) → P) → T (among x (ys ++ zs)) → P
  unfolding among
  among_append [] zs front back t = back t
  among_append (y ∷ ys) zs front back t =
      ⊎_elim (λ u. front (or_l (eqb x y) (among x ys) u)) (among_append ys zs (λ u. front (or_r (eqb x y) (among x ys) u)) back) (or_e (eqb x y) (among x (ys ++ zs)) t)

  -- the numbers below n of which f doesn't hold
  pub among_unless : (f : ℕ → Bool) (n : ℕ) → T (among x (gather n (λ j. cond (f j) [] (j ∷ [])))) → (x < n) × T (not (f x))
  unfolding gather
  among_unless f zero t = none_of x t
  among_unless f (suc n) t =
      among_append (gather n (λ j. cond (f j) [] (j ∷ []))) (cond (f n) [] (n ∷ [])) (λ u. let r = among_unless f n u in (omega arith, r.1)) last t
    where
      last : T (among x (cond (f n) [] (n ∷ []))) → (x < suc n) × T (not (f x))
      last u =
          ⊎_elim (λ y. none_of x (subst (λ (b : Bool). T (among x (cond b [] (n ∷ [])))) (T_true (f n) y) u))
          (λ y. or_at x n [] (λ e. (omega arith, subst (λ (k : ℕ). T (not (f k))) (sym e) y)) (none_of x) (subst (λ (b : Bool). T (among x (cond b [] (n ∷ [])))) (T_false (f n) y) u))
          (decided (f n))

-- the numbers f 0, f 1, .. up to n - 1
pub among_list : (f : ℕ → ℕ) (n j : ℕ) → j < n → T (among (f j) (list_of n f))
unfolding list_of
among_list f zero j l = absurd (not-suc-le-zero l)
among_list f (suc n) j l =
    ⊎_elim (λ e. among_back (f j) (list_of n f) (f n ∷ []) (among_here (f j) (f n) [] (ap f e))) (λ k. among_front (f j) (list_of n f) (f n ∷ []) (among_list f n j k)) (below_suc j n l)

-- the numbers from a to b
pub among_range : (p a b : ℕ) → T (between a b p) → T (among p (list_of (suc b - a) (λ j. a + j)))
among_range p a b t =
    let l = leb→le a p (and_l (leb a p) (leb p b) t) in
    let h = leb→le p b (and_r (leb a p) (leb p b) t) in
    let back : a + (p - a) ≡ p = omega arith in
    subst (λ (k : ℕ). T (among k (list_of (suc b - a) (λ j. a + j)))) back (among_list (λ j. a + j) (suc b - a) (p - a) (omega arith))
