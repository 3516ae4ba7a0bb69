-- Tests as statements: taking `&&`, `not` and `cond` apart, going between `T b` and an equation of `b`, and comparing numbers.
use Prim.Native.Nat.{ℕ, ◌≤◌, ◌<◌}
use native.Mathlib.Decide.{dec_lt}
use native.Mathlib.Omega.{arith}
use mathlib.Core.Bool.{Bool, true, false, cond, not, ◌&&◌, ◌||◌}
use mathlib.Core.Logic.{◌⊎◌, inl, inr}
use mathlib.Core.Path.{◌≡◌, refl, sym, subst, ap, ◌∙◌}
use lib.Dec.{T, eqb, eqb→eq, eqb_refl}

pub and_l : (a b : Bool) → T (a && b) → T a
and_l true b t = tt
and_l false b t = t

pub and_r : (a b : Bool) → T (a && b) → T b
and_r true b t = t
and_r false b t = absurd t

pub and_i : (a b : Bool) → T a → T b → T (a && b)
and_i true b s t = t
and_i false b s t = s

pub or_e : (a b : Bool) → T (a || b) → T a ⊎ T b
or_e true b t = inl tt
or_e false b t = inr t

pub or_l : (a b : Bool) → T a → T (a || b)
or_l true b t = tt
or_l false b t = absurd t

pub or_r : (a b : Bool) → T b → T (a || b)
or_r true b t = tt
or_r false b t = t

pub T_true : (b : Bool) → T b → b ≡ true
T_true true t = refl
T_true false t = absurd t

pub true-T : (b : Bool) → b ≡ true → T b
true-T b e = subst T (sym e) tt

pub T_false : (b : Bool) → T (not b) → b ≡ false
T_false true t = absurd t
T_false false t = refl

pub false-T : (b : Bool) → b ≡ false → T (not b)
false-T b e = subst (λ (x : Bool). T (not x)) (sym e) tt

-- a test passes or its negation does
pub decided : (b : Bool) → T b ⊎ T (not b)
decided true = inl tt
decided false = inr tt

-- a test is true or false
pub either : (b : Bool) → (b ≡ true) ⊎ (b ≡ false)
either true = inl refl
either false = inr refl

-- two tests that say the same are equal
pub same_test : (a b : Bool) → (T a → T b) → (T b → T a) → a ≡ b
same_test true b f g = sym (T_true b (f tt))
same_test false true f g = absurd (g tt)
same_test false false f g = refl

pub and_both : (a b : Bool) → (a && b) ≡ true → (a ≡ true) × (b ≡ true)
and_both a b e = let t = true-T (a && b) e in (T_true a (and_l a b t), T_true b (and_r a b t))

-- the second tests are compared where the first holds
pub and_cong : (a a' b b' : Bool) → a ≡ a' → (T a → b ≡ b') → (a && b) ≡ (a' && b')
and_cong true a' b b' e f = f tt ∙ ap (λ (x : Bool). x && b') e
and_cong false a' b b' e f = ap (λ (x : Bool). x && b') e

pub no_both : (b : Bool) → T b → T (not b) → ⊥
no_both true s t = t
no_both false s t = s

pub not_i : (b : Bool) → (T b → ⊥) → T (not b)
not_i true f = f tt
not_i false f = tt

pub implies_e : (p q : Bool) → T (cond p q true) → T p → T q
implies_e true q t h = t
implies_e false q t h = absurd h

pub implies_i : (p q : Bool) → (T p → T q) → T (cond p q true)
implies_i true q f = f tt
implies_i false q f = tt

-- a `cond` whose test is known
pub cond_yes {ℓ} : {A : Type ℓ} (b : Bool) (x y : A) → T b → cond b x y ≡ x
cond_yes true x y t = refl
cond_yes false x y t = absurd t

pub cond_no {ℓ} : {A : Type ℓ} (b : Bool) (x y : A) → T (not b) → cond b x y ≡ y
cond_no true x y t = absurd t
cond_no false x y t = refl

-- what holds of both arms holds of a `cond`
pub cond_either {ℓ} : {A : Type ℓ} (P : A → Type 0) (b : Bool) (x y : A) → (T b → P x) → (T (not b) → P y) → P (cond b x y)
cond_either P true x y f g = f tt
cond_either P false x y f g = g tt

pub eq_T : (a b : ℕ) → a ≡ b → T (eqb a b)
eq_T a b e = subst (λ (k : ℕ). T (eqb a k)) e (eqb_refl a)

pub ne_T : (a b : ℕ) → (a ≡ b → ⊥) → T (not (eqb a b))
ne_T a b h = not_i (eqb a b) (λ t. h (eqb→eq a b t))

pub T_ne : (a b : ℕ) → T (not (eqb a b)) → a ≡ b → ⊥
T_ne a b t e = no_both (eqb a b) (eq_T a b e) t

-- a test counts one or nothing
pub one_most : (b : Bool) → cond b 1 0 ≤ 1
one_most true = omega arith
one_most false = omega arith

-- two numbers are equal or not
pub same? : (a b : ℕ) → (a ≡ b) ⊎ (a ≡ b → ⊥)
same? a b = go (decided (eqb a b))
  where
    go : T (eqb a b) ⊎ T (not (eqb a b)) → (a ≡ b) ⊎ (a ≡ b → ⊥)
    go (inl t) = inl (eqb→eq a b t)
    go (inr t) = inr (T_ne a b t)

-- n is below k, or not
pub below? : (k n : ℕ) → (n < k) ⊎ (k ≤ n)
below? k n = go (dec_lt n k)
  where
    go : Dec (n < k) → (n < k) ⊎ (k ≤ n)
    go (yes l) = inl l
    go (no h) = inr (omega arith)
