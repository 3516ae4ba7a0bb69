-- Over a list that holds each of the threads below n once, in whatever order, a test says what it says of every thread below n (`all_once`), and a sum is that over the threads below n (`sum_once`).
-- The list of the threads in their order is such a list (`in_order`). For every n.
use Prim.Native.Nat.{ℕ, zero, suc, ◌+◌, ◌*◌, ◌<◌, ◌≤◌}
use native.Mathlib.Nat.{not-suc-le-zero, zero-add, zero-mul, one-mul, add-mul}
use native.Mathlib.Omega.{arith}
use mathlib.Core.Bool.{Bool, true, false, cond, not, ◌&&◌}
use mathlib.Core.List.{List, [], ◌∷◌, ◌++◌}
use mathlib.Core.Logic.{◌⊎◌, inl, inr}
use mathlib.Core.Path.{◌≡◌, refl, sym, subst, ap, ◌∙◌}
use lib.Dec.{T, ltb, eqb, eqb→eq, ltb→lt, lt→ltb}
use Rattle.definitions.specs.Threads.{every, sum_of, list_of}
use Rattle.basics.specs.EachOnce.{times_in, EachOnce, all_in, sum_in}
use Rattle.basics.proofs.Quantifiers.{every_at, every_i}
use Rattle.basics.proofs.Sums.{sum_same, sum_but, sum_zero}
use Rattle.basics.proofs.Tests.{and_l, and_r, and_i, same_test, decided, cond_yes, cond_no, not_i, eq_T, ne_T, below?, same?}

-- ---- lists behind each other

pub times-behind : (i : ℕ) (xs ys : List ℕ) → times_in i (xs ++ ys) ≡ times_in i xs + times_in i ys
times-behind i [] ys = omega arith
times-behind i (x ∷ xs) ys = let rest = times-behind i xs ys in omega arith

pub all-behind : (f : ℕ → Bool) (xs ys : List ℕ) → all_in f (xs ++ ys) ≡ (all_in f xs && all_in f ys)
all-behind f [] ys = refl
all-behind f (x ∷ xs) ys = ap (λ (b : Bool). f x && b) (all-behind f xs ys) ∙ joined (f x)
  where
    joined : (a : Bool) → (a && (all_in f xs && all_in f ys)) ≡ ((a && all_in f xs) && all_in f ys)
    joined true = refl
    joined false = refl

pub sum_behind : (f : ℕ → ℕ) (xs ys : List ℕ) → sum_in f (xs ++ ys) ≡ sum_in f xs + sum_in f ys
sum_behind f [] ys = omega arith
sum_behind f (x ∷ xs) ys = let rest = sum_behind f xs ys in omega arith

-- ---- each once

-- a test of a number, counted
one_yes : (b : Bool) → T b → ◌≡◌ {A = ℕ} (cond b 1 0) 1
one_yes b t = cond_yes b 1 0 t

one_no : (b : Bool) → T (not b) → ◌≡◌ {A = ℕ} (cond b 1 0) 0
one_no b t = cond_no b 1 0 t

pub none_once : EachOnce 0 []
none_once = record { times = λ i. sym (one_no (ltb i 0) (not_i (ltb i 0) (λ t. not-suc-le-zero (ltb→lt i 0 t)))) }

-- one thread more, in front of the list
pub once_more : (n : ℕ) (xs : List ℕ) → EachOnce n xs → EachOnce (suc n) (n ∷ xs)
once_more n xs h = record { times = λ i. by i (same? n i) (below? n i) }
  where
    by : (i : ℕ) → (n ≡ i) ⊎ (n ≡ i → ⊥) → (i < n) ⊎ (n ≤ i) → cond (eqb n i) 1 0 + times_in i xs ≡ cond (ltb i (suc n)) 1 0
    by i (inl e) (inl l) = absurd (omega arith)
    by i (inl e) (inr l) =
        let here = one_yes (eqb n i) (eq_T n i e) in
        let before = h.times i ∙ one_no (ltb i n) (not_i (ltb i n) (λ t. let k = ltb→lt i n t in absurd (omega arith))) in
        let after = one_yes (ltb i (suc n)) (lt→ltb i (suc n) (omega arith)) in
        omega arith
    by i (inr d) (inl l) =
        let here = one_no (eqb n i) (ne_T n i d) in
        let before = h.times i ∙ one_yes (ltb i n) (lt→ltb i n l) in
        let after = one_yes (ltb i (suc n)) (lt→ltb i (suc n) (omega arith)) in
        omega arith
    by i (inr d) (inr l) =
        let here = one_no (eqb n i) (ne_T n i d) in
        let before = h.times i ∙ one_no (ltb i n) (not_i (ltb i n) (λ t. let k = ltb→lt i n t in absurd (omega arith))) in
        let after = one_no (ltb i (suc n)) (not_i (ltb i (suc n)) (λ t. let k = ltb→lt i (suc n) t in d (omega arith))) in
        omega arith

-- the same threads in another order
pub once_as : {n : ℕ} {xs ys : List ℕ} → ((i : ℕ) → times_in i ys ≡ times_in i xs) → EachOnce n xs → EachOnce n ys
once_as e h = record { times = λ i. e i ∙ h.times i }

-- the threads in their order
pub in_order : (n : ℕ) → EachOnce n (list_of n (λ i. i))
unfolding list_of
in_order zero = none_once
in_order (suc n) =
    once_as (λ i. times-behind i (list_of n (λ j. j)) (n ∷ []) ∙ omega arith) (once_more n (list_of n (λ i. i)) (in_order n))

-- what stands in the list is a thread below n
pub there : {n : ℕ} {xs : List ℕ} → EachOnce n xs → (i : ℕ) → 1 ≤ times_in i xs → i < n
there {n} {xs} h i l = by (decided (ltb i n))
  where
    by : T (ltb i n) ⊎ T (not (ltb i n)) → i < n
    by (inl t) = ltb→lt i n t
    by (inr t) = let none = h.times i ∙ one_no (ltb i n) t in absurd (omega arith)

-- ---- tests

module _ (f : ℕ → Bool) where
  pub all_at : (xs : List ℕ) → T (all_in f xs) → (i : ℕ) → 1 ≤ times_in i xs → T (f i)
  all_at [] t i l = absurd (not-suc-le-zero l)
  all_at (x ∷ xs) t i l = by (decided (eqb x i)) (all_at xs (and_r (f x) (all_in f xs) t) i)
    where
      by : T (eqb x i) ⊎ T (not (eqb x i)) → (1 ≤ times_in i xs → T (f i)) → T (f i)
      by (inl u) rec = subst (λ (k : ℕ). T (f k)) (eqb→eq x i u) (and_l (f x) (all_in f xs) t)
      by (inr u) rec = let none = one_no (eqb x i) u in rec (omega arith)

  pub all_i : (xs : List ℕ) → ((i : ℕ) → 1 ≤ times_in i xs → T (f i)) → T (all_in f xs)
  all_i [] h = tt
  all_i (x ∷ xs) h =
      let here = one_yes (eqb x x) (eq_T x x refl) in
      and_i (f x) (all_in f xs) (h x (omega arith)) (all_i xs (λ i l. h i (omega arith)))

  module _ {n : ℕ} {xs : List ℕ} (h : EachOnce n xs) where
    pub all_once : all_in f xs ≡ every n f
    all_once =
        same_test (all_in f xs) (every n f)
        (λ t. every_i f n (λ i l. all_at xs t i (let e = h.times i ∙ one_yes (ltb i n) (lt→ltb i n l) in omega arith)))
        (λ t. all_i xs (λ i l. every_at f n t i (there h i l)))

-- ---- sums

module _ (f : ℕ → ℕ) (n : ℕ) where
  -- a sum over a list of threads below n, thread by thread: as often as it stands there
  weighed : (xs : List ℕ) → ((i : ℕ) → 1 ≤ times_in i xs → i < n) → sum_in f xs ≡ sum_of n (λ i. times_in i xs * f i)
  weighed [] h = sym (sum_same n (λ i. 0) (λ i. 0 * f i) (λ i l. zero-mul (f i)) ∙ sum_zero n)
  weighed (x ∷ xs) h =
      let here = one_yes (eqb x x) (eq_T x x refl) in
      let rest = weighed xs (λ i l. h i (omega arith)) in
      let other : (j : ℕ) → (j ≡ x → ⊥) → times_in j (x ∷ xs) * f j ≡ times_in j xs * f j = λ j d.
      ap (λ (k : ℕ). (k + times_in j xs) * f j) (one_no (eqb x j) (ne_T x j (λ e. d (sym e)))) ∙ ap (λ (k : ℕ). k * f j) (zero-add (times_in j xs)) in
      let more = sum_but n (λ i. times_in i xs * f i) (λ i. times_in i (x ∷ xs) * f i) x (h x (omega arith)) other in
      let one : times_in x (x ∷ xs) * f x ≡ f x + times_in x xs * f x =
      ap (λ (k : ℕ). (k + times_in x xs) * f x) here ∙ (add-mul 1 (times_in x xs) (f x) ∙ ap (λ (k : ℕ). k + times_in x xs * f x) (one-mul (f x))) in
      omega arith

  pub sum_once : {xs : List ℕ} → EachOnce n xs → sum_in f xs ≡ sum_of n f
  sum_once {xs} h =
      weighed xs (there h)
      ∙ sum_same n f (λ i. times_in i xs * f i) (λ i l. ap (λ (k : ℕ). k * f i) (h.times i ∙ one_yes (ltb i n) (lt→ltb i n l)) ∙ one-mul (f i))
