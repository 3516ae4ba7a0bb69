-- Laws of `every`, `some` and `how_many` over the threads below n: what they say of each thread, how to show them, and how a count changes with one thread. For every n.
use Prim.Native.Nat.{ℕ, zero, suc, ◌+◌, ◌≤◌, ◌<◌}
use native.Mathlib.Nat.{add-zero, not-suc-le-zero, le_of_suc-le-suc}
use native.Mathlib.Numerals.{add-one}
use native.Mathlib.Omega.{arith}
use mathlib.Core.Bool.{Bool, true, false, cond, not, ◌&&◌, ◌||◌, not-not}
use mathlib.Core.Logic.{◌⊎◌, inl, inr, ⊎_elim}
use mathlib.Core.Path.{◌≡◌, refl, sym, subst, ap, ◌∙◌}
use lib.Dec.{T, eqb, eqb-suc-zero}
use Rattle.definitions.specs.Threads.{every, some, how_many, implies}
use Rattle.basics.proofs.Tests.{and_l, and_r, and_i, or_e, or_l, or_r, T_true, T_false, decided, no_both, not_i, implies_e}

-- below suc n: below n, or n itself
pub below_suc : (i n : ℕ) → i < suc n → (i ≡ n) ⊎ (i < n)
below_suc zero zero l = inl refl
below_suc zero (suc n) l = inr (omega arith)
below_suc (suc i) zero l = absurd (not-suc-le-zero (le_of_suc-le-suc l))
below_suc (suc i) (suc n) l = ⊎_elim (λ e. inl (ap suc e)) (λ k. inr (omega arith)) (below_suc i n (le_of_suc-le-suc l))

module _ (f : ℕ → Bool) where
  pub every_at : (n : ℕ) → T (every n f) → (i : ℕ) → i < n → T (f i)
  unfolding every
  every_at zero t i h = absurd (not-suc-le-zero h)
  every_at (suc n) t i h =
      ⊎_elim (λ e. subst (λ (k : ℕ). T (f k)) (sym e) (and_r (every n f) (f n) t))
      (λ l. every_at n (and_l (every n f) (f n) t) i l)
      (below_suc i n h)

  pub every_i : (n : ℕ) → ((i : ℕ) → i < n → T (f i)) → T (every n f)
  unfolding every
  every_i zero h = tt
  every_i (suc n) h = and_i (every n f) (f n) (every_i n (λ i l. h i (omega arith))) (h n (omega arith))

  pub some_i : (n i : ℕ) → i < n → T (f i) → T (some n f)
  unfolding some
  some_i zero i h t = absurd (not-suc-le-zero h)
  some_i (suc n) i h t =
      ⊎_elim (λ e. or_r (some n f) (f n) (subst (λ (k : ℕ). T (f k)) e t)) (λ l. or_l (some n f) (f n) (some_i n i l t)) (below_suc i n h)

  pub some_e : (n : ℕ) → T (some n f) → (i : ℕ) × (i < n) × T (f i)
  unfolding some
  some_e zero t = absurd t
  some_e (suc n) t = ⊎_elim (λ u. let r = some_e n u in (r.0, omega arith, r.2)) (λ u. (n, omega arith, u)) (or_e (some n f) (f n) t)

  pub none_at : (n : ℕ) → T (not (some n f)) → (i : ℕ) → i < n → T (not (f i))
  none_at n t i h = not_i (f i) (λ u. no_both (some n f) (some_i n i h u) t)

  pub none_i : (n : ℕ) → ((i : ℕ) → i < n → T (not (f i))) → T (not (some n f))
  none_i n h = not_i (some n f) (λ u. let r = some_e n u in no_both (f r.0) r.2 (h r.0 r.1))

  pub not-every : (n : ℕ) → T (not (every n f)) → (i : ℕ) × (i < n) × T (not (f i))
  unfolding every
  not-every zero t = absurd t
  not-every (suc n) t = go (λ u. not-every n u) (decided (every n f)) (decided (f n))
    where
      go : (T (not (every n f)) → (i : ℕ) × (i < n) × T (not (f i))) → T (every n f) ⊎ T (not (every n f)) → T (f n) ⊎ T (not (f n)) → (i : ℕ) × (i < suc n) × T (not (f i))
      go rec (inr u) w = let r = rec u in (r.0, omega arith, r.2)
      go rec (inl u) (inr w) = (n, omega arith, w)
      go rec (inl u) (inl w) = absurd (no_both (every n f && f n) (and_i (every n f) (f n) u w) t)

  -- none counted
  pub how_many_none : (n : ℕ) → ((i : ℕ) → i < n → T (not (f i))) → how_many n f ≡ 0
  unfolding how_many
  how_many_none zero h = refl
  how_many_none (suc n) h = rw (how_many_none n (λ i l. h i (omega arith)), T_false (f n) (h n (omega arith)))

  -- all counted
  pub how_many-all : (n : ℕ) → ((i : ℕ) → i < n → T (f i)) → how_many n f ≡ n
  unfolding how_many
  how_many-all zero h = refl
  how_many-all (suc n) h = rw (how_many-all n (λ i l. h i (omega arith)), T_true (f n) (h n (omega arith))) (add-one n)

  -- a thread's share of the count
  pub how_many_at_lem : (n i : ℕ) → i < n → cond (f i) 1 0 ≤ how_many n f
  unfolding how_many
  how_many_at_lem zero i h = absurd (not-suc-le-zero h)
  how_many_at_lem (suc n) i h =
      ⊎_elim (λ e. subst (λ (k : ℕ). cond (f k) 1 0 ≤ how_many n f + cond (f n) 1 0) (sym e) (omega arith)) (λ l. omega (arith, how_many_at_lem n i l)) (below_suc i n h)

  pub how_many_pos : (n i : ℕ) → i < n → T (f i) → 1 ≤ how_many n f
  how_many_pos n i h t = rw (T_true (f i) t) at (how_many_at_lem n i h)

  pub how_many-most : (n : ℕ) → how_many n f ≤ n
  unfolding how_many
  how_many-most zero = omega arith
  how_many-most (suc n) = more (f n) (how_many-most n)
    where
      more : (b : Bool) → how_many n f ≤ n → how_many n f + cond b 1 0 ≤ suc n
      more true l = omega arith
      more false l = omega arith

  -- nobody is the same as a count of 0
  pub none_how_many : (n : ℕ) → not (some n f) ≡ eqb (how_many n f) 0
  unfolding some how_many
  none_how_many zero = refl
  none_how_many (suc n) = more (some n f) (f n) (how_many n f) (none_how_many n)
    where
      more : (s b : Bool) (m : ℕ) → not s ≡ eqb m 0 → not (s || b) ≡ eqb (m + cond b 1 0) 0
      more true true m e = sym (ap (λ (k : ℕ). eqb k 0) (add-one m) ∙ eqb-suc-zero m)
      more true false m e = e ∙ ap (λ (k : ℕ). eqb k 0) (sym (add-zero m))
      more false true m e = sym (ap (λ (k : ℕ). eqb k 0) (add-one m) ∙ eqb-suc-zero m)
      more false false m e = e ∙ ap (λ (k : ℕ). eqb k 0) (sym (add-zero m))

  -- and some
  pub some-how_many : (n : ℕ) → some n f ≡ not (eqb (how_many n f) 0)
  some-how_many n = sym (not-not (some n f)) ∙ ap not (none_how_many n)

  -- "at most one": two threads of which f holds are one
  pub at_most_one : (n : ℕ) → how_many n f ≤ 1 → (i j : ℕ) → i < n → j < n → T (f i) → T (f j) → i ≡ j
  unfolding how_many
  at_most_one zero h i j a b s t = absurd (not-suc-le-zero a)
  at_most_one (suc n) h i j a b s t = go (λ p k l. at_most_one n p i j k l s t) (below_suc i n a) (below_suc j n b)
    where
      last : (k : ℕ) → k ≡ n → T (f k) → how_many n f ≡ 0
      last k e u = let q = T_true (f n) (subst (λ (m : ℕ). T (f m)) e u) in let p : how_many n f + 1 ≤ 1 = rw q at h in omega arith

      go : (how_many n f ≤ 1 → i < n → j < n → i ≡ j) → (i ≡ n) ⊎ (i < n) → (j ≡ n) ⊎ (j < n) → i ≡ j
      go rec (inl e) (inl d) = e ∙ sym d
      go rec (inl e) (inr l) = absurd (let z = last i e s in let p = how_many_pos n j l t in omega arith)
      go rec (inr l) (inl d) = absurd (let z = last j d t in let p = how_many_pos n i l s in omega arith)
      go rec (inr k) (inr l) = rec (omega arith) k l

  -- and the other way: where two such threads are always one, at most one is counted
  pub one_at_most : (n : ℕ) → ((i j : ℕ) → i < n → j < n → T (f i) → T (f j) → i ≡ j) → how_many n f ≤ 1
  unfolding how_many
  one_at_most zero h = omega arith
  one_at_most (suc n) h = go (one_at_most n (λ i j k l. h i j (omega arith) (omega arith))) (decided (f n))
    where
      go : how_many n f ≤ 1 → T (f n) ⊎ T (not (f n)) → how_many n f + cond (f n) 1 0 ≤ 1
      go rec (inl t) =
          let z = how_many_none n (λ i l. not_i (f i) (λ u. let e = h i n (omega arith) (omega arith) u t in absurd (omega arith))) in
          rw (z, T_true (f n) t) (omega arith)
      go rec (inr t) = rw (T_false (f n) t) (omega arith)

-- two tests that agree below n
pub every-same : (n : ℕ) (f g : ℕ → Bool) → ((i : ℕ) → i < n → f i ≡ g i) → every n f ≡ every n g
unfolding every
every-same zero f g h = refl
every-same (suc n) f g h = cc (every-same n f g (λ i l. h i (omega arith)), h n (omega arith))

module _ (f g : ℕ → Bool) where
  -- g holds wherever f does
  pub implied : (n : ℕ) → T (every n (λ i. implies (f i) (g i))) → (i : ℕ) → i < n → T (f i) → T (g i)
  implied n t i l = implies_e (f i) (g i) (every_at (λ j. implies (f j) (g j)) n t i l)

  pub how_many-same : (n : ℕ) → ((i : ℕ) → i < n → f i ≡ g i) → how_many n f ≡ how_many n g
  unfolding how_many
  how_many-same zero h = refl
  how_many-same (suc n) h =
      ap (λ (m : ℕ). m + cond (f n) 1 0) (how_many-same n (λ i l. h i (omega arith)))
      ∙ ap (λ (b : Bool). how_many n g + cond b 1 0) (h n (omega arith))

  -- one thread changes, the others stay
  pub how_many-change : (n i : ℕ) → i < n → ((j : ℕ) → (j ≡ i → ⊥) → f j ≡ g j) → how_many n g + cond (f i) 1 0 ≡ how_many n f + cond (g i) 1 0
  unfolding how_many
  how_many-change zero i l h = absurd (not-suc-le-zero l)
  how_many-change (suc n) i l h =
      ⊎_elim
      (λ (e : i ≡ n).
      let u : ◌≡◌ {A = ℕ} (cond (f i) 1 0) (cond (f n) 1 0) = ap (λ (k : ℕ). cond (f k) 1 0) e in
      let v : ◌≡◌ {A = ℕ} (cond (g i) 1 0) (cond (g n) 1 0) = ap (λ (k : ℕ). cond (g k) 1 0) e in
      let w : how_many n f ≡ how_many n g = how_many-same n (λ j b. h j (omega arith)) in
      omega arith)
      (λ (b : i < n).
      let u : how_many n g + cond (f i) 1 0 ≡ how_many n f + cond (g i) 1 0 = how_many-change n i b h in
      let v : ◌≡◌ {A = ℕ} (cond (f n) 1 0) (cond (g n) 1 0) = ap (λ (c : Bool). cond c 1 0) (h n (omega arith)) in
      omega arith)
      (below_suc i n l)
