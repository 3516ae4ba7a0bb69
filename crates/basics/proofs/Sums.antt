-- Sums over the threads below n of a number that goes by a column of theirs: how such a sum changes with one entry of the column. For every n.
use Prim.Native.Nat.{ℕ, zero, suc, ◌+◌, ◌*◌, ◌≤◌, ◌<◌}
use native.Mathlib.Nat.{not-suc-le-zero, suc-mul}
use native.Mathlib.Omega.{arith}
use mathlib.Core.Logic.{⊎_elim}
use mathlib.Core.Path.{◌≡◌, refl, sym, subst, ap}
use Rattle.definitions.specs.Table.{update}
use Rattle.definitions.specs.Threads.{sum_of}
use Rattle.basics.proofs.Quantifiers.{below_suc}
use Rattle.basics.proofs.Columns.{update_same, update_other}

-- two functions that agree below n
pub sum_same : (n : ℕ) (f g : ℕ → ℕ) → ((j : ℕ) → j < n → g j ≡ f j) → sum_of n g ≡ sum_of n f
sum_same zero f g h = refl
sum_same (suc n) f g h = let rest = sum_same n f g (λ j l. h j (omega arith)) in let here = h n (omega arith) in omega arith

-- g is f but at i, below n
pub sum_but_below : (n : ℕ) (f g : ℕ → ℕ) (i : ℕ) → i < n → ((j : ℕ) → j < n → (j ≡ i → ⊥) → g j ≡ f j) → sum_of n g + f i ≡ sum_of n f + g i
sum_but_below zero f g i l others = absurd (not-suc-le-zero l)
sum_but_below (suc n) f g i l others =
    ⊎_elim
    (λ e.
    let rest = sum_same n f g (λ j k. others j (omega arith) (λ z. omega arith)) in
    subst (λ (k : ℕ). sum_of n g + g n + f k ≡ sum_of n f + f n + g k) (sym e) (omega arith))
    (λ k. let rest = sum_but_below n f g i k (λ j m. others j (omega arith)) in let last = others n (omega arith) (λ z. omega arith) in omega arith)
    (below_suc i n l)

-- g is f but at i
pub sum_but : (n : ℕ) (f g : ℕ → ℕ) (i : ℕ) → i < n → ((j : ℕ) → (j ≡ i → ⊥) → g j ≡ f j) → sum_of n g + f i ≡ sum_of n f + g i
sum_but n f g i l others = sum_but_below n f g i l (λ j k. others j)

-- thread i's entry becomes v
pub sum_update : (n : ℕ) (f column : ℕ → ℕ) (i v : ℕ) → i < n → sum_of n (λ j. f (update column i v j)) + f (column i) ≡ sum_of n (λ j. f (column j)) + f v
sum_update n f column i v l =
    let change = sum_but n (λ j. f (column j)) (λ j. f (update column i v j)) i l (λ j h. ap f (update_other column i v j h)) in
    let after = ap f (update_same column i v i refl) in
    omega arith

pub sum_zero : (n : ℕ) → sum_of n (λ j. 0) ≡ 0
sum_zero zero = refl
sum_zero (suc n) = let rest = sum_zero n in omega arith

-- each entry of f is at most that of g and e together
pub sum_within : (n : ℕ) (f g e : ℕ → ℕ) → ((j : ℕ) → j < n → f j ≤ g j + e j) → sum_of n f ≤ sum_of n g + sum_of n e
sum_within zero f g e h = omega arith
sum_within (suc n) f g e h = omega (arith, sum_within n f g e (λ j l. h j (omega arith)), h n (omega arith))

-- every entry is at most m, and every entry is m
module _ (f : ℕ → ℕ) (m : ℕ) where
  pub sum_most : (n : ℕ) → ((j : ℕ) → j < n → f j ≤ m) → sum_of n f ≤ n * m
  sum_most zero h = omega arith
  sum_most (suc n) h = omega (arith, sum_most n (λ j l. h j (omega arith)), h n (omega arith), suc-mul n m)

  pub sum_each : (n : ℕ) → ((j : ℕ) → j < n → f j ≡ m) → sum_of n f ≡ n * m
  sum_each zero h = omega arith
  sum_each (suc n) h = omega (arith, sum_each n (λ j l. h j (omega arith)), h n (omega arith), suc-mul n m)
