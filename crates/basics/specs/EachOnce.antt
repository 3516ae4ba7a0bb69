-- A list that holds each of the threads 0 to n - 1 once and nothing else, in whatever order; a test and a sum over a list.
use Rattle.std.specs.Prelude.{ℕ, ◌+◌, Bool, true, cond, ◌&&◌, List, [], ◌∷◌, ◌≡◌, ltb, eqb}

-- how often i stands in a list
abbrev pub times_in : ℕ → List ℕ → ℕ
times_in i [] = 0
times_in i (x ∷ xs) = cond (eqb x i) 1 0 + times_in i xs

-- each thread below n stands in the list once, and nothing else does
pub record EachOnce (n : ℕ) (xs : List ℕ) : Type 0 where
  pub times : (i : ℕ) → times_in i xs ≡ cond (ltb i n) 1 0

-- f holds of all of a list
abbrev pub all_in : (ℕ → Bool) → List ℕ → Bool
all_in f [] = true
all_in f (x ∷ xs) = f x && all_in f xs

-- f of each of a list, added up
abbrev pub sum_in : (ℕ → ℕ) → List ℕ → ℕ
sum_in f [] = 0
sum_in f (x ∷ xs) = f x + sum_in f xs
