-- Words on the threads 0 to n - 1, and on short lists: every, some, how many, the lowest; a sum; one entry for each; membership; a list of rules.
-- What the papers say of threads is said by these.
use Rattle.std.specs.Prelude.{ℕ, zero, suc, ◌+◌, Bool, true, false, cond, ◌&&◌, ◌||◌, List, [], ◌∷◌, ◌++◌, leb, eqb}

-- f holds of every thread below n
unfoldable pub every : ℕ → (ℕ → Bool) → Bool
every zero f = true
every (suc n) f = every n f && f n

-- f holds of some thread below n
unfoldable pub some : ℕ → (ℕ → Bool) → Bool
some zero f = false
some (suc n) f = some n f || f n

-- of how many threads below n f holds
unfoldable pub how_many : ℕ → (ℕ → Bool) → ℕ
how_many zero f = 0
how_many (suc n) f = how_many n f + cond (f n) 1 0

-- the lowest thread below n of which f holds, and n where there is none
unfoldable pub lowest : ℕ → (ℕ → Bool) → ℕ
lowest zero f = 0
lowest (suc n) f = cond (some n f) (lowest n f) (cond (f n) n (suc n))

-- f 0 + f 1 + .. up to n - 1
abbrev pub sum_of : ℕ → (ℕ → ℕ) → ℕ
sum_of zero f = 0
sum_of (suc n) f = sum_of n f + f n

-- f 0, f 1, .. up to n - 1
unfoldable pub list_of {ℓ} : {A : Type ℓ} → ℕ → (ℕ → A) → List A
list_of zero f = []
list_of (suc n) f = list_of n f ++ (f n ∷ [])

-- the lists f 0, f 1, .. up to n - 1, one behind the other
unfoldable pub gather {ℓ} : {A : Type ℓ} → ℕ → (ℕ → List A) → List A
gather zero f = []
gather (suc n) f = gather n f ++ f n

-- x is one of the numbers of a list
unfoldable pub among : ℕ → List ℕ → Bool
among x [] = false
among x (y ∷ ys) = eqb x y || among x ys

-- x is from a to b
abbrev pub between : ℕ → ℕ → ℕ → Bool
between a b x = leb a x && leb x b

-- all of a list of rules hold
unfoldable pub all_of : List Bool → Bool
all_of [] = true
all_of (r ∷ rs) = r && all_of rs

-- a rule that holds where its condition doesn't
abbrev pub implies : Bool → Bool → Bool
implies p q = cond p q true
