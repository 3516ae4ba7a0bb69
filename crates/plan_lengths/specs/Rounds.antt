-- The words of the theorems on how long a plan will be: how often an event stands in a history, what its rounds take, finished or not, and the history with the longest plan.
use Rattle.std.specs.Prelude.{ℕ, ◌+◌, ◌*◌, cond, List, [], ◌∷◌, ◌++◌, eqb, get_or}
use Rattle.definitions.specs.PlainLock.{Pair, at_start, places_after}
use Rattle.definitions.specs.Threads.{gather, sum_of}
use Rattle.orders.specs.Histories.{pair_of}

-- ---- rounds

-- how often an event stands in a history
unfoldable pub how_often : ℕ → List Pair → ℕ
how_often event [] = 0
how_often event (x ∷ xs) = cond (eqb x.event event) 1 0 + how_often event xs

-- "A full shared round takes 7 moves and a full exclusive round 3N + 6."
abbrev pub shared_round : ℕ
shared_round = 7

abbrev pub exclusive_round : ℕ → ℕ
exclusive_round n = 3 * n + 6

-- the moves of a round that has come to a place, a column for the places 0 to 7; nobody is ever at place 4
abbrev pub begun_column : ℕ → List ℕ
begun_column n = 0 ∷ 1 ∷ 4 ∷ 6 ∷ 0 ∷ 1 ∷ (2 * n + 3) ∷ (3 * n + 5) ∷ []

unfoldable pub begun : ℕ → ℕ → ℕ
begun n place = get_or (begun_column n) place 0

-- the moves of a history by its rounds: those that end, shared ones by event 4 and exclusive ones by event 8, and the one that each thread is in at the end
unfoldable pub by_rounds : ℕ → List Pair → ℕ
by_rounds n h = shared_round * how_often 4 h + exclusive_round n * how_often 8 h + sum_of n (λ t. begun n (places_after at_start h t))

-- ---- the longest plan

-- a thread goes round in exclusive, or goes as far as its 7
abbrev pub whole_round : ℕ → List Pair
whole_round t = pair_of t 5 ∷ pair_of t 6 ∷ pair_of t 7 ∷ pair_of t 8 ∷ []

abbrev pub unfinished : ℕ → List Pair
unfinished t = pair_of t 5 ∷ pair_of t 6 ∷ pair_of t 7 ∷ []

-- thread 0 goes round so many times, then each thread goes as far as its 7 and stops
unfoldable pub longest : ℕ → ℕ → List Pair
longest n times = gather times (λ k. whole_round 0) ++ gather n unfinished

-- the most moves of a plan for a history that the check passes, and the most bytes
abbrev pub most_moves : ℕ
most_moves = 4_575_100

abbrev pub most_plan_bytes : ℕ
most_plan_bytes = 13_725_300
