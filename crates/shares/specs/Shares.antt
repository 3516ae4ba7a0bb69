-- The share of an event in the length of a plan, in one number.
use Rattle.std.specs.Prelude.{ℕ, List, [], ◌∷◌, get_or, ◌+◌, ◌*◌, ◌/◌, ◌%◌, ◌^◌, ◌≤◌, ◌≡◌, length}
use Rattle.definitions.specs.Plan.{plan_of}

-- in a share a move that is made once is 1, and one that is made again for each thread this, more than a history's events make once
abbrev pub each : ℕ
each = 2 ^ 32

-- the moves of shares for n threads
abbrev pub moves_by_shares : ℕ → ℕ → ℕ
moves_by_shares n shares = shares % each + shares / each * n

-- the shares of the events by their codes
abbrev pub shares : List ℕ
shares = 0 ∷ 1 ∷ 3 ∷ 2 ∷ 1 ∷ 1 ∷ (2 + 2 * each) ∷ (2 + each) ∷ 1 ∷ []

-- the share of a code; none for one that is no event
unfoldable pub share_of : ℕ → ℕ
share_of code = get_or shares code 0

-- its plan's moves for any number of threads, few of either kind
pub record ShareOf (event share : ℕ) : Type 0 where
  pub whole : (n thread : ℕ) → moves_by_shares n share ≡ length (plan_of n (record { thread = thread; event = event }))
  pub once_most : share % each ≤ 3
  pub each-most : share / each ≤ 2
