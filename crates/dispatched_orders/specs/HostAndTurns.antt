-- Requests of the host and turns of a dispatcher, in any order (02 §8).
use Rattle.std.specs.Prelude.{ℕ, ◌≤◌, List, T}
use Rattle.definitions.specs.Bounds.{most_threads}
use Rattle.definitions.specs.PlainLock.{permitted}
use Rattle.definitions.specs.Table.{fresh}
use Rattle.dispatched_orders.specs.Steps.{Step, NameTurns, shown_by, AsRequests}

pub record HostAndTurns : Type 0 where
  -- Demand 3 with a dispatcher: requests of the host and turns, in any order and each by a choice of its own that names a thread which has a turn, show and leave what `requests_by` does,
  -- the host's requests with each turn's move in its place. So what they show from a fresh table is permitted. The dispatcher's choice is such a one (`mover_names`).
  pub as_requests : (table : List ℕ) (xs : List Step) → NameTurns xs → AsRequests table xs
  pub steps_safe : (n : ℕ) → 1 ≤ n → n ≤ most_threads → (xs : List Step) → NameTurns xs → T (permitted n (shown_by (fresh n) xs))
