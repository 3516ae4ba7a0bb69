-- The tables that moves leave.
use Rattle.std.specs.Prelude.{ℕ, List, ◌≡◌, T}
use Rattle.definitions.specs.Chains.{table_after, accepts_all, AllFit16}
use Rattle.definitions.specs.Table.{fresh}
use Rattle.definitions.specs.declared.Request.{Request}

-- "reached from the fresh table by some sequence of accepted moves" (02 §6): some list of 16-bit requests, accepted throughout from the fresh table for n, leaves exactly these bytes
pub record Reached (n : ℕ) (bytes : List ℕ) : Type 0 where
  pub requests : List Request
  pub numbers : AllFit16 requests
  pub all-accepted : T (accepts_all (fresh n) requests)
  pub leaves : table_after (fresh n) requests ≡ bytes
