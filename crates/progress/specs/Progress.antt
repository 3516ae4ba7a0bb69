-- Lists of moves that make progress, their limit, and the table from which it is reached; tables that don't stand still (02 §7).
use Rattle.std.specs.Prelude.{ℕ, ◌+◌, ◌*◌, Bool, true, not, ◌&&◌, List, [], ◌∷◌, ◌≡◌, T, length}
use Rattle.definitions.specs.Bounds.{no_target}
use Rattle.definitions.specs.Chains.{table_after, Fits16, AllFit16}
use Rattle.definitions.specs.Moves.{is_retry, is_call, step_in, accepts_in}
use Rattle.definitions.specs.Table.{Storage, byte_table, fresh}
use Rattle.definitions.specs.Threads.{gather}
use Rattle.definitions.specs.declared.Request.{Request}
use Rattle.completeness.specs.Reached.{Reached}
use Rattle.theory.specs.Tables.{SoundBytes}

-- "a sequence of accepted moves without calls and without retries"
module _ {B : Type 0} (storage : Storage B) where
  unfoldable pub progresses_in : B → List Request → Bool
  progresses_in b [] = true
  progresses_in b (r ∷ rs) =
      accepts_in storage b r && (not (is_call r) && (not (is_retry (storage.table b) r) && progresses_in (step_in storage b r) rs))

abbrev pub progresses : List ℕ → List Request → Bool
progresses = progresses_in byte_table

-- "at most N × (3N + 5) moves"
abbrev pub most_progress : ℕ → ℕ
most_progress n = n * (3 * n + 5)

-- "the table with every thread in phase 9": the mutex is free, and no flag is set
unfoldable pub all_called : ℕ → List ℕ
all_called n = n ∷ 0 ∷ no_target ∷ gather n (λ i. 9 ∷ 0 ∷ 0 ∷ [])

-- the limit is reached for n: that table has the right size and is sound, and accepted moves from the fresh table lead to it;
-- from it a list of 16-bit requests makes that many accepted moves without calls and retries, and leaves the fresh table
pub record LimitReached (n : ℕ) : Type 0 where
  pub passes : SoundBytes (all_called n)
  pub reached : Reached n (all_called n)
  pub requests : List Request
  pub numbers : AllFit16 requests
  pub progress : T (progresses (all_called n) requests)
  pub many : length requests ≡ most_progress n
  pub leaves : table_after (all_called n) requests ≡ fresh n

-- some 16-bit request that is no call is accepted
abbrev pub CanMove : List ℕ → Type 0
CanMove table = (r : Request) × Fits16 r × T (not (is_call r)) × T (accepts_in byte_table table r)
