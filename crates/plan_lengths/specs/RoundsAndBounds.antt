-- How long a plan is: by the rounds of its history, and at most (02 §4).
use Rattle.std.specs.Prelude.{ℕ, ◌+◌, ◌*◌, ◌≤◌, List, ◌∷◌, ◌++◌, ◌≡◌, T, length}
use Rattle.definitions.specs.Answers.{accepted}
use Rattle.definitions.specs.PlainLock.{Pair, pairs_of, permitted}
use Rattle.definitions.specs.Plan.{plan, bytes_of, plan_length_reply}
use Rattle.orders.specs.Histories.{pair_of, AllBytes}
use Rattle.plan_lengths.specs.Rounds.{shared_round, exclusive_round, by_rounds, longest, most_moves, most_plan_bytes}

pub record RoundsAndBounds : Type 0 where
  -- A full shared round takes 7 moves and a full exclusive one 3N + 6, whatever stands between its events. So the length is that of the rounds that end, and of the round that each thread is in.
  pub shared_round_lem : (n t : ℕ) (a b c d e : List Pair) → length (plan n (a ++ (pair_of t 1 ∷ b) ++ (pair_of t 2 ∷ c) ++ (pair_of t 3 ∷ d) ++ (pair_of t 4 ∷ e)))
      ≡ shared_round + length (plan n (a ++ b ++ c ++ d ++ e))
  pub exclusive_round_lem : (n t : ℕ) (a b c d e : List Pair) → length (plan n (a ++ (pair_of t 5 ∷ b) ++ (pair_of t 6 ∷ c) ++ (pair_of t 7 ∷ d) ++ (pair_of t 8 ∷ e)))
      ≡ exclusive_round n + length (plan n (a ++ b ++ c ++ d ++ e))
  pub length_rounds : (n : ℕ) (bytes : List ℕ) (k : ℕ) → plan_length_reply n bytes ≡ accepted k → k ≡ by_rounds n (pairs_of bytes)
  -- A bound by N and the number of events, which some histories come to for every N; and the longest plan there is.
  pub plan_bound : (n : ℕ) (bytes : List ℕ) (k : ℕ) → plan_length_reply n bytes ≡ accepted k → 4 * k ≤ (3 * n + 6) * length (pairs_of bytes) + (3 * n + 2) * n
  pub bound_reached : (n times : ℕ) → 1 ≤ n → let h = longest n times in T (permitted n h) × (4 * length (plan n h) ≡ (3 * n + 6) * length h + (3 * n + 2) * n)
  pub longest-plan : (n : ℕ) (bytes : List ℕ) (k : ℕ) → plan_length_reply n bytes ≡ accepted k → (k ≤ most_moves) × (3 * k ≤ most_plan_bytes)
  pub longest-reached : (bytes : List ℕ) × AllBytes bytes × (plan_length_reply 200 bytes ≡ accepted most_moves) × (length (bytes_of (plan 200 (pairs_of bytes))) ≡ most_plan_bytes)
