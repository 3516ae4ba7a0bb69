-- "A full shared round takes 7 moves and a full exclusive round 3N + 6.", whatever stands between its events (`shared_round_lem`, `exclusive_round_lem`). So the length of a plan is the sum over the
-- rounds of its history, "also for histories that stop in the middle of a round": those that end, and for each thread the one that it is in (`rounds`, `length_by_rounds`). For every N.
use Prim.Native.Nat.{ℕ, ◌+◌}
use native.Mathlib.Omega.{arith}
use mathlib.Core.List.{List, ◌∷◌, ◌++◌}
use mathlib.Core.Path.{◌≡◌, refl, sym, ◌∙◌}
use lib.Dec.{T}
use lib.ListN.{length}
use Rattle.definitions.specs.Answers.{accepted}
use Rattle.definitions.specs.PlainLock.{Pair, pairs_of, permitted}
use Rattle.definitions.specs.Plan.{plan, plan_length_reply}
use Rattle.plan_lengths.specs.Rounds.{shared_round, exclusive_round, begun, by_rounds}
use Rattle.orders.specs.Histories.{pair_of}
use Rattle.orders.proofs.CheckReply.{passes_e}
use Rattle.plan_lengths.proofs.ByRounds.{AddsUp, by_rounds_lem}
use Rattle.theory.proofs.PlanLengths.{moves_for, moves_more, moves_append}
use Rattle.theory.proofs.SameCount.{length_e}

-- ---- one round

-- A history from which four events of a thread are taken out: its plan is so much shorter.
module _ (n t : ℕ) (a b c d e : List Pair) where
  -- whatever the events are
  four_events : (w x y z : ℕ)
      → length (plan n (a ++ (pair_of t w ∷ b) ++ (pair_of t x ∷ c) ++ (pair_of t y ∷ d) ++ (pair_of t z ∷ e)))
      ≡ moves_for n w + moves_for n x + moves_for n y + moves_for n z + length (plan n (a ++ b ++ c ++ d ++ e))
  four_events w x y z = simp (moves_append n, moves_more n) (omega arith)

  pub shared_round_lem : length (plan n (a ++ (pair_of t 1 ∷ b) ++ (pair_of t 2 ∷ c) ++ (pair_of t 3 ∷ d) ++ (pair_of t 4 ∷ e)))
      ≡ shared_round + length (plan n (a ++ b ++ c ++ d ++ e))
  unfolding moves_for
  shared_round_lem = four_events 1 2 3 4

  pub exclusive_round_lem : length (plan n (a ++ (pair_of t 5 ∷ b) ++ (pair_of t 6 ∷ c) ++ (pair_of t 7 ∷ d) ++ (pair_of t 8 ∷ e)))
      ≡ exclusive_round n + length (plan n (a ++ b ++ c ++ d ++ e))
  unfolding moves_for
  exclusive_round_lem = omega (arith, four_events 5 6 7 8)

-- ---- all rounds

moves_add : (n : ℕ) → AddsUp (λ h. length (plan n h)) (moves_for n) (begun n) shared_round (exclusive_round n)
unfolding plan moves_for begun
moves_add n = record { none = refl; more = moves_more n; start = refl; calls = omega arith; goes = omega arith }

-- The plan for a permitted history has the moves of its rounds.
pub rounds : (n : ℕ) (h : List Pair) → T (permitted n h) → length (plan n h) ≡ by_rounds n h
unfolding by_rounds
rounds n = by_rounds_lem (λ h. length (plan n h)) (moves_for n) (begun n) shared_round (exclusive_round n) (moves_add n) n

-- And so it is answered.
pub length_by_rounds : (n : ℕ) (bytes : List ℕ) (k : ℕ) → plan_length_reply n bytes ≡ accepted k → k ≡ by_rounds n (pairs_of bytes)
length_by_rounds n bytes k e = let (tested, same) = length_e n bytes k e in sym same ∙ rounds n (pairs_of bytes) (passes_e n bytes tested).allowed
