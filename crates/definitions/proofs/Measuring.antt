-- Examples of 02 §4, how long the plan will be, against the definitions. Every line computes.
use Prim.Native.Nat.{ℕ}
use mathlib.Core.List.{List, [], ◌∷◌}
use mathlib.Core.Path.{◌≡◌, refl}
use Rattle.definitions.specs.Answers.{accepted, refused, answered}
use Rattle.definitions.specs.PlainLock.{pairs_of, places_after, tests_of}
use Rattle.definitions.specs.Plan.{plan_of, plan, plan_length_reply}
use Rattle.definitions.specs.Threads.{every, some, gather}

-- a reader's round, and two threads' rounds of which one is a writer's, the one between the other's events
abbrev shared : List ℕ
shared = 0 ∷ 1 ∷ 0 ∷ 2 ∷ 0 ∷ 3 ∷ 0 ∷ 4 ∷ []

abbrev mixed : List ℕ
mixed = 1 ∷ 5 ∷ 0 ∷ 1 ∷ 1 ∷ 6 ∷ 1 ∷ 7 ∷ 0 ∷ 2 ∷ 1 ∷ 8 ∷ 0 ∷ 3 ∷ 0 ∷ 4 ∷ []

pub record MeasuringExamples : Type 0 where
  pub none : plan_length_reply 1 [] ≡ accepted 0
  -- "A full shared round takes 7 moves and a full exclusive round 3N + 6."
  pub shared_round_lem : (plan_length_reply 1 shared ≡ accepted 7) × (plan_length_reply 4 shared ≡ accepted 7)
  pub exclusive_round_lem : (plan_length_reply 1 (0 ∷ 5 ∷ 0 ∷ 6 ∷ 0 ∷ 7 ∷ 0 ∷ 8 ∷ []) ≡ accepted 9) × (plan_length_reply 4 (0 ∷ 5 ∷ 0 ∷ 6 ∷ 0 ∷ 7 ∷ 0 ∷ 8 ∷ []) ≡ accepted 18)
  pub both_rounds : plan_length_reply 2 mixed ≡ accepted 19
  -- "also for histories that stop in the middle of a round": M12's, and one more event
  pub stops : (plan_length_reply 1 (0 ∷ 5 ∷ 0 ∷ 6 ∷ []) ≡ accepted 5) × (plan_length_reply 1 (0 ∷ 5 ∷ 0 ∷ 6 ∷ 0 ∷ 7 ∷ []) ≡ accepted 8)
  pub reader-stops : (plan_length_reply 4 (3 ∷ 1 ∷ []) ≡ accepted 1) × (plan_length_reply 4 (3 ∷ 1 ∷ 3 ∷ 2 ∷ []) ≡ accepted 4) × (plan_length_reply 4 (3 ∷ 1 ∷ 3 ∷ 2 ∷ 3 ∷ 3 ∷ []) ≡ accepted 6)
  -- "A history that the check turns down gets the check's number and place."
  pub refusals : (plan_length_reply 0 (0 ∷ []) ≡ refused 1 0) × (plan_length_reply 1 (0 ∷ []) ≡ refused 8 0) × (plan_length_reply 1 (0 ∷ 1 ∷ 1 ∷ 1 ∷ []) ≡ refused 9 1)
  pub refused-pairs : (plan_length_reply 1 (0 ∷ 2 ∷ []) ≡ refused 10 0) × (plan_length_reply 2 (0 ∷ 1 ∷ 0 ∷ 2 ∷ 1 ∷ 5 ∷ 1 ∷ 6 ∷ []) ≡ refused 11 3)

pub measuring_examples : MeasuringExamples
unfolding answered pairs_of places_after tests_of plan_of plan plan_length_reply every some gather
measuring_examples =
    record {
      none = refl;
      shared_round_lem = (refl, refl);
      exclusive_round_lem = (refl, refl);
      both_rounds = refl;
      stops = (refl, refl);
      reader-stops = (refl, refl, refl);
      refusals = (refl, refl, refl);
      refused-pairs = (refl, refl);
    }
