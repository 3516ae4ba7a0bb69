-- Examples of the refusals "in checking order" against the definitions: each request or history fails the tests of two refusals or more, and is answered by the first. Every line computes.
use Prim.Native.Nat.{ℕ}
use mathlib.Core.List.{List, [], ◌∷◌}
use mathlib.Core.Path.{◌≡◌, refl}
use Rattle.definitions.specs.Answers.{refused, passes_all, answered, delivery_reply}
use Rattle.definitions.specs.Codes.{go, hold}
use Rattle.definitions.specs.Moves.{ask, reply_in, move_reply}
use Rattle.definitions.specs.Phases.{rows}
use Rattle.definitions.specs.PlainLock.{pairs_of, places_after, tests_of, check_reply}
use Rattle.definitions.specs.Plan.{plan_of, plan, bytes_of, plan_entry}
use Rattle.definitions.specs.Sound.{sound, phase_rule, flag_rule, busy_rule, holder_rule, mutex_rule, target_rule, open_rule, rule10, rule11, rule13, rule15, elsewhere_rule}
use Rattle.definitions.specs.Table.{sized, fresh}
use Rattle.definitions.specs.Threads.{every, some, how_many, among, all_of, gather}

-- the mutex is 1 and nobody holds it: "2 1 255 and six zeros: refusal 2."
abbrev unsound : List ℕ
unsound = 2 ∷ 1 ∷ 255 ∷ 0 ∷ 0 ∷ 0 ∷ 0 ∷ 0 ∷ 0 ∷ []

pub record RefusingExamples : Type 0 where
  -- a request
  pub one_before_two : move_reply (3 ∷ unsound) (ask 0 go 0) ≡ refused 1 0
  pub two_before_three : move_reply unsound (ask 2 go 0) ≡ refused 2 0
  pub three_before_four : move_reply (fresh 2) (ask 2 7 0) ≡ refused 3 0
  pub four_before_five : move_reply (fresh 2) (ask 0 7 1) ≡ refused 4 0
  pub five_before_six : move_reply (fresh 2) (ask 0 go 1) ≡ refused 5 0
  pub six_before_seven : move_reply (2 ∷ 1 ∷ 255 ∷ 9 ∷ 0 ∷ 0 ∷ 10 ∷ 0 ∷ 0 ∷ []) (ask 0 hold 0) ≡ refused 6 0
  -- a history
  pub one_before_eight : check_reply 0 (0 ∷ []) ≡ refused 1 0
  pub eight_before_nine : check_reply 1 (1 ∷ 9 ∷ 0 ∷ []) ≡ refused 8 0
  pub nine_before_ten : check_reply 1 (1 ∷ 2 ∷ []) ≡ refused 9 0
  pub ten_before_eleven : check_reply 2 (0 ∷ 5 ∷ 0 ∷ 6 ∷ 1 ∷ 6 ∷ []) ≡ refused 10 2
  -- "each pair tried for all three before the next"
  pub pair_by_pair : check_reply 1 (0 ∷ 2 ∷ 0 ∷ 9 ∷ []) ≡ refused 10 0
  -- and a short output last
  pub eleven_before_twelve : delivery_reply (plan_entry 2 (0 ∷ 5 ∷ 0 ∷ 6 ∷ 1 ∷ 1 ∷ 1 ∷ 2 ∷ [])) [] ≡ refused 11 3

pub refusing_examples : RefusingExamples
unfolding fresh every some how_many among all_of gather passes_all answered delivery_reply sized rows sound phase_rule flag_rule busy_rule holder_rule mutex_rule target_rule open_rule rule10 rule11 rule13 rule15 elsewhere_rule reply_in pairs_of places_after tests_of check_reply plan_of plan bytes_of
refusing_examples =
    record {
      one_before_two = refl;
      two_before_three = refl;
      three_before_four = refl;
      four_before_five = refl;
      five_before_six = refl;
      six_before_seven = refl;
      one_before_eight = refl;
      eight_before_nine = refl;
      nine_before_ten = refl;
      ten_before_eleven = refl;
      pair_by_pair = refl;
      eleven_before_twelve = refl;
    }
