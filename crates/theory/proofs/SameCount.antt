-- "The answer is the very count that the plan then reports": the number that is answered of a plan's length is the one that the plan entry answers (`planned-count`, `same_count`,
-- `counted_somewhere`), given three bytes of output a move (`enough`) and not with less (`too_short`). "A history that the check turns down gets the check's number and place.": what is
-- answered is a number exactly where the check answers one (`accepted_alike`, `accepted-check`), and else the check's refusal (`refused_alike`, `refused-plan`). For every N and all bytes.
use Prim.Native.Nat.{ℕ, ◌*◌, ◌≤◌, ◌<◌}
use native.Mathlib.Omega.{arith}
use mathlib.Core.List.{List}
use mathlib.Core.Logic.{◌↔◌}
use mathlib.Core.Path.{◌≡◌, refl, sym, ap, ◌∙◌}
use lib.Dec.{T}
use lib.ListN.{length}
use Rattle.definitions.specs.Answers.{accepted, refused, passes_all, filled, delivery_reply}
use Rattle.definitions.specs.PlainLock.{pairs_of, check_tests, check_reply}
use Rattle.definitions.specs.Plan.{plan, bytes_of, plan_entry, plan_length_reply}
use Rattle.definitions.specs.declared.Request.{Request}
use Rattle.basics.specs.Outputs.{Delivered}
use Rattle.theory.proofs.Lengths.{bytes-length}
use Rattle.basics.proofs.Outputs.{turned_down, no_room, whole, answered_so}
use Rattle.basics.proofs.Replies.{all-passed}
use Rattle.basics.proofs.TestLists.{answered_e, other_answer}

module _ (n : ℕ) (bytes : List ℕ) where
  abbrev moves : List Request
  moves = plan n (pairs_of bytes)

  -- what an accepted length says: the check's tests are passed, and the number is the plan's
  pub length_e : (k : ℕ) → plan_length_reply n bytes ≡ accepted k → T (passes_all (check_tests n bytes)) × (length (plan n (pairs_of bytes)) ≡ k)
  unfolding plan_length_reply
  length_e k = answered_e (check_tests n bytes) (length moves) k

  length_i : (k : ℕ) → T (passes_all (check_tests n bytes)) → length moves ≡ k → plan_length_reply n bytes ≡ accepted k
  unfolding plan_length_reply
  length_i k tested same = all-passed (length moves) (check_tests n bytes) tested ∙ ap accepted same

  -- ---- accepted

  -- With room for so many triples the plan entry leaves the plan, three bytes a move, and answers the same number.
  pub enough : (out : List ℕ) (k : ℕ) → plan_length_reply n bytes ≡ accepted k → 3 * k ≤ length out
      → Delivered (plan_entry n bytes) out (filled out (bytes_of (plan n (pairs_of bytes)))) (accepted k)
      × (length (bytes_of (plan n (pairs_of bytes))) ≡ 3 * k)
  enough out k e room =
      let (tested, same) = length_e k e in
      let long : length (bytes_of moves) ≡ 3 * k = omega (arith, bytes-length moves) in
      (rw (← same) (whole (plan_entry n bytes) out tested (omega arith)), long)

  -- With less the plan entry refuses by 12, and leaves every byte.
  pub too_short : (out : List ℕ) (k : ℕ) → plan_length_reply n bytes ≡ accepted k → length out < 3 * k → Delivered (plan_entry n bytes) out out (refused 12 0)
  too_short out k e short =
      let (tested, same) = length_e k e in
      no_room (plan_entry n bytes) out tested (omega (arith, bytes-length moves))

  -- Whatever number the plan entry answers, with whatever output, is the number answered of the length.
  pub planned-count : (out : List ℕ) (k : ℕ) → delivery_reply (plan_entry n bytes) out ≡ accepted k → plan_length_reply n bytes ≡ accepted k
  planned-count out k e = let s = answered_so (plan_entry n bytes) out k e in length_i k s.tested s.answer

  -- So the two numbers are the same where the output has room, and a number is answered of the length exactly where the plan entry answers it for some output.
  pub same_count : (out : List ℕ) (k : ℕ) → 3 * k ≤ length out → (plan_length_reply n bytes ≡ accepted k) ↔ (delivery_reply (plan_entry n bytes) out ≡ accepted k)
  same_count out k room = (λ e. sym (enough out k e room).0.reply, planned-count out k)

  pub counted_somewhere : (k : ℕ) → (plan_length_reply n bytes ≡ accepted k) ↔ ((out : List ℕ) × (delivery_reply (plan_entry n bytes) out ≡ accepted k))
  counted_somewhere k = (
    λ e. let out = bytes_of moves in (out, (same_count out k (omega (arith, bytes-length moves, (length_e k e).1))).0 e),
    λ (out, e). planned-count out k e,
  )

  -- A length is answered where the check passes, and only there.
  pub accepted_alike : (events : ℕ) → check_reply n bytes ≡ accepted events → plan_length_reply n bytes ≡ accepted (length (plan n (pairs_of bytes)))
  unfolding check_reply
  accepted_alike events e = length_i (length moves) (answered_e (check_tests n bytes) (length (pairs_of bytes)) events e).0 refl

  pub accepted-check : (k : ℕ) → plan_length_reply n bytes ≡ accepted k → check_reply n bytes ≡ accepted (length (pairs_of bytes))
  unfolding check_reply
  accepted-check k e = all-passed (length (pairs_of bytes)) (check_tests n bytes) (length_e k e).0

  -- ---- refused

  module _ (number place : ℕ) where
    pub refused_alike : (plan_length_reply n bytes ≡ refused number place) ↔ (check_reply n bytes ≡ refused number place)
    unfolding plan_length_reply check_reply
    refused_alike = (
      other_answer (length (pairs_of bytes)) (check_tests n bytes) (length moves) number place,
      other_answer (length moves) (check_tests n bytes) (length (pairs_of bytes)) number place,
    )

    -- So does the plan entry refuse, whatever its output, and leaves every byte.
    pub refused-plan : plan_length_reply n bytes ≡ refused number place → (out : List ℕ) → Delivered (plan_entry n bytes) out out (refused number place)
    unfolding plan_length_reply
    refused-plan e out = turned_down (plan_entry n bytes) out (length moves) number place e
