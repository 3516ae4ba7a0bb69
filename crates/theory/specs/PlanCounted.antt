-- The length of a plan that is answered is the number that the plan entry answers (02 §4).
use Rattle.std.specs.Prelude.{ℕ, ◌*◌, ◌≤◌, ◌<◌, List, ◌↔◌, ◌≡◌, length}
use Rattle.definitions.specs.Answers.{accepted, refused, filled, delivery_reply}
use Rattle.definitions.specs.PlainLock.{pairs_of, check_reply}
use Rattle.definitions.specs.Plan.{plan, bytes_of, plan_entry, plan_length_reply}
use Rattle.basics.specs.Outputs.{Delivered}

pub record PlanCounted : Type 0 where
  -- A number is answered exactly if the plan entry, with three bytes of output a move, answers it; with less it refuses by 12. The check's refusals are refused alike.
  pub length-same : (n : ℕ) (bytes out : List ℕ) (k : ℕ) → 3 * k ≤ length out → (plan_length_reply n bytes ≡ accepted k) ↔ (delivery_reply (plan_entry n bytes) out ≡ accepted k)
  pub length_enough : (n : ℕ) (bytes out : List ℕ) (k : ℕ) → plan_length_reply n bytes ≡ accepted k → 3 * k ≤ length out
      → Delivered (plan_entry n bytes) out (filled out (bytes_of (plan n (pairs_of bytes)))) (accepted k) × (length (bytes_of (plan n (pairs_of bytes))) ≡ 3 * k)
  pub length-short : (n : ℕ) (bytes out : List ℕ) (k : ℕ) → plan_length_reply n bytes ≡ accepted k → length out < 3 * k → Delivered (plan_entry n bytes) out out (refused 12 0)
  pub length-refused : (n : ℕ) (bytes : List ℕ) (number place : ℕ) → (plan_length_reply n bytes ≡ refused number place) ↔ (check_reply n bytes ≡ refused number place)
