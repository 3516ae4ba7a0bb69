-- What the plan entry answers and leaves where the check passes and the output has room: the plan's length and bytes, which read as triples are the plan.
use Prim.Native.Nat.{ℕ, ◌*◌, ◌≤◌}
use mathlib.Core.List.{List}
use mathlib.Core.Path.{◌≡◌, sym, ap, ◌∙◌}
use lib.Dec.{T}
use lib.ListN.{length, take}
use Rattle.definitions.specs.Answers.{accepted, passes_all, filled, delivery_reply, delivery_output}
use Rattle.definitions.specs.Chains.{requests_of}
use Rattle.definitions.specs.PlainLock.{pairs_of, check_tests}
use Rattle.definitions.specs.Plan.{plan, bytes_of, plan_entry}
use Rattle.definitions.specs.declared.Request.{Request}
use Rattle.basics.proofs.Outputs.{whole, answered_so, text_first}
use Rattle.theory.proofs.Lengths.{bytes-length}
use Rattle.theory.proofs.Triples.{bytes_read}

module _ (n : ℕ) (bytes out : List ℕ) where
  abbrev moves : List Request
  moves = plan n (pairs_of bytes)

  -- the check passes and there is room
  module _ (tested : T (passes_all (check_tests n bytes))) (room : length (bytes_of (plan n (pairs_of bytes))) ≤ length out) where
    pub plan-reply : delivery_reply (plan_entry n bytes) out ≡ accepted (length (plan n (pairs_of bytes)))
    plan-reply = sym (whole (plan_entry n bytes) out tested room).reply

    pub plan-output : delivery_output (plan_entry n bytes) out ≡ filled out (bytes_of (plan n (pairs_of bytes)))
    plan-output = sym (whole (plan_entry n bytes) out tested room).output

  -- an answer that is a number: both hold, and the number is the plan's
  pub plan-accepted : (k : ℕ) → delivery_reply (plan_entry n bytes) out ≡ accepted k
      → T (passes_all (check_tests n bytes)) × (length (bytes_of (plan n (pairs_of bytes))) ≤ length out) × (length (plan n (pairs_of bytes)) ≡ k)
  plan-accepted k e = let s = answered_so (plan_entry n bytes) out k e in (s.tested, s.room, s.answer)

  -- the bytes at the front of the output, read as triples, are the plan
  pub plan-read : (k : ℕ) → delivery_reply (plan_entry n bytes) out ≡ accepted k → requests_of (take (3 * k) (delivery_output (plan_entry n bytes) out)) ≡ plan n (pairs_of bytes)
  plan-read k e =
      let size = bytes-length moves ∙ ap (λ (m : ℕ). 3 * m) (plan-accepted k e).2 in
      ap requests_of (text_first (plan_entry n bytes) out k (3 * k) e size) ∙ bytes_read moves
