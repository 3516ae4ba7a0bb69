-- What the check's answer says of the plan's length.
use Rattle.std.proofs.Common.{◌≡◌, ℕ, Result, Ok, Err, MatchResult, List, length, sym}
use Rattle.definitions.specs.Answers.{number_of, answer_reply, accepted, refused}
use Rattle.definitions.specs.PlainLock.{pairs_of, check_reply}
use Rattle.definitions.specs.Plan.{plan, plan_length_reply}
use Rattle.definitions.specs.declared.Refused.{Refused}
use Rattle.theory.proofs.SameCount.{accepted_alike, refused_alike}

-- the moves of a history that passes are counted, and a refusal is the length's
pub length_reply : (n : ℕ) (bytes : List ℕ) (checked : Result ℕ Refused) → answer_reply checked ≡ check_reply n bytes
    → MatchResult checked
    (λ events. plan_length_reply n bytes ≡ accepted (length (plan n (pairs_of bytes))))
    (λ why. plan_length_reply n bytes ≡ refused (number_of why.refusal) why.place)
length_reply n bytes (Ok events) e = accepted_alike n bytes events (sym e)
length_reply n bytes (Err why) e = (refused_alike n bytes (number_of why.refusal) why.place).1 (sym e)

-- so a refusal answers the length
pub length_refused : (n : ℕ) (bytes : List ℕ) (why : Refused) → answer_reply (Err why) ≡ check_reply n bytes → answer_reply (Err why) ≡ plan_length_reply n bytes
length_refused n bytes why e = sym (length_reply n bytes (Err why) e)
