-- What the check's answer and the count of the moves say of the plan's entry: a refusal is the plan's (`plan_refused`), and a history that passes has a plan of that size (`Planned`).
use Rattle.std.proofs.Common.{◌≡◌, ℕ, ◌*◌, ◌≤◌, T, List, length, Result, Err, sym, ap, ◌∙◌, arith}
use Rattle.definitions.specs.Answers.{number_of, answer_reply, accepted, passes_all}
use Rattle.definitions.specs.Bounds.{most_threads}
use Rattle.definitions.specs.PlainLock.{pairs_of, check_tests, check_reply}
use Rattle.definitions.specs.Plan.{plan, bytes_of, plan_entry}
use Rattle.definitions.specs.declared.Refused.{Refused}
use Rattle.basics.specs.Outputs.{Delivered}
use Rattle.basics.proofs.Outputs.{turned_down}
use Rattle.basics.proofs.TestLists.{answered_e}
use Rattle.history.proofs.CheckLaws.{tests_e}
use Rattle.theory.proofs.Lengths.{bytes-length}

module _ (n : ℕ) (bytes : List ℕ) where
  -- the check's refusal is the plan's, and the output stays
  pub plan_refused : (checked : Result ℕ Refused) (why : Refused) → checked ≡ Err why → answer_reply checked ≡ check_reply n bytes → (out : List ℕ)
      → Delivered (plan_entry n bytes) out out (answer_reply checked)
  unfolding check_reply
  plan_refused checked why is e out =
      rw is (turned_down (plan_entry n bytes) out (length (pairs_of bytes)) (number_of why.refusal) why.place (sym e ∙ ap answer_reply is))

  -- what holds of a history that passes, whose plan has so many moves
  pub record Planned (moves : ℕ) : Type 0 where
    pub few : n ≤ most_threads
    pub tested : T (passes_all (check_tests n bytes))
    pub count : moves ≡ length (plan n (pairs_of bytes))
    pub size : length (bytes_of (plan n (pairs_of bytes))) ≡ 3 * moves

  pub planned : (events moves : ℕ) → accepted events ≡ check_reply n bytes → moves ≡ length (plan n (pairs_of bytes)) → Planned moves
  unfolding check_reply
  planned events moves e m =
      let tested = (answered_e (check_tests n bytes) (length (pairs_of bytes)) events (sym e)).0 in
      record { few = (tests_e n bytes tested).0.most; tested = tested; count = m; size = omega (arith, m, bytes-length (plan n (pairs_of bytes))) }
