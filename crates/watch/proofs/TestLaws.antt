-- A start, an event and the question, as the code goes through their tests: the first that fails is answered.
use Prim.Native.Nat.{ℕ}
use mathlib.Core.Bool.{Bool, true, false, not, ◌||◌}
use mathlib.Core.List.{[], ◌∷◌}
use mathlib.Core.Path.{◌≡◌, sym, ap, ◌∙◌}
use lib.Dec.{T, eqb}
use Rattle.definitions.specs.Answers.{accepted, refused, number_of, Reply, test, answered, leaves, passes_all}
use Rattle.definitions.specs.PlainLock.{Pair, places_in, pair_tests}
use Rattle.definitions.specs.Table.{count_fits}
use Rattle.definitions.specs.Watch.{started, start_reply, start_record, record_tests, event_reply, question_reply}
use Rattle.definitions.specs.declared.Refusal.{Refusal}
use Rattle.definitions.specs.declared.Watcher.{Watcher}
use Rattle.basics.proofs.Replies.{passed, failed, all-passed, in_front_lem}
use Rattle.basics.proofs.TestLists.{answered_e, other_answer}
use Rattle.basics.proofs.Tests.{true-T, false-T}
use Rattle.updates.specs.Updates.{kept, Updates}
use Rattle.updates.proofs.EventLaws.{refuses}

-- ---- a start

module _ (n : ℕ) (w : Watcher) where
  pub start-bad : count_fits n ≡ false → (refused 1 0 ≡ start_reply n) × (w ≡ start_record n w)
  unfolding start_reply start_record
  start-bad e =
      let reply = sym (failed (test 1 (count_fits n)) [] tt (false-T (count_fits n) e)) in
      (reply, ap (λ (a : Reply (Unit {0})). leaves a (started n) w) reply)

  pub start_good : count_fits n ≡ true → (accepted tt ≡ start_reply n) × (started n ≡ start_record n w)
  unfolding start_reply start_record answered
  start_good e =
      let reply : accepted tt ≡ answered (test 1 (count_fits n) ∷ []) tt = sym (passed (test 1 (count_fits n)) [] tt (true-T (count_fits n) e)) in
      (reply, ap (λ (a : Reply (Unit {0})). leaves a (started n) w) reply)

-- ---- a record

module _ (w : Watcher) where
  -- an event goes on from there, or gets the record's refusal
  pub event-tested : ◌≡◌ {A = Reply (Unit {0})} (accepted tt) (answered (record_tests w) tt) → T (passes_all (record_tests w))
  event-tested e = (answered_e (record_tests w) tt tt (sym e)).0

  pub event-refused : (x : Pair) (r : Refusal) → ◌≡◌ {A = Reply (Unit {0})} (refused (number_of r) 0) (answered (record_tests w) tt) → Updates w x (kept w r)
  unfolding event_reply
  event-refused x r e = refuses w x r (sym (in_front_lem tt tt (record_tests w) (pair_tests w.threads (places_in w.places) 0 x) (number_of r) 0 (sym e)))

  -- the question answers, or gets the record's refusal
  pub question_answered : (b : Bool) → ◌≡◌ {A = Reply (Unit {0})} (accepted tt) (answered (record_tests w) tt)
      → not (eqb w.shared 0) || not (eqb w.exclusive 0) ≡ b → accepted b ≡ question_reply w
  unfolding question_reply
  question_answered b e f =
      ap accepted (sym f) ∙ sym (all-passed (not (eqb w.shared 0) || not (eqb w.exclusive 0)) (record_tests w) (answered_e (record_tests w) tt tt (sym e)).0)

  pub question_refused : (number : ℕ) → ◌≡◌ {A = Reply (Unit {0})} (refused number 0) (answered (record_tests w) tt) → refused number 0 ≡ question_reply w
  unfolding question_reply
  question_refused number e = sym (other_answer _ (record_tests w) tt number 0 (sym e))
