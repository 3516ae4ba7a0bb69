-- What `judge` promises of its verdict (`VerdictOf`), read by the plain lock's tests: a bad verdict is the first test that fails (`bad_verdict`), and one that fits passes all and leaves
-- the place and the total of the places after the event (`fit_verdict`). The check's loop and the watcher both go by these.
use Rattle.std.proofs.Common.{Result, Ok, Err, ◌≡◌, ℕ, ◌<◌, ◌≤◌, ◌&&◌, T, ltb, List, [], ◌∷◌, sym, ap, ◌∙◌, subst, ltb→lt}
use Rattle.definitions.specs.Answers.{number_of, refused, Test, test_at, answered, passes_all}
use Rattle.definitions.specs.Bounds.{most_threads, first_event, last_event}
use Rattle.definitions.specs.PlainLock.{Pair, Places, place_after, advanced, is_next, need_met, pair_tests}
use Rattle.definitions.specs.Threads.{between}
use Rattle.definitions.specs.declared.Refusal.{Refusal}
use Rattle.plain_lock.specs.Counts.{standing_of, count_tests, standing_after, verdict_reply}
use Rattle.plain_lock.specs.declared.Standing.{Standing}
use Rattle.basics.proofs.Replies.{peel}
use Rattle.basics.proofs.TestLists.{answered_e}
use Rattle.basics.proofs.Tests.{and_r}
use Rattle.plain_lock.proofs.StandingLaws.{tests_same, standing_after_lem}

abbrev pub VerdictOf : ℕ → Pair → Standing → Result Standing Refusal → Type 0
VerdictOf n x s v = (k : ℕ) → verdict_reply k v ≡ answered (count_tests n s k x) (standing_after s x.event)

module _ (n : ℕ) (p : Places) (x : Pair) (few : n ≤ most_threads) (s : Standing) (same : s ≡ standing_of n p x.thread) where
  -- by counts or by places
  tests_are : (k : ℕ) → count_tests n s k x ≡ pair_tests n p k x
  tests_are k = ap (λ (z : Standing). count_tests n z k x) same ∙ tests_same n p few k x

  pub bad_verdict : (v : Result Standing Refusal) (r : Refusal) → v ≡ Err r → VerdictOf n x s v → (k : ℕ) → answered (pair_tests n p k x) (standing_after s x.event) ≡ refused (number_of r) k
  bad_verdict v r w judged k =
      ap (λ (ts : List Test). answered ts (standing_after s x.event)) (sym (tests_are k)) ∙ (sym (judged k) ∙ ap (verdict_reply k) w)

  -- what holds of an event that fits, and of where it leaves its thread
  pub record Fit (z : Standing) (k : ℕ) : Type 0 where
    pub passes : T (passes_all (pair_tests n p k x))
    pub below : x.thread < n
    pub placed : z.place ≡ place_after x.event
    pub after : z ≡ standing_of n (advanced p x) x.thread

  pub fit_verdict : (v : Result Standing Refusal) (z : Standing) → v ≡ Ok z → VerdictOf n x s v → (k : ℕ) → Fit z k
  fit_verdict v z w judged k = built (answered_e (count_tests n s k x) (standing_after s x.event) z (sym (rw w at (judged k))))
    where
      outside : Test
      outside = test_at k 9 (between first_event last_event x.event && ltb x.thread n)

      out_of_turn : Test
      out_of_turn = test_at k 10 (is_next (p x.thread) x.event)

      occupied : Test
      occupied = test_at k 11 (need_met n p x.event)

      built : T (passes_all (count_tests n s k x)) × (standing_after s x.event ≡ z) → Fit z k
      built fits =
          let passes = subst (λ (ts : List Test). T (passes_all ts)) (tests_are k) fits.0 in
          let first = peel outside (out_of_turn ∷ occupied ∷ []) passes in
          let below = ltb→lt x.thread n (and_r (between first_event last_event x.event) (ltb x.thread n) first.0) in
          record {
            passes = passes;
            below = below;
            placed = ap (λ (y : Standing). y.place) (sym fits.1);
            after = sym fits.1
                ∙ (ap (λ (y : Standing). standing_after y x.event) same ∙ standing_after_lem n p x below (peel out_of_turn (occupied ∷ []) first.1).0);
          }
