-- What a loop that adds up the events' shares has counted of the pairs before the present one (`Counting`).
use Prim.Native.Nat.{ℕ, ◌+◌, ◌*◌, ◌/◌, ◌%◌, ◌≤◌}
use native.Mathlib.Nat.{add-mul, mul-le-mul_left}
use native.Mathlib.Omega.{arith}
use mathlib.Core.List.{List, [], ◌∷◌, ◌++◌}
use lib.Seq.{drop-length}
use mathlib.Core.Path.{◌≡◌, ap, ◌∙◌}
use lib.Dec.{T}
use lib.ListN.{length, drop, length-append}
use Rattle.definitions.specs.Answers.{is_accepted}
use Rattle.definitions.specs.Bounds.{most_threads, most_history}
use Rattle.definitions.specs.PlainLock.{Pair, pairs_of, check_tests, check_reply}
use Rattle.definitions.specs.Plan.{plan_of, plan}
use Rattle.shares.specs.Shares.{each, moves_by_shares, ShareOf}
use Rattle.basics.proofs.Chunks.{Next}
use Rattle.basics.proofs.Replies.{accepted_is}
use Rattle.history.proofs.CheckLaws.{tests_e}
use Rattle.theory.proofs.Lengths.{pairs-length}

-- the plan of the pairs from index k on
plan_next : (n : ℕ) (h : List Pair) (k : ℕ) (x : Pair) (next : ℕ) → Next h k x next → plan n (drop k h) ≡ plan_of n x ++ plan n (drop (k + 1) h)
unfolding plan
plan_next n h k x next t = ap (plan n) (t.left ∙ ap (λ (j : ℕ). x ∷ drop j h) t.more)

plan_end : (n : ℕ) (h : List Pair) (k : ℕ) → k ≡ length h → plan n (drop k h) ≡ []
unfolding plan
plan_end n h k e = rw (e, drop-length h)

-- the shares of k pairs are added up, of a history that the check accepts
pub record Counting (n : ℕ) (h : List Pair) (k shares : ℕ) : Type 0 where
  pub few : n ≤ most_threads
  pub short : 2 * length h ≤ most_history
  pub within : k ≤ length h
  pub total : moves_by_shares n shares + length (plan n (drop k h)) ≡ length (plan n h)
  pub once_most : shares % each ≤ 3 * k
  pub each-most : shares / each ≤ 2 * k

pub counting_none : (n : ℕ) (bytes : List ℕ) → T (is_accepted (check_reply n bytes)) → Counting n (pairs_of bytes) 0 0
unfolding check_reply
counting_none n bytes t =
    let form = (tests_e n bytes (rw (← accepted_is (length (pairs_of bytes)) (check_tests n bytes)) t)).0 in
    record {
      few = form.most;
      short = omega (arith, form.short, pairs-length bytes);
      within = omega arith;
      total = omega arith;
      once_most = omega arith;
      each-most = omega arith;
    }

module _ (n : ℕ) (h : List Pair) (k shares : ℕ) (a : Counting n h k shares) where
  -- a history is too short for the moves made once to reach the others
  pub counting_more : (x : Pair) (next share : ℕ) → Next h k x next → ShareOf x.event share → Counting n h next (shares + share)
  counting_more x next share t f =
      rw t.more
      (record {
        few = a.few;
        short = a.short;
        within = omega (arith, t.within);
        total =
            rw (once_sum, each_sum)
            (omega (
              arith,
              a.total,
              f.whole n x.thread,
              add-mul (shares / each) (share / each) n,
              length-append (plan_of n x) (plan n (drop (k + 1) h)),
              ap length (plan_next n h k x next t),
            ));
        once_most = omega (arith, once_sum, a.once_most, f.once_most);
        each-most = omega (arith, each_sum, a.each-most, f.each-most);
      })
    where
      once_sum : (shares + share) % each ≡ shares % each + share % each
      once_sum = omega (arith, a.short, a.within, a.once_most, f.once_most)

      each_sum : (shares + share) / each ≡ shares / each + share / each
      each_sum = omega (arith, a.short, a.within, a.once_most, f.once_most)

  -- what is made for each thread, at most 200
  pub counting_each : shares / each * n ≤ 2 * most_threads * k
  counting_each = omega (arith, mul-le-mul_left (shares / each) a.few, a.each-most)

  -- past the last event
  pub counting_all : k ≡ length h → moves_by_shares n shares ≡ length (plan n h)
  counting_all e = omega (arith, a.total, ap length (plan_end n h k e))
