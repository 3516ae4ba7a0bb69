-- What the check answers: a number exactly for the bytes that pass it (`Passes`), and a refusal by 9 or above exactly as the first bad pair fails (`FirstBad`).
use Prim.Native.Nat.{ℕ, ◌%◌, ◌≤◌, ◌<◌}
use native.Mathlib.Nat.{mul-mod_right}
use native.Mathlib.Omega.{arith}
use mathlib.Core.Bool.{Bool, true, false, cond}
use mathlib.Core.List.{List, [], ◌∷◌}
use mathlib.Core.Logic.{◌↔◌}
use mathlib.Core.Path.{◌≡◌, sym, subst, ap, ◌∙◌}
use lib.Dec.{T}
use lib.ListN.{length}
use Rattle.definitions.specs.Answers.{accepted, refused, test_at, answered, passes_all}
use Rattle.definitions.specs.PlainLock.{Pair, pairs_of, tests_of, permitted, pairs_tests, check_tests, check_reply}
use Rattle.definitions.specs.Table.{count_fits}
use Rattle.definitions.specs.Threads.{gather}
use Rattle.orders.specs.Histories.{Passes, FirstBad}
use Rattle.basics.proofs.Quantifiers.{every_at}
use Rattle.basics.proofs.Replies.{all-passed}
use Rattle.basics.proofs.TestLists.{answered_e, gathered, failed_first}
use Rattle.history.proofs.CheckLaws.{formed, tests_e, tests_i}
use Rattle.theory.proofs.Lengths.{pairs-length}

-- ---- accepted

module _ (n : ℕ) (bytes : List ℕ) where
  -- permitted as the tests of all pairs
  permitted-tests : passes_all (pairs_tests n bytes) ≡ permitted n (pairs_of bytes)
  unfolding permitted
  permitted-tests = gathered (tests_of n (pairs_of bytes)) (length (pairs_of bytes))

  pub passes_e : T (passes_all (check_tests n bytes)) → Passes n bytes (length (pairs_of bytes))
  passes_e t =
      let a = tests_e n bytes t in
      let f = a.0 in
      record { least = f.least; most = f.most; whole = omega (arith, pairs-length bytes); short = f.short; allowed = subst T permitted-tests a.1 }

  module _ (events : ℕ) (p : Passes n bytes events) where
    pub passes_count : length (pairs_of bytes) ≡ events
    passes_count = omega (arith, p.whole, pairs-length bytes)

    pub passes_i : T (passes_all (check_tests n bytes))
    passes_i =
        tests_i n bytes
        record { least = p.least; most = p.most; even = ap (λ (k : ℕ). k % 2) p.whole ∙ mul-mod_right 2 events; short = p.short }
        (subst T (sym permitted-tests) p.allowed)

  pub check-accepted : (events : ℕ) → (check_reply n bytes ≡ accepted events) ↔ Passes n bytes events
  unfolding check_reply
  check-accepted events = (
    λ e. let r = answered_e (check_tests n bytes) (length (pairs_of bytes)) events e in subst (Passes n bytes) r.1 (passes_e r.0),
    λ p. all-passed (length (pairs_of bytes)) (check_tests n bytes) (passes_i events p) ∙ ap accepted (passes_count events p),
  )

-- ---- refused

-- the refusal of a pair of index k has that place
place_of : (k a number place : ℕ) (x y z : Bool) → answered (test_at k 9 x ∷ test_at k 10 y ∷ test_at k 11 z ∷ []) a ≡ refused number place → k ≡ place
unfolding answered
place_of k a number place true true true e = absurd (let z : ◌≡◌ {A = ℕ} 0 1 = cc in omega arith)
place_of k a number place true true false e = cc
place_of k a number place true false z e = cc
place_of k a number place false y z e = cc

first_bad : (n : ℕ) (h : List Pair) (number place : ℕ) → answered (gather (length h) (tests_of n h)) (length h) ≡ refused number place → FirstBad n h number place
unfolding tests_of
first_bad n h number place e =
    let r = failed_first (tests_of n h) (length h) (length h) number place e in
    let same : r.0 ≡ place = place_of r.0 (length h) number place _ _ _ r.3 in
    record {
      inside = subst (λ (k : ℕ). k < length h) same r.1;
      fails = subst (λ (k : ℕ). answered (tests_of n h k) (length h) ≡ refused number place) same r.3;
      earlier = every_at (λ j. passes_all (tests_of n h j)) place (subst T (gathered (tests_of n h) place) (subst (λ (k : ℕ). T (passes_all (gather k (tests_of n h)))) same r.2));
    }

-- a refusal by 9 or above is the first bad pair's
pub check-refused : (n : ℕ) (bytes : List ℕ) (number place : ℕ) → check_reply n bytes ≡ refused number place → 9 ≤ number → FirstBad n (pairs_of bytes) number place
unfolding check_reply answered
check-refused n bytes number place e l = by (count_fits n) (formed n bytes) e
  where
    -- not by 1 or 8
    by : (a b : Bool) → cond a (cond b (answered (pairs_tests n bytes) (length (pairs_of bytes))) (refused 8 0)) (refused 1 0) ≡ refused number place → FirstBad n (pairs_of bytes) number place
    by false b r = absurd (let z : 1 ≡ number = cc in omega arith)
    by true false r = absurd (let z : 8 ≡ number = cc in omega arith)
    by true true r = first_bad n (pairs_of bytes) number place r
