-- The tests for 1 and 8, before the pairs are judged.
use Prim.Native.Nat.{ℕ, ◌%◌, ◌≤◌}
use mathlib.Core.Bool.{Bool, true, false, ◌&&◌}
use mathlib.Core.List.{List, [], ◌∷◌}
use mathlib.Core.Path.{◌≡◌, sym, ◌∙◌}
use lib.Dec.{T, leb, eqb, leb→le, le→leb, eqb→eq}
use lib.ListN.{length}
use Rattle.definitions.specs.Answers.{refused, Test, test, answered, passes_all}
use Rattle.definitions.specs.Bounds.{most_threads, most_history}
use Rattle.definitions.specs.PlainLock.{form_tests, pairs_tests, check_tests}
use Rattle.definitions.specs.Table.{count_fits}
use Rattle.basics.proofs.Replies.{passed, failed, peel, pass, no_test}
use Rattle.basics.proofs.TestLists.{passes-split, passes-join}
use Rattle.basics.proofs.Tests.{and_l, and_r, and_i, true-T, false-T, eq_T}

-- what a history that passes the tests for 1 and 8 shows
pub record Formed (n : ℕ) (bytes : List ℕ) : Type 0 where
  pub least : 1 ≤ n
  pub most : n ≤ most_threads
  pub even : length bytes % 2 ≡ 0
  pub short : length bytes ≤ most_history

module _ (n : ℕ) (bytes : List ℕ) where
  abbrev pub formed : Bool
  formed = eqb (length bytes % 2) 0 && leb (length bytes) most_history

  abbrev size : Test
  size = test 1 (count_fits n)

  abbrev form : Test
  form = test 8 formed

  formed_e : T (passes_all (form_tests n bytes)) → Formed n bytes
  formed_e t =
      let a = peel size (form ∷ []) t in
      let b = peel form [] a.1 in
      record {
        least = leb→le 1 n (and_l (leb 1 n) (leb n most_threads) a.0);
        most = leb→le n most_threads (and_r (leb 1 n) (leb n most_threads) a.0);
        even = eqb→eq (length bytes % 2) 0 (and_l (eqb (length bytes % 2) 0) (leb (length bytes) most_history) b.0);
        short = leb→le (length bytes) most_history (and_r (eqb (length bytes % 2) 0) (leb (length bytes) most_history) b.0);
      }

  formed_i : Formed n bytes → T (passes_all (form_tests n bytes))
  formed_i f =
      pass size (form ∷ []) (and_i (leb 1 n) (leb n most_threads) (le→leb 1 n f.least) (le→leb n most_threads f.most))
      (pass form [] (and_i (eqb (length bytes % 2) 0) (leb (length bytes) most_history) (eq_T (length bytes % 2) 0 f.even) (le→leb (length bytes) most_history f.short)) no_test)

  -- all tests of the check: these, and the pairs'
  pub tests_e : T (passes_all (check_tests n bytes)) → Formed n bytes × T (passes_all (pairs_tests n bytes))
  tests_e t = let p = passes-split (form_tests n bytes) (pairs_tests n bytes) t in (formed_e p.0, p.1)

  pub tests_i : Formed n bytes → T (passes_all (pairs_tests n bytes)) → T (passes_all (check_tests n bytes))
  tests_i f t = passes-join (form_tests n bytes) (pairs_tests n bytes) (formed_i f) t

  -- what the check answers by them: its first refusals, or what the pairs decide
  module _ (answer : ℕ) where
    pub bad-size : count_fits n ≡ false → refused 1 0 ≡ answered (check_tests n bytes) answer
    bad-size e = sym (failed size (form ∷ pairs_tests n bytes) answer (false-T (count_fits n) e))

    pub bad_form : count_fits n ≡ true → formed ≡ false → refused 8 0 ≡ answered (check_tests n bytes) answer
    bad_form e f = sym (passed size (form ∷ pairs_tests n bytes) answer (true-T (count_fits n) e) ∙ failed form (pairs_tests n bytes) answer (false-T formed f))

    pub good_form : count_fits n ≡ true → formed ≡ true → answered (pairs_tests n bytes) answer ≡ answered (check_tests n bytes) answer
    good_form e f = sym (passed size (form ∷ pairs_tests n bytes) answer (true-T (count_fits n) e) ∙ passed form (pairs_tests n bytes) answer (true-T formed f))
