-- The tests of a record, as the code goes through them: the first that fails is answered.
use Prim.Native.Nat.{ℕ, ◌≤◌}
use mathlib.Core.Bool.{true, false}
use mathlib.Core.List.{[], ◌∷◌}
use mathlib.Core.Path.{◌≡◌, sym, ◌∙◌}
use lib.Dec.{leb, leb→le}
use Rattle.definitions.specs.Answers.{accepted, refused, Test, test, answered}
use Rattle.definitions.specs.Bounds.{most_threads}
use Rattle.definitions.specs.Table.{count_fits}
use Rattle.definitions.specs.Watch.{consistent, record_tests}
use Rattle.definitions.specs.declared.Watcher.{Watcher}
use Rattle.basics.proofs.Replies.{passed, failed}
use Rattle.basics.proofs.Tests.{and_r, true-T, false-T}

pub few-threads : (n : ℕ) → count_fits n ≡ true → n ≤ most_threads
few-threads n e = leb→le n most_threads (and_r (leb 1 n) (leb n most_threads) (true-T (count_fits n) e))

-- ---- a record

module _ (w : Watcher) where
  abbrev size : Test
  size = test 1 (count_fits w.threads)

  abbrev sure : Test
  sure = test 13 (consistent w)

  module _ {A : Type 0} (a : A) where
    pub record_size : count_fits w.threads ≡ false → refused 1 0 ≡ answered (record_tests w) a
    record_size e = sym (failed size (sure ∷ []) a (false-T (count_fits w.threads) e))

    pub record_bad : count_fits w.threads ≡ true → consistent w ≡ false → refused 13 0 ≡ answered (record_tests w) a
    record_bad e f = sym (passed size (sure ∷ []) a (true-T (count_fits w.threads) e) ∙ failed sure [] a (false-T (consistent w) f))

    pub record_good : count_fits w.threads ≡ true → consistent w ≡ true → accepted a ≡ answered (record_tests w) a
    unfolding answered
    record_good e f = sym (passed size (sure ∷ []) a (true-T (count_fits w.threads) e) ∙ passed sure [] a (true-T (consistent w) f))
