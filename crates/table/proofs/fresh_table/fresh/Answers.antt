-- A test that fails gives its refusal, and past the tests the output is filled.
use Rattle.std.proofs.Common.{◌≡◌, ℕ, ◌≤◌, ◌<◌, true, false, List, [], ◌++◌, length, drop, sym, ap, ◌∙◌, arith, leb}
use lib.Dec.{leb→le}
use Rattle.definitions.specs.Answers.{accepted, refused, test}
use Rattle.definitions.specs.Bounds.{most_threads}
use Rattle.definitions.specs.Table.{count_fits, size, fresh, fresh_entry}
use Rattle.basics.specs.Outputs.{Delivered}
use Rattle.basics.proofs.Outputs.{turned_down, no_room, whole, delivered_as}
use Rattle.basics.proofs.Replies.{failed, pass, no_test}
use Rattle.basics.proofs.Tests.{and_r, true-T, false-T}
use Rattle.theory.proofs.Lengths.{fresh-length}
use Rattle.table.proofs.fresh_table.fresh.Goals as goal

module _ (n : ℕ) (out : List ℕ) where
  bad-size : count_fits n ≡ false → Delivered (fresh_entry n) out out (refused 1 0)
  bad-size e = turned_down (fresh_entry n) out 0 1 0 (failed (test 1 (count_fits n)) [] 0 (false-T (count_fits n) e))

  module _ (fits : count_fits n ≡ true) where
    high : n ≤ most_threads
    high = leb→le n most_threads (and_r (leb 1 n) (leb n most_threads) (true-T (count_fits n) fits))

    tight : length out < size n → Delivered (fresh_entry n) out out (refused 12 0)
    tight l = no_room (fresh_entry n) out (pass _ [] (true-T (count_fits n) fits) no_test) (omega (arith, fresh-length n))

    written : (bytes : ℕ) (table : List ℕ) → bytes ≡ size n → bytes ≤ length out → table ≡ fresh n → Delivered (fresh_entry n) out (table ++ drop bytes out) (accepted bytes)
    written bytes table e l f =
        let long : bytes ≡ length (fresh n) = e ∙ sym (fresh-length n) in
        delivered_as (whole (fresh_entry n) out (pass _ [] (true-T (count_fits n) fits) no_test) (omega arith))
        (ap (λ (t : List ℕ). t ++ drop bytes out) f ∙ ap (λ (k : ℕ). fresh n ++ drop k out) long) (ap accepted long)

pub returns-then-not-count_fits : goal.returns-then-not-count_fits
returns-then-not-count_fits c = rw c.into.ensures (bad-size c.args.threads c.args.out.now (sym c.count_fits.ensures ∙ c.if-not-count_fits.true))

pub returns-then-out-size : goal.returns-then-out-size
returns-then-out-size c = rw c.into-then-out-size.ensures (tight c.args.threads c.args.out.now (sym c.count_fits.ensures ∙ c.if-not-count_fits.false) (omega arith))

pub returns : goal.returns
returns c =
    written c.args.threads c.args.out.now (sym c.count_fits.ensures ∙ c.if-not-count_fits.false) _ _
    c.size_of-size.ensures c.if-out-size.false c.write_fresh.ensures
