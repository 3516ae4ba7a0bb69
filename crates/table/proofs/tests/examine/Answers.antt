-- What the pass finds decides soundness.
use Rattle.std.proofs.Common.{◌≡◌, ℕ, Bool, true, false, cond, Option, Some, None, Ok, Err, List, sym, ap, ◌∙◌, refl, arith}
use Rattle.definitions.specs.Sound.{sound}
use Rattle.definitions.specs.Table.{table_of, sized}
use Rattle.definitions.specs.declared.Refusal.TheVariants.{Unsound}
use Rattle.soundness.specs.Pass.{tally_below, fit_below, found_of, passes}
use Rattle.tallies.specs.declared.Tally.{Tally}
use Rattle.theory.specs.Tables.{Sized, forbidden_count}
use Rattle.table.specs.TableTests.{examined_of}
use Rattle.basics.proofs.Tests.{true-T}
use Rattle.soundness.proofs.OnePass.{one_pass}
use Rattle.theory.proofs.Bytes.{sized_e}
use Rattle.table.proofs.tests.examine.Goals as goal

-- what was found is the tally
tally_is : (x : Bool) (r t : Tally) → Some t ≡ cond x (Some r) None → t ≡ r
tally_is true r t e = cc
tally_is false r t e = cc

module _ (bytes : List ℕ) where
  as_numbers : sized bytes ≡ true → Sized bytes
  as_numbers e = sized_e bytes (true-T _ e)

  module _ (found : Option Tally) (right : sized bytes ≡ true) (found-is : found ≡ found_of (table_of bytes) (table_of bytes).threads) where
    decision : sound (table_of bytes) ≡ passes (table_of bytes) found
    decision = sym (one_pass (table_of bytes)) ∙ ap (passes (table_of bytes)) (sym found-is)

    unsound : passes (table_of bytes) found ≡ false → Err Unsound ≡ examined_of bytes
    unfolding examined_of
    unsound e = simp (right, decision ∙ e)

  sound_as : (t : Tally) → sized bytes ≡ true → Some t ≡ found_of (table_of bytes) (table_of bytes).threads → passes (table_of bytes) (Some t) ≡ true
      → Ok record { threads = (table_of bytes).threads; forbidden = t.forbidden } ≡ examined_of bytes
  unfolding examined_of forbidden_count found_of
  sound_as t right found-is e =
      let n = (table_of bytes).threads in
      let same : t ≡ tally_below (table_of bytes) n = tally_is (fit_below (table_of bytes) n) _ t found-is in
      ap (λ (x : Tally). Ok record { threads = n; forbidden = x.forbidden }) same ∙ simp (right, decision (Some t) right found-is ∙ e)

pub bounds-table-0 : goal.bounds-table-0
bounds-table-0 c = omega (arith, as_numbers c.args.table.now (sym c.size_fits.ensures ∙ c.if-not-size_fits.false))

pub found-requires : goal.found-requires
found-requires c = as_numbers c.args.table.now (sym c.size_fits.ensures ∙ c.if-not-size_fits.false)

pub decided-requires : goal.decided-requires
decided-requires c = as_numbers c.args.table.now (sym c.size_fits.ensures ∙ c.if-not-size_fits.false)

pub returns-in-Some : goal.returns-in-Some
returns-in-Some c =
    sound_as c.args.table.now c.in-Some.t (sym c.size_fits.ensures ∙ c.if-not-size_fits.false) c.in-Some.ensures (sym c.decided.ensures ∙ c.if-decided.true)

pub returns-in_default : goal.returns-in_default
returns-in_default c =
    unsound c.args.table.now (Some c.in-Some.t) (sym c.size_fits.ensures ∙ c.if-not-size_fits.false) c.in-Some.ensures (sym c.decided.ensures ∙ c.if-decided.false)

pub returns-in_default-2 : goal.returns-in_default-2
unfolding passes
returns-in_default-2 c = unsound c.args.table.now None (sym c.size_fits.ensures ∙ c.if-not-size_fits.false) (sym c.in_default.is ∙ c.found.ensures) refl
