-- By the tests in their order (proofs/EntryLaws).
use native.Mathlib.Omega.{arith}
use mathlib.Core.Path.{◌≡◌, sym, ◌∙◌}
use Rattle.std.proofs.Common.{Err, rules}
use Rattle.definitions.specs.Scripts.{write_entry, write_tests}
use Rattle.basics.proofs.Outputs.{no_room}
use Rattle.text.proofs.Deliveries.{put_delivered}
use Rattle.writing.proofs.EntryLaws.{bad-count, bad-length, bad_triple, same_count, too_long, too_many, tested}
use Rattle.writing.proofs.write.Goals as goal

pub returns-then-not-count_fits : goal.returns-then-not-count_fits
returns-then-not-count_fits c = rw c.into.ensures (bad-count _ _ _ (sym c.count_fits.ensures ∙ c.if-not-count_fits.true))

pub returns-then-triples-ne0 : goal.returns-then-triples-ne0
returns-then-triples-ne0 c =
    rw c.into-then-triples-ne0.ensures (bad-length _ _ _ (sym c.count_fits.ensures ∙ c.if-not-count_fits.false) c.if-triples-ne0.true)

pub returns-in_err-moves : goal.returns-in_err-moves
returns-in_err-moves c =
    let counts = sym c.count_fits.ensures ∙ c.if-not-count_fits.false in
    let same : c.from_residual.result ≡ Err c.in_err-moves.field-0.0 = search rules in
    rw same (bad_triple _ _ _ counts c.if-triples-ne0.false _ c.test_triples.ensures _ c.in_err-moves.was)

pub returns-then-moves-gt-MOST_MOVES : goal.returns-then-moves-gt-MOST_MOVES
returns-then-moves-gt-MOST_MOVES c =
    let counts = sym c.count_fits.ensures ∙ c.if-not-count_fits.false in
    rw c.into-then-moves-gt-MOST_MOVES.ensures
    (too_many _ _ _ counts c.if-triples-ne0.false _ c.test_triples.ensures _ c.in_ok-moves.was c.if-moves-gt-MOST_MOVES.true)

pub script_length-length-requires : goal.script_length-length-requires
script_length-length-requires c =
    let counts = sym c.count_fits.ensures ∙ c.if-not-count_fits.false in
    omega (arith, c.if-moves-gt-MOST_MOVES.false, same_count _ _ c.args.out.now counts c.if-triples-ne0.false _ c.test_triples.ensures _ c.in_ok-moves.was)

pub returns-then-length-gt-MOST_SCRIPT : goal.returns-then-length-gt-MOST_SCRIPT
returns-then-length-gt-MOST_SCRIPT c =
    let counts = sym c.count_fits.ensures ∙ c.if-not-count_fits.false in
    rw c.into-then-length-gt-MOST_SCRIPT.ensures
    (too_long _ _ _ counts c.if-triples-ne0.false _ c.test_triples.ensures _ c.in_ok-moves.was
    (omega (arith, c.if-length-gt-MOST_SCRIPT.true, c.script_length-length.ensures)))

pub returns-then-out-length : goal.returns-then-out-length
returns-then-out-length c =
    let counts = sym c.count_fits.ensures ∙ c.if-not-count_fits.false in
    let passed = tested _ _ c.args.out.now counts c.if-triples-ne0.false _ c.test_triples.ensures _ c.in_ok-moves.was
    (omega (arith, c.if-length-gt-MOST_SCRIPT.false, c.script_length-length.ensures)) in
    rw c.into-then-out-length.ensures
    (no_room (write_entry c.args.threads c.args.triples.now) c.args.out.now passed (omega (arith, c.if-out-length.true, c.script_length-length.ensures)))

pub returns : goal.returns
returns c =
    let counts = sym c.count_fits.ensures ∙ c.if-not-count_fits.false in
    let passed = tested _ _ c.args.out.now counts c.if-triples-ne0.false _ c.test_triples.ensures _ c.in_ok-moves.was
    (omega (arith, c.if-length-gt-MOST_SCRIPT.false, c.script_length-length.ensures)) in
    rw c.script_length-length.ensures
    (put_delivered (write_tests c.args.threads c.args.triples.now) passed (omega (arith, c.if-out-length.false, c.script_length-length.ensures))
    c.new.ensures c.put_script.ensures (search rules))
