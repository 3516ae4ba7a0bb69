-- `reading::read` meets its contract, by the tests in their order (proofs/EntryLaws).
use Rattle.std.proofs.Common.{ℕ, ◌≡◌, ◌*◌, ◌/◌, ◌≤◌, Some, None, Err, length, replicate, sym, ◌∙◌, rules, arith}
use lib.ListN.{length-replicate}
use lib.Seq.{length-take-le}
use Rattle.definitions.specs.Bounds.{most_script}
use Rattle.lines.specs.Lines.{lines_left}
use Rattle.opening.specs.FirstLine.{ThreadsFirst}
use Rattle.reading.proofs.EntryLaws.{too_long, bad_first, few_lines, moves_room, bad-count, bad_line, no_room_left, within, triples_whole, all_read, put_at_front}
use Rattle.reading.proofs.read.Goals as goal
use Rattle.reading.proofs.read.Goals.{In_ok-first}

-- the place for the triples: a third of the longest script
long : (n : ℕ) → n ≤ most_script → n ≤ 3 * length {A = ℕ} (replicate (most_script / 3) 0)
long n h = omega (arith, length-replicate {A = ℕ} (most_script / 3) 0)

-- the first line says N
first : (c : In_ok-first) → ThreadsFirst c.args.script.now c.in_ok-first.first.count (lines_left c.in_ok-first.first.rest)
first c =
    let is : c.first_line.result ≡ Some c.in_ok-first.first = search rules in
    rw is at c.first_line.ensures

pub returns-then-script-gt-MOST_SCRIPT : goal.returns-then-script-gt-MOST_SCRIPT
returns-then-script-gt-MOST_SCRIPT c = rw c.into.ensures (too_long _ _ (omega arith))

pub returns-in_err-first : goal.returns-in_err-first
returns-in_err-first c =
    let none : c.first_line.result ≡ None = search rules in
    let err : c.from_residual.result ≡ Err c.at.result = search rules in
    rw (err, c.at.ensures) (bad_first _ _ (omega arith) (rw none at c.first_line.ensures))

pub returns-then-not-count_fits : goal.returns-then-not-count_fits
returns-then-not-count_fits c =
    rw c.at-then-not-count_fits.ensures
    (bad-count _ _ (omega arith) _ _ (first (goal.at.returns-then-not-count_fits c).In_ok-first) (sym c.count_fits.ensures ∙ c.if-not-count_fits.true))

pub take_lines-requires-clause-few : goal.take_lines-requires-clause-few
take_lines-requires-clause-few c = few_lines c.args.script.now c.args.out.now (omega arith) _ _ (first (goal.at.take_lines-requires-clause-few c).In_ok-first)

pub take_lines-requires-clause-room : goal.take_lines-requires-clause-room
take_lines-requires-clause-room c =
    moves_room c.args.script.now c.args.out.now (omega arith) _ _ (first (goal.at.take_lines-requires-clause-room c).In_ok-first) _ (long _ (omega arith))

pub returns-in_err-bytes : goal.returns-in_err-bytes
returns-in_err-bytes c =
    let err : c.from_residual-in_err-bytes.result ≡ Err c.in_err-bytes.field-0.0 = search rules in
    rw err
    (bad_line _ _ (omega arith) _ _ (first (goal.at.returns-in_err-bytes c).In_ok-first) (sym c.count_fits.ensures ∙ c.if-not-count_fits.false)
    _ _ c.in_err-bytes.ensures)

pub returns-then-out-bytes : goal.returns-then-out-bytes
returns-then-out-bytes c =
    rw c.into-then-out-bytes.ensures
    (no_room_left _ _ (omega arith) _ _ (first (goal.at.returns-then-out-bytes c).In_ok-first) (sym c.count_fits.ensures ∙ c.if-not-count_fits.false)
    c.in_ok-bytes.ensures c.if-out-bytes.true)

pub slice_bounds-moves-end : goal.slice_bounds-moves-end
slice_bounds-moves-end c =
    within c.args.script.now c.args.out.now (omega arith) _ _ (first (goal.at.slice_bounds-moves-end c).In_ok-first)
    (sym c.count_fits.ensures ∙ c.if-not-count_fits.false) c.in_ok-bytes.ensures (long _ (omega arith)) c.take_lines.auto.moves

pub slice_bounds-put_triples-end : goal.slice_bounds-put_triples-end
slice_bounds-put_triples-end c =
    sym (length-take-le _ _ (within c.args.script.now c.args.out.now (omega arith) _ _ (first (goal.at.slice_bounds-put_triples-end c).In_ok-first)
    (sym c.count_fits.ensures ∙ c.if-not-count_fits.false) c.in_ok-bytes.ensures (long _ (omega arith)) c.take_lines.auto.moves))

pub put_triples-requires-clause-whole : goal.put_triples-requires-clause-whole
put_triples-requires-clause-whole c =
    triples_whole c.args.script.now c.args.out.now (omega arith) _ _ (first (goal.at.put_triples-requires-clause-whole c).In_ok-first)
    (sym c.count_fits.ensures ∙ c.if-not-count_fits.false) c.in_ok-bytes.ensures (long _ (omega arith)) c.take_lines.auto.moves c.if-out-bytes.false

pub returns : goal.returns
returns c =
    all_read _ _ (omega arith) _ _ (first (goal.at.returns c).In_ok-first) (sym c.count_fits.ensures ∙ c.if-not-count_fits.false) c.in_ok-bytes.ensures
    (long _ (omega arith)) c.take_lines.auto.moves c.if-out-bytes.false _ _ (put_at_front c.new.ensures c.put_triples.ensures (search rules))
