-- By the length of the script, then by that of its output (proofs/EntryLaws).
use Rattle.std.proofs.Common.{ℕ, ◌≡◌, Err, rules, arith}
use lib.ListN.{length-replicate}
use Rattle.script.proofs.EntryLaws.{too_long, measurable, run-printed, run-refused, roomy}
use Rattle.script.proofs.run.Goals as goal

pub returns-then-script-gt-MOST_SCRIPT : goal.returns-then-script-gt-MOST_SCRIPT
returns-then-script-gt-MOST_SCRIPT c = rw c.into.ensures (too_long _ _ (omega arith))

pub run_script-ran-requires : goal.run_script-ran-requires
run_script-ran-requires c = roomy _ _ (omega arith) (omega (arith, length-replicate {A = ℕ} 6666 0))

pub print-requires : goal.print-requires
print-requires c = measurable _ c.args.out.now c.if-script-gt-MOST_SCRIPT.false c.run_script-ran.ensures

pub returns : goal.returns
returns c = run-printed _ _ c.if-script-gt-MOST_SCRIPT.false c.run_script-ran.ensures c.in_ok-bytes.bytes (search rules) c.print.ensures

pub returns-in_err-bytes : goal.returns-in_err-bytes
returns-in_err-bytes c =
    let err : c.from_residual.result ≡ Err c.in_err-bytes.field-0.0 = search rules in
    rw err (run-refused _ _ c.if-script-gt-MOST_SCRIPT.false c.run_script-ran.ensures c.in_err-bytes.field-0.0 (search rules) c.print.ensures)
