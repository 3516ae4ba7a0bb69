-- The fresh entry turns a bad number of threads down, else the table's bytes are a fresh table.
use Prim.Native.Nat.{ℕ, ◌≤◌}
use native.Mathlib.Omega.{arith}
use mathlib.Core.Path.{sym, ap}
use lib.ListN.{length, replicate, length-replicate}
use lib.Seq.{length-take-le}
use Rattle.definitions.specs.Answers.{answer_reply}
use Rattle.definitions.specs.Bounds.{most_threads}
use Rattle.definitions.specs.Table.{size}
use Rattle.definitions.specs.declared.Refusal.TheVariants.{BadSize}
use Rattle.fresh_runs.proofs.FromFresh.{refused-count, good_count, size_fits, table_front, from-bad, from-fresh, begins-fresh, stopped_first, recorded_as}
use Rattle.fresh_runs.proofs.run_from.Goals as goal

-- the place for the table has the bytes of the largest
long : size most_threads ≤ length (replicate {A = ℕ} (size most_threads) 0)
long = omega (arith, length-replicate {A = ℕ} (size most_threads) 0)

pub returns-in-Err : goal.returns-in-Err
returns-in-Err c =
    stopped_first BadSize (from-bad _ _ (refused-count _ long c.fresh.ensures _ _ (ap answer_reply c.in-Err.is))) c.stopped_first.ensures

pub slice_bounds-bytes-end : goal.slice_bounds-bytes-end
slice_bounds-bytes-end c = omega (arith, c.fresh.auto.out, size_fits _ long c.fresh.ensures _ (ap answer_reply c.in-Ok.is))

pub slice_bounds-run_lines-end : goal.slice_bounds-run_lines-end
slice_bounds-run_lines-end c =
    sym (length-take-le _ _ (omega (arith, c.fresh.auto.out, size_fits _ long c.fresh.ensures _ (ap answer_reply c.in-Ok.is))))

pub run_lines-requires : goal.run_lines-requires
run_lines-requires c =
    let made = ap answer_reply c.in-Ok.is in
    begins-fresh _ c.requires _ (good_count _ long c.fresh.ensures _ made) (table_front _ long c.fresh.ensures _ made)

pub returns-in-Ok : goal.returns-in-Ok
returns-in-Ok c =
    let made = ap answer_reply c.in-Ok.is in
    recorded_as (from-fresh _ _ (good_count _ long c.fresh.ensures _ made)) (rw (table_front _ long c.fresh.ensures _ made) at c.run_lines.ensures)
