-- The choice goes by what the search answers.
use Rattle.std.proofs.Common.{Some, None, ap, arith}
use Rattle.definitions.specs.Table.{table_of}
use Rattle.definitions.specs.declared.Task.{Task}
use Rattle.dispatching.specs.Ready.{ready}
use Rattle.choice.proofs.SearchLaws.{from_0}
use Rattle.choice.proofs.ChoiceLaws.{target_most, nobody, makes}
use Rattle.choice.proofs.request.choose.Goals as goal

pub returns-in_err-thread : goal.returns-in_err-thread
returns-in_err-thread c =
    rw c.from_residual.ensures
    (nobody (table_of c.args.table.now) c.requires.is_sound _ c.requires.counted.count (from_0 _ (ready (table_of c.args.table.now)) None c.in_err-thread.ensures))

pub overflow_cast-result-2 : goal.overflow_cast-result-2
overflow_cast-result-2 c =
    let read = ap (λ (t : Task). t.phase) c.read_task-phase.ensures in
    omega (arith, target_most (table_of c.args.table.now) c.in_ok-thread.thread _ (c.target_in.ensures c.in_ok-thread.thread read), c.requires.counted.size)

pub returns : goal.returns
returns c =
    let read = ap (λ (t : Task). t.phase) c.read_task-phase.ensures in
    makes (table_of c.args.table.now) c.requires.is_sound _ c.requires.counted.count _ _ _ (from_0 _ (ready (table_of c.args.table.now)) (Some c.in_ok-thread.thread) c.in_ok-thread.ensures)
    (rw read at c.move_in.ensures) (c.target_in.ensures _ read)
