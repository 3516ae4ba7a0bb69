-- The answer of `examine` gives the refusals 1 and 2, or a sound table to read from.
use Rattle.std.proofs.Common.{ℕ, refl, sym, ap, arith}
use Rattle.definitions.specs.OpenMoves.{open_entry}
use Rattle.definitions.specs.Table.{table_of}
use Rattle.definitions.specs.declared.Head.{Head}
use Rattle.definitions.specs.declared.Task.{Task}
use Rattle.basics.proofs.Outputs.{delivered_as}
use Rattle.basics.proofs.Replies.{handed_on}
use Rattle.table.proofs.TableTests.{entry_refused, sound_is}
use Rattle.theory.proofs.Bytes.{sized_e}
use Rattle.theory.proofs.Soundness.{task_fits}
use Rattle.listing.proofs.OpenAnswer.{no_thread, listed}
use Rattle.listing.proofs.open_moves.Goals as goal

pub returns-in_err-threads : goal.returns-in_err-threads
returns-in_err-threads c =
    let a = c.args in
    delivered_as (entry_refused (open_entry a.table.now a.thread) a.table.now a.out.now _ c.in_err-threads.field-0.0 refl (sym c.in_err-threads.ensures))
    refl (handed_on (λ (n : ℕ). n) _ _ c.from_residual.ensures.1)

pub returns-then-threads-thread : goal.returns-then-threads-thread
returns-then-threads-thread c =
    let found = sound_is c.args.table.now _ (sym c.in_ok-threads.ensures) in
    rw c.into.ensures (no_thread c.args.table.now c.args.thread c.args.out.now found.tested (omega (arith, found.threads, c.from-thread.ensures)))

pub read_task-phase-requires : goal.read_task-phase-requires
read_task-phase-requires c =
    let found = sound_is c.args.table.now _ (sym c.in_ok-threads.ensures) in
    (sized_e c.args.table.now found.tested.is_sized, omega (arith, found.threads))

pub moves_in-requires : goal.moves_in-requires
moves_in-requires c =
    let found = sound_is c.args.table.now _ (sym c.in_ok-threads.ensures) in
    task_fits (table_of c.args.table.now) found.tested.is_sound c.from-thread.result (omega (arith, found.threads)) c.read_task-phase.ensures

pub read_head-requires : goal.read_head-requires
read_head-requires c =
    let found = sound_is c.args.table.now _ (sym c.in_ok-threads.ensures) in
    sized_e c.args.table.now found.tested.is_sized

pub invariant_of-mover : goal.invariant_of-mover
invariant_of-mover c =
    let found = sound_is c.args.table.now _ (sym c.in_ok-threads.ensures) in
    record {
      few = omega (arith, sized_e c.args.table.now found.tested.is_sized, found.threads);
      known = task_fits (table_of c.args.table.now) found.tested.is_sound c.from-thread.result (omega (arith, found.threads)) c.read_task-phase.ensures;
      bits = c.moves_in.ensures;
    }

pub returns : goal.returns
returns c =
    let found = sound_is c.args.table.now _ (sym c.in_ok-threads.ensures) in
    rw (← c.from-thread.ensures)
    (listed c.args.table.now c.from-thread.result c.args.out.now found.tested _ _ _ (omega (arith, found.threads))
    found.threads (ap (λ (t : Task). t.phase) c.read_task-phase.ensures) (ap (λ (h : Head). h.mutex) c.read_head.ensures) c.list_open.ensures)
