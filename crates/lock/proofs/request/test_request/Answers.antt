-- The mover is a thread of a sound table.
use Rattle.std.proofs.Common.{ap, arith}
use Rattle.definitions.specs.declared.Head.{Head}
use Rattle.theory.proofs.Soundness.{task_fits}
use Rattle.lock.proofs.request.test_request.Goals as goal

pub test_move-requires : goal.test_move-requires
test_move-requires c =
    let count = ap (λ (h : Head). h.threads) c.read_head-head.ensures in
    task_fits _ c.requires.is_sound _ (omega (arith, count)) c.read_task-mover.ensures
