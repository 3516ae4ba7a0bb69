-- The bytes keep their size through both writes.
use Rattle.apply.proofs.Written.{put_sized, put_below}
use Rattle.apply.proofs.store.Goals as goal

pub write_head-requires : goal.write_head-requires
write_head-requires c =
    let first = put_sized _ _ _ _ c.write_task.ensures c.requires.size c.requires.mover in
    put_sized _ _ _ _ c.write_task-2.ensures first (put_below _ _ _ _ c.write_task.ensures c.requires.size c.requires.mover _ c.requires.subject)
