-- The form that was read says what the line does to the run.
use Rattle.turns.proofs.Turns.{note-passes, request-room, request_steps}
use Rattle.turns.proofs.take_line.Goals as goal

pub make-requires : goal.make-requires
make-requires c = (c.requires.0, request-room _ _ c.requires.0.tested _ (rw c.in-Some-Request.field-0-is at c.in-Some-Request.ensures) c.requires.1)

pub returns-in-Some-Request : goal.returns-in-Some-Request
returns-in-Some-Request c =
    request_steps _ c.args.table.now c.requires.0.tested _ (rw c.in-Some-Request.field-0-is at c.in-Some-Request.ensures) c.args.history.now _ _ _ c.make.ensures

pub returns-in-Some-Note : goal.returns-in-Some-Note
returns-in-Some-Note c = note-passes _ _ c.requires.0 c.requires.1 (rw c.in-Some-Note.field-0-is at c.in-Some-Note.ensures)
