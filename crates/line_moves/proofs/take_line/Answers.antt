-- `line_moves::take_line` meets its contract: a request's triple is the line's.
use Rattle.line_moves.proofs.take_line.Goals as goal

pub returns-in_ok-triple-in-Some-Request : goal.returns-in_ok-triple-in-Some-Request
returns-in_ok-triple-in-Some-Request c = rw (← c.in-Some-Request.ensures, c.in-Some-Request.field-0-is) c.in_ok-triple-in-Some-Request.ensures
