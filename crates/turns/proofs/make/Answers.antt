-- What the move answers says what the line does to the run.
use Rattle.std.proofs.Common.{rules}
use Rattle.turns.proofs.Turns.{quiet-passes, retry-passes, mover-fits}
use Rattle.turns.proofs.make.Goals as goal

pub overflow_cast-request : goal.overflow_cast-request
overflow_cast-request c = record { fits = mover-fits _ _ _ _ c.try_move.ensures c.in_ok-made.made (search rules) _ c.in-Shown.is }

pub returns-in-Quiet : goal.returns-in-Quiet
returns-in-Quiet c = quiet-passes _ _ _ _ c.try_move.ensures c.in_ok-made.made (search rules) c.requires.1 c.in-Quiet.is

pub returns-in-Retry : goal.returns-in-Retry
returns-in-Retry c = retry-passes _ _ _ _ c.try_move.ensures c.in_ok-made.made (search rules) c.requires.1 c.in-Retry.is
