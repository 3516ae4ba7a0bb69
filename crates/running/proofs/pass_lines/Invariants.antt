-- The lines of the history so far, and what is printed from the present line on, are the whole output, and the retries are counted alike.
use Rattle.std.proofs.Common.{length}
use Rattle.lines.specs.Lines.{lines_left}
use Rattle.running.proofs.Loop.{AtLine}
use Rattle.running.proofs.pass_lines.Given as goal

abbrev pub invariant-loop-k : goal.invariant-loop-k
invariant-loop-k l = AtLine (lines_left l.fn.lines) l.fn.table l.fn.history l.table l.history (length l.yielded) l.steps l.retries l.flags
