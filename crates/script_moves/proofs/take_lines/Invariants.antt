-- The loop of `script_moves::take_lines`: the lines before the present one have passed, and their triples are put (proofs/Loop).
use Rattle.std.proofs.Common.{length}
use Rattle.lines.specs.Lines.{lines_left}
use Rattle.script_moves.proofs.Loop.{AtLine}
use Rattle.script_moves.proofs.take_lines.Given as goal

abbrev pub invariant-loop-k : goal.invariant-loop-k
invariant-loop-k l = AtLine (lines_left l.fn.lines) l.threads l.fn.moves l.moves (length l.yielded) l.at
