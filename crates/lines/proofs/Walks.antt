-- What a `for` over the lines of a script reads: the lines that are left, in order.
use mathlib.Core.Path.{◌≡◌, ap}
use Rattle.std.proofs.lemmas.Iterator.{YieldsList}
use Rattle.std.proofs.lemmas.Iterator.Consumers.{YieldsList-from_first}
use Rattle.std.specs.Iterator.{YieldsFirstBy}
use Rattle.lines.specs.Lines.{line_read, lines_left}
use Rattle.lines.specs.declared.Lines.{Lines}

pub lines_come : (lines : Lines) {s : Lines} → s ≡ lines → YieldsList (YieldsFirstBy line_read lines_left) line_read s (lines_left lines)
lines_come lines e = YieldsList-from_first line_read lines_left (lines_left lines) (ap lines_left e)
