-- What a line that was read is, and the lines that are left.
use Rattle.std.specs.Prelude.{List, drop}
use Rattle.definitions.specs.Texts as texts
use Rattle.definitions.specs.Texts.{lines_of}
use Rattle.lines.specs.declared.Line.{Line}
use Rattle.lines.specs.declared.Lines.{Lines}

-- the line that was read
abbrev pub line_read : Line → texts.Line
line_read l = record { text = l.text.now; ended = l.ended }

-- the lines from the present place on
abbrev pub lines_left : Lines → List texts.Line
lines_left s = lines_of (drop s.from s.script.now)
