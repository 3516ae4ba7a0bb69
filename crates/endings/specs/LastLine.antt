-- The last line of a run's output, by the way it ended: with so many moves made, or by the refusal of a line.
use Rattle.std.specs.Prelude.{ℕ, List, Result, Ok, Err}
use Rattle.definitions.specs.Answers.{number_of}
use Rattle.definitions.specs.Run.{steps_line, refused_line}
use Rattle.definitions.specs.declared.Refused.{Refused}

abbrev pub ending_line : Result ℕ Refused → List ℕ
ending_line (Ok steps) = steps_line steps
ending_line (Err r) = refused_line (number_of r.refusal) r.place
