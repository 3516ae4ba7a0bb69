-- The program's output for an input, in a buffer: it stands at the front, and its length is answered.
use Rattle.std.specs.Prelude.{ℕ, List, ◌≡◌, length}
use Rattle.definitions.specs.Answers.{filled}
use Rattle.definitions.specs.Run.{program_output}

pub record Printed (input before after : List ℕ) (answer : ℕ) : Type 0 where
  pub count : answer ≡ length (program_output input)
  pub output : after ≡ filled before (program_output input)
