-- The buffers of the program: that for its output has room, and that for its input holds enough of it.
use Rattle.std.specs.Prelude.{ℕ, ◌+◌, ◌≤◌, List, ◌≡◌, length, take}
use Rattle.definitions.specs.Bounds.{most_script, enough_output}
use Rattle.definitions.specs.Run.{program_output}

pub record ProgramRooms : Type 0 where
  -- What the program prints always fits its buffer, and 30,001 bytes of the input decide it.
  pub program_room : (input : List ℕ) → length (program_output input) ≤ enough_output
  pub program_reads : (input : List ℕ) → program_output (take (most_script + 1) input) ≡ program_output input
