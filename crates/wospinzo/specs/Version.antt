-- The version of the part.
use Rattle.std.specs.Prelude.{ℕ, ◌+◌, ◌*◌}

-- the version, as the header has it: 65,536 times the major number, 256 times the minor one, and the patch number
abbrev pub version : ℕ
version = 65_536 * 1 + 256 * 7 + 1
