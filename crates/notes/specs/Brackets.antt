-- The round brackets of a note's text.
use Rattle.std.specs.Prelude.{ℕ, ◌+◌, ◌-◌, Option, Some, None, cond, ltb, eqb}
use Rattle.definitions.specs.Bounds.{most_depth}

-- the depth behind a byte at a depth, if it may stand there: a bracket opens where the depth is below the deepest, or closes what is open
abbrev pub depth_behind : ℕ → ℕ → Option ℕ
depth_behind depth c =
    cond (eqb c 40) (cond (ltb depth most_depth) (Some (depth + 1)) None)
    (cond (eqb c 41) (cond (ltb 0 depth) (Some (depth - 1)) None) (Some depth))
