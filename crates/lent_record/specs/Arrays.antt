-- The machine value of an array of bytes.
use Rattle.std.specs.Prelude.{ℕ, List, map}
use Rattle.std.specs.Int.{w8}
use mir.Val.{Val, vint}
use denote.Array.{array_val}

abbrev pub listed : List ℕ → Val
listed ys = array_val (map (vint w8) ys)
