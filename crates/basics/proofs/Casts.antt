-- A Bool that code casts to a number is 1 or 0.
use Prim.Native.Nat.{◌≤◌}
use native.Mathlib.Omega.{arith}
use mathlib.Core.Bool.{Bool, true, false, cond}
use mathlib.Core.Path.{◌≡◌, refl}
use mir.Val.{bool_byte}

pub cast_is : (b : Bool) → bool_byte b ≡ cond b 1 0
cast_is true = refl
cast_is false = refl

pub cast_most : (b : Bool) → bool_byte b ≤ 1
cast_most true = omega arith
cast_most false = omega arith
