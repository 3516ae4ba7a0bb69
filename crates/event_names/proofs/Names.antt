-- The name of a code is that of its event.
use Prim.Native.Nat.{ℕ, zero, suc}
use mathlib.Core.List.{List, []}
use mathlib.Core.Path.{◌≡◌, refl}
use Rattle.std.specs.Prelude.{Option, Some, None}
use Rattle.definitions.specs.Answers.{code_of, events, event_of}
use Rattle.definitions.specs.Run.{event_name}
use Rattle.definitions.specs.declared.Event.{Event}

abbrev named : Option Event → List ℕ
named (Some e) = event_name (code_of e)
named None = []

pub name_of : (code : ℕ) → event_name code ≡ named (event_of code)
unfolding event_name events event_of
name_of zero = refl
name_of (suc zero) = refl
name_of (suc (suc zero)) = refl
name_of (suc (suc (suc zero))) = refl
name_of (suc (suc (suc (suc zero)))) = refl
name_of (suc (suc (suc (suc (suc zero))))) = refl
name_of (suc (suc (suc (suc (suc (suc zero)))))) = refl
name_of (suc (suc (suc (suc (suc (suc (suc zero))))))) = refl
name_of (suc (suc (suc (suc (suc (suc (suc (suc zero)))))))) = refl
name_of (suc (suc (suc (suc (suc (suc (suc (suc (suc more))))))))) = refl
