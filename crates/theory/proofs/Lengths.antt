-- Lengths of the lists that the definitions make: a history's pairs, a plan's bytes, the fresh table, an event's line. For every n.
use Prim.Native.Nat.{ℕ, ◌+◌, ◌*◌, ◌/◌}
use native.Mathlib.Omega.{arith}
use mathlib.Core.List.{List, [], ◌∷◌}
use mathlib.Core.Path.{◌≡◌, refl}
use lib.ListN.{length, length-append, length-replicate}
use Rattle.definitions.specs.Answers.{shown}
use Rattle.definitions.specs.PlainLock.{pairs_of}
use Rattle.definitions.specs.Plan.{bytes_of}
use Rattle.definitions.specs.Run.{event_name, event_line}
use Rattle.definitions.specs.Table.{size, fresh}
use Rattle.definitions.specs.Texts.{bytes, decimal}
use Rattle.definitions.specs.declared.Request.{Request}

-- two bytes a pair; one byte over is no pair
pub pairs-length : (bytes : List ℕ) → length (pairs_of bytes) ≡ length bytes / 2
unfolding pairs_of
pairs-length [] = refl
pairs-length (t ∷ []) = refl
pairs-length (t ∷ e ∷ rest) = omega (arith, pairs-length rest)

-- three bytes a request
pub bytes-length : (rs : List Request) → length (bytes_of rs) ≡ 3 * length rs
unfolding bytes_of
bytes-length [] = refl
bytes-length (r ∷ rs) = omega (arith, bytes-length rs)

pub fresh-length : (n : ℕ) → length (fresh n) ≡ size n
unfolding fresh
fresh-length n = omega (arith, length-replicate {A = ℕ} (3 * n) 0)

-- an event's line, `(event T (name))` and its line feed
pub event-size : (thread event : ℕ) → length (event_line thread (shown event)) ≡ 12 + length (decimal thread) + length (event_name event)
unfolding event_line bytes
event-size thread event = simp length-append (omega arith)
