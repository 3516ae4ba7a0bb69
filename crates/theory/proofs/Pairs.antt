-- The pairs of a history's bytes, from a pair on.
use Prim.Native.Nat.{ℕ, suc, ◌+◌, ◌*◌, ◌/◌, ◌≤◌, ◌<◌}
use native.Mathlib.Omega.{arith}
use mathlib.Core.List.{List, [], ◌∷◌}
use mathlib.Core.Path.{◌≡◌, refl}
use lib.ListN.{length, get_or, drop, length-drop}
use lib.Seq.{drop-cons}
use Rattle.definitions.specs.PlainLock.{Pair, pairs_of}

-- the pair of index k
abbrev pub pair_at : List ℕ → ℕ → Pair
pair_at bytes k = record { thread = get_or bytes (2 * k) 0; event = get_or bytes (2 * k + 1) 0 }

two_more : (k : ℕ) → 2 * (k + 1) ≡ suc (suc (2 * k))
two_more k = omega arith

one_more : (k : ℕ) → 2 * k + 1 ≡ suc (2 * k)
one_more k = omega arith

pub pairs_next : (bytes : List ℕ) (k : ℕ) → k < length bytes / 2
    → pairs_of (drop (2 * k) bytes) ≡ pair_at bytes k ∷ pairs_of (drop (2 * (k + 1)) bytes)
unfolding pairs_of
pairs_next bytes k l =
    rw (two_more k, one_more k, drop-cons bytes (2 * k) 0 (omega arith), drop-cons bytes (suc (2 * k)) 0 (omega arith))

short-pairs : (l : List ℕ) → length l < 2 → pairs_of l ≡ []
unfolding pairs_of
short-pairs [] h = refl
short-pairs (t ∷ []) h = refl
short-pairs (t ∷ e ∷ rest) h = absurd (omega arith)

pub pairs_end : (bytes : List ℕ) (k : ℕ) → length bytes / 2 ≤ k → pairs_of (drop (2 * k) bytes) ≡ []
pairs_end bytes k l = short-pairs (drop (2 * k) bytes) (omega (arith, length-drop (2 * k) bytes))
