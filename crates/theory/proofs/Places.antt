-- The byte that a write is to (`place`), and that writes leave every other byte (`untouched`).
use Prim.Native.Nat.{ℕ}
use mathlib.Core.List.{List, [], ◌∷◌}
use mathlib.Core.Logic.{◌≢◌}
use mathlib.Core.Path.{◌≡◌, refl, ap, ◌∙◌}
use lib.ListN.{get_or, set}
use lib.Seq.{get_or-set_other}
use Rattle.definitions.specs.Table.{Write, mutex≔, target≔, phase≔, busy≔, forbidden≔, phase_at, busy_at, forbidden_at, stored_one, stored}

-- where a write stands, and its value
abbrev pub place : Write → ℕ
place (mutex≔ v) = 1
place (target≔ v) = 2
place (phase≔ i v) = phase_at i
place (busy≔ i v) = busy_at i
place (forbidden≔ i v) = forbidden_at i

abbrev pub value : Write → ℕ
value (mutex≔ v) = v
value (target≔ v) = v
value (phase≔ i v) = v
value (busy≔ i v) = v
value (forbidden≔ i v) = v

pub one_set : (bytes : List ℕ) (w : Write) → stored_one bytes w ≡ set bytes (place w) (value w)
one_set bytes (mutex≔ v) = refl
one_set bytes (target≔ v) = refl
one_set bytes (phase≔ i v) = refl
one_set bytes (busy≔ i v) = refl
one_set bytes (forbidden≔ i v) = refl

-- a place that a list of writes doesn't write
abbrev pub Unwritten : ℕ → List Write → Type 0
Unwritten k [] = Unit {0}
Unwritten k (w ∷ ws) = (k ≢ place w) × Unwritten k ws

pub untouched : (bytes : List ℕ) (k : ℕ) (ws : List Write) → Unwritten k ws → get_or (stored bytes ws) k 0 ≡ get_or bytes k 0
unfolding stored
untouched bytes k [] h = refl
untouched bytes k (w ∷ ws) h =
    untouched (stored_one bytes w) k ws h.1
    ∙ (ap (λ (l : List ℕ). get_or l k 0) (one_set bytes w) ∙ get_or-set_other bytes (place w) k (value w) 0 h.0)
