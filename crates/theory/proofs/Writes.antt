-- Writes to a table's record: two records with equal fields, and that N stays.
use mathlib.Core.List.{List, [], ◌∷◌}
use mathlib.Core.Path.{◌≡◌, refl, ◌∙◌}
use Rattle.definitions.specs.Table.{Table, Write, mutex≔, target≔, phase≔, busy≔, forbidden≔, applied_one, applied}

-- two records with equal fields
pub same-table : (s t : Table) → s.threads ≡ t.threads → s.mutex ≡ t.mutex → s.target ≡ t.target → s.phase ≡ t.phase → s.busy ≡ t.busy → s.forbidden ≡ t.forbidden → s ≡ t
same-table s t n m g p b f = λ k. record { threads = n k; mutex = m k; target = g k; phase = p k; busy = b k; forbidden = f k }

pub applied-threads : (s : Table) (w : Write) → (applied_one s w).threads ≡ s.threads
applied-threads s (mutex≔ v) = refl
applied-threads s (target≔ v) = refl
applied-threads s (phase≔ i v) = refl
applied-threads s (busy≔ i v) = refl
applied-threads s (forbidden≔ i v) = refl

pub applied-keeps : (s : Table) (ws : List Write) → (applied s ws).threads ≡ s.threads
applied-keeps s [] = refl
applied-keeps s (w ∷ ws) = applied-keeps (applied_one s w) ws ∙ applied-threads s w
