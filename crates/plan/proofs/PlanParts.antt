-- The bytes of a plan are a text with a part for each pair: the triples of its plan.
use Rattle.std.proofs.Common.{ℕ, refl}
use Rattle.definitions.specs.PlainLock.{Pair}
use Rattle.definitions.specs.Plan.{plan_of, plan, bytes_of}
use Rattle.text.proofs.Items.{ByItems}
use Rattle.theory.proofs.Triples.{bytes_append}

pub by_pairs : (n : ℕ) → ByItems (λ (x : Pair). bytes_of (plan_of n x)) (λ h. bytes_of (plan n h))
unfolding plan bytes_of
by_pairs n = record { none = refl; more = λ x h. bytes_append (plan_of n x) (plan n h) }
