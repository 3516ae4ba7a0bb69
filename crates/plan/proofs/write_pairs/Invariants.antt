-- The triples of the pairs passed are put.
use Rattle.std.proofs.Common.{length}
use Rattle.definitions.specs.PlainLock.{pairs_of}
use Rattle.definitions.specs.Plan.{plan, bytes_of}
use Rattle.text.proofs.Items.{ItemsPut}
use Rattle.plan.proofs.write_pairs.Given as goal

abbrev pub invariant-loop-pair : goal.invariant-loop-pair
invariant-loop-pair l = ItemsPut (λ h. bytes_of (plan l.threads h)) (pairs_of l.history) l.fn.out (length l.yielded) l.out
