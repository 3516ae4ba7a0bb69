-- The triples before the present one have passed.
use Rattle.triple_tests.proofs.TripleTests.{Tried}
use Rattle.triple_tests.proofs.test_triples.Given as goal

abbrev pub invariant-loop-k : goal.invariant-loop-k
invariant-loop-k l = Tried l.threads l.triples l.k-counter
