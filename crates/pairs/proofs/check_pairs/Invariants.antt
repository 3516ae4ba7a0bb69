-- The pairs before the present one are passed (PassLaws).
use Rattle.std.proofs.Common.{length}
use Rattle.definitions.specs.PlainLock.{pairs_of}
use Rattle.pairs.proofs.PassLaws.{Passed}
use Rattle.pairs.proofs.check_pairs.Given as goal

abbrev pub invariant-loop-k : goal.invariant-loop-k
invariant-loop-k l = Passed l.threads (pairs_of l.history) l.places l.inside (length l.yielded)
