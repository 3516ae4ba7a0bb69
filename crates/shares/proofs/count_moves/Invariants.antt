-- The shares of the events before the present one are added up (Counting).
use Rattle.std.proofs.Common.{length}
use Rattle.definitions.specs.PlainLock.{pairs_of}
use Rattle.shares.proofs.Counting.{Counting}
use Rattle.shares.proofs.count_moves.Given as goal

abbrev pub invariant-loop-pair : goal.invariant-loop-pair
invariant-loop-pair l = Counting l.threads (pairs_of l.history) (length l.yielded) l.shares
