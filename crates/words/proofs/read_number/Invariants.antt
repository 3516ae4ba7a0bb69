-- The loop of `words::read_number`: the bytes passed are digits, three at most, and `value` is theirs. The measure is how many more may be passed.
use Rattle.std.proofs.Common.{◌-◌}
use Rattle.words.proofs.NumberReading.{ReadSoFar}
use Rattle.words.proofs.read_number.Given as goal

abbrev pub invariant-loop-value : goal.invariant-loop-value
invariant-loop-value l = ReadSoFar l.part l.digits l.value

abbrev pub decreases-loop-value : goal.decreases-loop-value
decreases-loop-value l = 3 - l.digits
