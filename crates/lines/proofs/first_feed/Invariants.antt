-- Both loops of `lines::first_feed`: no line feed was passed. The measure is what is left of the text.
use Rattle.std.proofs.Common.{length, ◌-◌}
use Rattle.lines.proofs.FirstLines.{Passed}
use Rattle.lines.proofs.first_feed.Given as goal

abbrev pub invariant-loop-at : goal.invariant-loop-at
invariant-loop-at l = Passed l.text l.at

abbrev pub decreases-loop-at : goal.decreases-loop-at
decreases-loop-at l = length l.text - l.at

abbrev pub invariant-loop-at-2 : goal.invariant-loop-at-2
invariant-loop-at-2 l = Passed l.text l.at

abbrev pub decreases-loop-at-2 : goal.decreases-loop-at-2
decreases-loop-at-2 l = length l.text - l.at
