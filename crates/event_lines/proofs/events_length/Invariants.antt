-- The lines of the pairs passed are measured.
use lib.ListN.{length}
use Rattle.definitions.specs.PlainLock.{pairs_of}
use Rattle.definitions.specs.Run.{event_lines}
use Rattle.text.proofs.Items.{ItemsMeasured}
use Rattle.event_lines.proofs.events_length.Given as goal

abbrev pub invariant-loop-pair : goal.invariant-loop-pair
invariant-loop-pair l = ItemsMeasured event_lines (pairs_of l.history) 0 (length l.yielded) l.total
