-- The lines of the pairs passed are put.
use lib.ListN.{length}
use Rattle.definitions.specs.PlainLock.{pairs_of}
use Rattle.definitions.specs.Run.{event_lines}
use Rattle.text.proofs.Items.{ItemsPut}
use Rattle.event_lines.proofs.put_events.Given as goal

abbrev pub invariant-loop-pair : goal.invariant-loop-pair
invariant-loop-pair l = ItemsPut event_lines (pairs_of l.history) l.fn.out (length l.yielded) l.out
