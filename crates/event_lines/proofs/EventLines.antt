-- The lines of a history have a line for each pair.
use mathlib.Core.Path.{refl}
use Rattle.definitions.specs.Answers.{shown}
use Rattle.definitions.specs.PlainLock.{Pair}
use Rattle.definitions.specs.Run.{event_line, event_lines}
use Rattle.text.proofs.Items.{ByItems}

pub by_pairs : ByItems (λ (p : Pair). event_line p.thread (shown p.event)) event_lines
unfolding event_lines
by_pairs = record { none = refl; more = λ x xs. refl }
