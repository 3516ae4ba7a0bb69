-- The five parts of an event line, one behind the other.
use Rattle.definitions.specs.Run.{event_line}
use Rattle.definitions.specs.Texts.{bytes}
use Rattle.text.proofs.Cursors.{puts_both}
use Rattle.event_lines.proofs.put_event.Goals as goal

pub returns : goal.returns
unfolding bytes event_line
returns c = puts_both c.put.ensures (puts_both c.put_decimal.ensures (puts_both c.put-2.ensures (puts_both c.put_name.ensures c.put-3.ensures)))
