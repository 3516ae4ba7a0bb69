-- The text has no room, or it is put at the front.
use mathlib.Core.List.{[]}
use Rattle.std.proofs.Common.{rules}
use Rattle.basics.proofs.Replies.{no_test}
use Rattle.text.proofs.Deliveries.{short-refused, put_delivered}
use Rattle.text.proofs.deliver.Goals as goal

pub returns-then-out-text : goal.returns-then-out-text
returns-then-out-text c = rw c.into.ensures (short-refused [] _ _ no_test c.if-out-text.true)

pub returns : goal.returns
returns c = put_delivered [] no_test c.if-out-text.false c.new.ensures c.put.ensures (search rules)
