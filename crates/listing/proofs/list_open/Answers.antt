-- The pairs are counted, and put where there is room.
use Rattle.std.proofs.Common.{[], arith, rules}
use Rattle.basics.proofs.Replies.{no_test}
use Rattle.text.proofs.Deliveries.{short-refused, put_delivered}
use Rattle.listing.proofs.list_open.Goals as goal

pub returns-then-out-bytes : goal.returns-then-out-bytes
returns-then-out-bytes c = rw c.into.ensures (short-refused [] _ _ no_test (omega arith))

pub returns : goal.returns
returns c = rw c.count_open-bytes.ensures (put_delivered [] no_test (omega arith) c.new.ensures c.put_open.ensures (search rules))
