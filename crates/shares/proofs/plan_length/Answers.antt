-- `plan_length` meets its contract: refused by the check, or counted.
use Rattle.std.proofs.Common.{rules}
use Rattle.shares.proofs.LengthLaws.{length_reply}
use Rattle.shares.proofs.plan_length.Goals as goal

pub returns : goal.returns
returns c = let reply = length_reply _ _ c.check.result c.check.ensures in search rules
