-- Two bytes, one behind the other.
use Rattle.text.proofs.Cursors.{puts_both}
use Rattle.turns.proofs.put_pair.Goals as goal

pub returns : goal.returns
returns c = puts_both c.put_byte.ensures c.put_byte-2.ensures
