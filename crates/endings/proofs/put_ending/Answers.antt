-- The parts of the last line, one behind the other.
use Rattle.definitions.specs.Run.{steps_line, refused_line}
use Rattle.definitions.specs.Texts.{bytes}
use Rattle.text.proofs.Cursors.{puts_both}
use Rattle.endings.proofs.put_ending.Goals as goal

pub returns-in-Ok : goal.returns-in-Ok
unfolding bytes steps_line
returns-in-Ok c = rw c.in-Ok.is (puts_both c.put.ensures (puts_both c.put_decimal.ensures c.put-in-Ok.ensures))

pub returns-in-Err : goal.returns-in-Err
unfolding bytes refused_line
returns-in-Err c =
    rw (c.in-Err.is, ← c.from-number.ensures)
    (puts_both c.put-in-Err.ensures (puts_both c.put_decimal-in-Err.ensures (puts_both c.put-in-Err-2.ensures (puts_both c.put_decimal-in-Err-2.ensures c.put-in-Err-3.ensures))))
