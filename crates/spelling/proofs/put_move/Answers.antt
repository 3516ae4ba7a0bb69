-- The four parts of a move's line, one behind the other.
use Rattle.definitions.specs.Texts.{bytes}
use Rattle.text.proofs.Cursors.{puts_both}
use Rattle.spelling.proofs.LineTexts.{move-text}
use Rattle.spelling.proofs.put_move.Goals as goal

pub returns : goal.returns
unfolding bytes
returns c =
    rw (move-text c.args.thread c.args.mv c.args.target)
    (puts_both c.put.ensures (puts_both c.put_decimal.ensures (puts_both c.put_act.ensures c.put-2.ensures)))
