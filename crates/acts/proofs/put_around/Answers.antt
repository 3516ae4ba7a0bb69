-- Three parts, one behind the other.
use native.Mathlib.Omega.{arith}
use mathlib.Core.List.{◌++◌}
use lib.ListN.{length-append}
use Rattle.definitions.specs.Texts.{decimal}
use Rattle.text.proofs.Cursors.{puts_both}
use Rattle.acts.proofs.put_around.Goals as goal

pub put-requires-2 : goal.put-requires-2
put-requires-2 c =
    let text = length-append c.args.word.now (decimal c.args.number ++ c.args.close.now) in
    record { ends = omega (arith, c.requires.ends, text, length-append (decimal c.args.number) c.args.close.now) }

pub returns : goal.returns
returns c = puts_both c.put.ensures (puts_both c.put_decimal.ensures c.put-2.ensures)
