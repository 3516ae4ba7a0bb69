use native.Mathlib.Omega.{arith}
use mathlib.Core.Path.{ap}
use lib.ListN.{length}
use Rattle.theory.proofs.Lengths.{event-size}
use Rattle.event_lines.proofs.event_length.Goals as goal

pub returns : goal.returns
returns c = omega (arith, event-size c.args.thread c.args.code, c.decimal_length.ensures.digits, ap length c.event_name.ensures)
