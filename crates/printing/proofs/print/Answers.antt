use Prim.Native.Nat.{◌+◌}
use native.Mathlib.Omega.{arith}
use mathlib.Core.List.{[]}
use mathlib.Core.Path.{◌≡◌}
use Rattle.std.proofs.Common.{rules}
use lib.ListN.{length, length-append}
use Rattle.definitions.specs.Answers.{counted}
use Rattle.printing.specs.Output.{output_of}
use Rattle.basics.proofs.Outputs.{no_room}
use Rattle.basics.proofs.Replies.{no_test}
use Rattle.text.proofs.Cursors.{puts_both}
use Rattle.text.proofs.Deliveries.{put_delivered}
use Rattle.definitions.specs.PlainLock.{pairs_of}
use Rattle.definitions.specs.Run.{event_lines}
use Rattle.endings.specs.LastLine.{ending_line}
use Rattle.printing.proofs.print.Goals as goal

pub returns-then-out-needed : goal.returns-then-out-needed
returns-then-out-needed c =
    let text = output_of c.args.history.now c.args.ending in
    rw c.into.ensures (no_room (counted [] text) c.args.out.now no_test (omega (arith, length-append (event_lines (pairs_of c.args.history.now)) (ending_line c.args.ending))))

pub returns : goal.returns
returns c =
    let text = output_of c.args.history.now c.args.ending in
    let measured : c.events_length-lines.result + c.ending_length-last.result ≡ length text = omega (arith, length-append (event_lines (pairs_of c.args.history.now)) (ending_line c.args.ending)) in
    rw measured (put_delivered [] no_test (omega arith) c.new-output.ensures (puts_both c.put_events.ensures c.put_ending.ensures) (search rules))
