-- The threads line and the lines of the triples passed are measured.
use Prim.Native.Nat.{◌+◌, ◌*◌, ◌≤◌}
use lib.ListN.{length}
use Rattle.definitions.specs.Chains.{requests_of}
use Rattle.definitions.specs.Forms.{threads_line}
use Rattle.definitions.specs.Scripts.{ended, moves_text}
use Rattle.text.proofs.Items.{ItemsMeasured}
use Rattle.script_text.proofs.script_length.Given as goal

abbrev pub invariant-loop-triple : goal.invariant-loop-triple
invariant-loop-triple l =
    (l.total ≤ 60 * length l.yielded + 31) × ItemsMeasured moves_text (requests_of l.triples) (length (ended (threads_line l.threads))) (length l.yielded) l.total
