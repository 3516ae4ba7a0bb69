-- The bytes passed are put.
use Rattle.basics.proofs.Parts.{bytewise}
use Rattle.text.proofs.Cursors.{PartsStored}
use Rattle.text.proofs.Output.put.Given as goal

abbrev pub invariant-loop-byte : goal.invariant-loop-byte
invariant-loop-byte l = PartsStored (bytewise l.text) l.fn.self l.byte-index l.self l.at
