-- The lines of the triples passed are put.
use lib.ListN.{length}
use Rattle.definitions.specs.Chains.{requests_of}
use Rattle.definitions.specs.Scripts.{moves_text}
use Rattle.text.proofs.Items.{ItemsPut}
use Rattle.script_text.proofs.put_moves.Given as goal

abbrev pub invariant-loop-triple : goal.invariant-loop-triple
invariant-loop-triple l = ItemsPut moves_text (requests_of l.triples) l.fn.out (length l.yielded) l.out
