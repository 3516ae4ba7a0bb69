-- The triples before the present one are put.
use Rattle.std.proofs.Common.{length}
use Rattle.definitions.specs.Chains.{requests_of}
use Rattle.definitions.specs.Plan.{bytes_of}
use Rattle.text.proofs.Items.{ItemsPut}
use Rattle.triples.proofs.put_triples.Given as goal

abbrev pub invariant-loop-triple : goal.invariant-loop-triple
invariant-loop-triple l = ItemsPut bytes_of (requests_of l.moves) l.fn.out (length l.yielded) l.out
