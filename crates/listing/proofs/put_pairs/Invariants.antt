-- The pairs of the targets passed are put.
use Rattle.definitions.specs.Answers.{number_of_move}
use Rattle.text.proofs.Cursors.{PartsPut}
use Rattle.listing.proofs.PairLists.{pair_parts}
use Rattle.listing.proofs.put_pairs.Given as goal

abbrev pub invariant-loop-target : goal.invariant-loop-target
invariant-loop-target l = PartsPut (pair_parts (number_of_move l.mv) l.targets) l.fn.out l.target l.out
