use Rattle.definitions.specs.Plan.{bytes_of}
use Rattle.text.proofs.Cursors.{puts_both}
use Rattle.triples.proofs.put_triple.Goals as goal

-- three bytes, one behind the other
pub returns : goal.returns
unfolding bytes_of
returns c = puts_both c.put_byte.ensures (puts_both c.put_byte-2.ensures c.put_byte-3.ensures)
