-- In a buffer that suffices the output is written, and no refusal is answered.
use Rattle.printout.proofs.Output.{printed}
use Rattle.printout.proofs.print_input.Goals as goal

pub returns : goal.returns
returns c = rw c.unwrap_or.ensures (printed _ c.requires _ c.write_output.ensures)
