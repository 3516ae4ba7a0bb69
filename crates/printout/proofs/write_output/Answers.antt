-- The line for a script too long, as the code has it.
use mathlib.Core.Path.{◌∙◌}
use Rattle.definitions.specs.Texts.{bytes}
use Rattle.printout.proofs.Output.{too_long, too_long_line}
use Rattle.printout.proofs.write_output.Goals as goal

pub returns-then-input-gt-MOST_SCRIPT : goal.returns-then-input-gt-MOST_SCRIPT
unfolding bytes
returns-then-input-gt-MOST_SCRIPT c = rw (too_long c.args.input.now c.if-input-gt-MOST_SCRIPT.true ∙ too_long_line) c.deliver.ensures
