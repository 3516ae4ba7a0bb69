-- The threads line, then the lines of the moves.
use Rattle.definitions.specs.Scripts.{script_of}
use Rattle.text.proofs.Cursors.{puts_both}
use Rattle.script_text.proofs.put_script.Goals as goal

pub returns : goal.returns
unfolding script_of
returns c = puts_both c.put_threads.ensures c.put_moves.ensures
