-- The three parts of the threads line, one behind the other.
use Rattle.definitions.specs.Texts.{bytes}
use Rattle.spelling.proofs.LineTexts.{threads-text}
use Rattle.spelling.proofs.put_threads.Goals as goal

pub returns : goal.returns
unfolding bytes
returns c = rw (threads-text c.args.threads) c.put_around.ensures
