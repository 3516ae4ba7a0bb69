-- `words::starts_with` meets its contract: what is shorter than the text does not begin with it.
use Rattle.std.proofs.Common.{sym}
use Rattle.words.proofs.Comparisons.{starts-short}
use Rattle.words.proofs.starts_with.Goals as goal

pub returns-then-part-text-clause-value : goal.returns-then-part-text-clause-value
returns-then-part-text-clause-value c = sym (starts-short c.args.text.now c.args.part.now c.if-part-text.true)
