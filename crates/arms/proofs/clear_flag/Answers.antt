-- The decision is that of clear, by its tests.
use Rattle.std.proofs.Common.{rules}
use Rattle.arms.proofs.Steps.{clear_arm}
use Rattle.arms.proofs.clear_flag.Goals as goal

pub returns : goal.returns
returns c = clear_arm _ _ (search rules)
