-- The decision is that of set, by its tests.
use Rattle.std.proofs.Common.{rules}
use Rattle.arms.proofs.Steps.{set_arm}
use Rattle.arms.proofs.set_flag.Goals as goal

pub returns-then-v-eq10 : goal.returns-then-v-eq10
returns-then-v-eq10 c = set_arm _ _ (search rules)

pub returns : goal.returns
returns c = set_arm _ _ (search rules)
