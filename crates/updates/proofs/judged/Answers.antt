use Rattle.std.proofs.Common.{rules}
use Rattle.updates.proofs.EventLaws.{counted, judged_right}
use Rattle.updates.proofs.judged.Goals as goal

pub judge-verdict-requires : goal.judge-verdict-requires
judge-verdict-requires c = counted c.args.watcher.now c.args.thread c.args.event (search rules) c.requires _ c.standing.ensures

pub returns : goal.returns
returns c = let right = judged_right c.args.watcher.now c.args.thread c.args.event (search rules) c.requires _ c.standing.ensures _ c.judge-verdict.ensures in search rules
