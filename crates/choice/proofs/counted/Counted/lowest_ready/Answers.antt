-- What the search answers.
use Rattle.std.proofs.Common.{rules}
use borrow.Author.Tests.{tests}
use Rattle.definitions.specs.Table.{table_of}
use Rattle.dispatching.specs.Ready.{ready}
use Rattle.choice.proofs.SearchLaws.{found_from}
use Rattle.choice.proofs.counted.Counted.lowest_ready.Goals as goal

pub returns : goal.returns
returns c = found_from _ _ (ready (table_of c.args.self.now.table.now)) _ _ _ c.find.ensures.ran (λ x b q k. search (rules, tests))
