-- What the search answers, or N.
use Rattle.std.proofs.Common.{rules, eqb, ℕ, ◌≡◌, ◌∙◌}
use borrow.Author.Tests.{tests}
use Rattle.definitions.specs.Table.{table_of}
use Rattle.choice.proofs.SearchLaws.{lowest_found, lowest_or}
use Rattle.choice.proofs.counted.Counted.lowest_with.Goals as goal

pub returns : goal.returns
returns c =
    let count : c.args.self.now.threads ≡ (table_of c.args.self.now.table.now).threads = search rules in
    rw (← count)
    (c.unwrap_or.ensures ∙ lowest_or _ _ _ (lowest_found _ (λ (t : ℕ). eqb ((table_of c.args.self.now.table.now).forbidden t) c.args.flag) _ _ _ c.find.ensures.ran (λ x b q k. search (rules, tests))))
