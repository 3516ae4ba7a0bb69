use Rattle.std.proofs.Common.{◌≡◌, length, ◌∙◌, rules}
use Rattle.definitions.specs.Bounds.{most_threads}
use Rattle.consistency.proofs.OnePass.{as_lent}
use Rattle.consistency.proofs.is_consistent.Goals as goal

-- one pass decides
pub returns : goal.returns
returns c =
    let long : length c.args.watcher.now.places ≡ most_threads = search rules in
    c.found_fits.ensures ∙ rw (c.find.ensures, c.is_empty.ensures, c.split_at.ensures.front, c.split_at.ensures.back) (as_lent c.args.watcher.now long c.requires)
