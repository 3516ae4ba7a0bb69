-- By the first line (crate opening).
use Rattle.definitions.specs.declared.Refusal.TheVariants.{BadForm}
use Rattle.opening.proofs.FirstLines as first
use Rattle.fresh_runs.proofs.FromFresh.{stopped_first, recorded_as, lines_room}
use Rattle.fresh_runs.proofs.run_script.Goals as goal

pub run_from-requires : goal.run_from-requires
run_from-requires c = lines_room c.in-Some.ensures.behind c.requires

pub returns-in-Some : goal.returns-in-Some
returns-in-Some c = recorded_as (first.run-from c.in-Some.ensures, first.retries-from c.in-Some.ensures) c.run_from.ensures

pub returns-in-None : goal.returns-in-None
returns-in-None c = stopped_first BadForm (first.run-bad c.in-None.ensures, first.retries-bad c.in-None.ensures) c.stopped_first.ensures
