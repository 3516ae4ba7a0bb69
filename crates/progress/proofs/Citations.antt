-- What this crate has on the page of promises (specs/RetriesAndProgress), each line by citing its theorem.
use Rattle.definitions.specs.Table.{byte_table}
use Rattle.theory.proofs.Storages as storages
use Rattle.progress.specs.RetriesAndProgress.{RetriesAndProgress}
use Rattle.progress.proofs.Limit.{limit}
use Rattle.progress.proofs.LimitReached.{limit-reached}
use Rattle.progress.proofs.NoStandstill.{no_standstill}
use Rattle.progress.proofs.PlanRetries.{plan-retries}
use Rattle.progress.proofs.RetryKeeps.{retry-keeps}

pub retries_and_progress : RetriesAndProgress
retries_and_progress =
    record {
      move-says = storages.accepted-reply byte_table;
      retry-keeps = retry-keeps;
      plan-retries = plan-retries;
      limit = limit;
      limit-reached = limit-reached;
      no_standstill = no_standstill;
    }
