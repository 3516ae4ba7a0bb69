-- What this crate has on the page of promises (specs/EveryEvent), each line by citing its theorem.
use Rattle.watching.specs.EveryEvent.{EveryEvent}
use Rattle.watching.proofs.EveryEvent as watching

pub every-event : EveryEvent
every-event =
    record {
      watch_verdict = watching.verdict;
      watch_permitted = watching.kept-permitted;
      watch_exactly = watching.accepted_exactly;
      watch_throughout = watching.accepted_throughout;
      watch_lock = watching.lock_watched;
      watch_record_lem = watching.lock_record;
      watch_consistent = watching.consistent_exactly;
      watch_counted = watching.inside-counted;
      watch_question = watching.inside_watched;
    }
