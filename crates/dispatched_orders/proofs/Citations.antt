-- What this crate has on the page of promises (specs/HostAndTurns), each line by citing its theorem.
use Rattle.dispatched_orders.specs.HostAndTurns.{HostAndTurns}
use Rattle.dispatched_orders.proofs.StepsSafe.{as_requests, steps_safe}

pub host_and_turns : HostAndTurns
host_and_turns =
    record {
      as_requests = as_requests;
      steps_safe = steps_safe;
    }
