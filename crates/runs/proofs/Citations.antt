-- What this crate has on the page of promises (specs/RunRooms, specs/PrintedRun), each line by citing its theorem.
use Rattle.runs.specs.RunRooms.{RunRooms}
use Rattle.runs.specs.PrintedRun.{PrintedRun}
use Rattle.runs.proofs.RetriesCounted.{retries-counted, retries-few}
use Rattle.runs.proofs.StepsAndEvents.{all-accepted, events-printed, steps_counted}
use Rattle.runs.proofs.Suffices as suffices

pub run_rooms : RunRooms
run_rooms =
    record {
      run_room = suffices.never_refused;
      run_length = suffices.run_bound;
    }

pub printed-run : PrintedRun
printed-run =
    record {
      run-accepted = all-accepted;
      run-prints = events-printed;
      run_steps = steps_counted;
      run-retries = retries-counted;
      retries-few = retries-few;
    }
