-- What this crate has on the page of promises (specs/TurnsAndWaiting), each line by citing its theorem.
use Rattle.dispatching.specs.TurnsAndWaiting.{TurnsAndWaiting}
use Rattle.dispatching.proofs.TurnIsMove.{turn_by, mover_names, turn_is_move}
use Rattle.dispatching.proofs.WaitingExactly.{waiting-any, refused-any, waiting_exactly, waiting_stays, refused_so}
use Rattle.dispatching.proofs.WaitingMeans.{waiting_means, waiting-holder, waiting_host}

pub turns_and_waiting : TurnsAndWaiting
turns_and_waiting =
    record {
      turn_is_move = turn_is_move;
      turn_by = turn_by;
      mover_names = mover_names;
      waiting_exactly = waiting_exactly;
      waiting_stays = waiting_stays;
      turn-refused = refused_so;
      waiting-any = waiting-any;
      refused-any = refused-any;
      waiting_means = waiting_means;
      waiting-holder = waiting-holder;
      waiting_host = waiting_host;
    }
