-- The page of promises: of the contracts each line by citing the function's proof, of the other records each by citing the crate that proves it.
use Rattle.answer_numbers.proofs.Citations.{numbers_told}
use Rattle.arrows.proofs.Citations.{arrows_taken}
use Rattle.completeness.proofs.Citations.{sound-reached}
use Rattle.dispatched_orders.proofs.Citations.{host_and_turns}
use Rattle.dispatching.proofs.Citations.{turns_and_waiting}
use Rattle.forms.proofs.Citations.{read_as_spelled}
use Rattle.orders.proofs.Citations.{every_order}
use Rattle.plan_lengths.proofs.Citations.{rounds_and_bounds}
use Rattle.printout.proofs.Citations.{program_rooms}
use Rattle.progress.proofs.Citations.{retries_and_progress}
use Rattle.round_trips.proofs.Citations.{script_rooms, written_and_read}
use Rattle.runs.proofs.Citations.{run_rooms, printed-run}
use Rattle.soundness.proofs.Citations.{pass_decides}
use Rattle.theory.proofs.Citations.{table-entries, each-move, plan-counted}
use Rattle.turn_limit.proofs.Citations.{waiting_comes}
use Rattle.watching.proofs.Citations.{every-event}
use Rattle.printout.proofs.print_input.Met as printing
use Rattle.wospinzo.proofs.wospinzo_check.Met as check
use Rattle.wospinzo.proofs.wospinzo_dispatch.Met as dispatch
use Rattle.wospinzo.proofs.wospinzo_fresh.Met as fresh
use Rattle.wospinzo.proofs.wospinzo_move.Met as move
use Rattle.wospinzo.proofs.wospinzo_nodes.Met as nodes
use Rattle.wospinzo.proofs.wospinzo_open_moves.Met as open-moves
use Rattle.wospinzo.proofs.wospinzo_plan.Met as plan
use Rattle.wospinzo.proofs.wospinzo_plan_length.Met as plan-length
use Rattle.wospinzo.proofs.wospinzo_read_script.Met as read-script
use Rattle.wospinzo.proofs.wospinzo_run.Met as run
use Rattle.wospinzo.proofs.wospinzo_version.Met as version
use Rattle.wospinzo.proofs.wospinzo_watch_event.Met as watch-event
use Rattle.wospinzo.proofs.wospinzo_watch_inside.Met as watch-inside
use Rattle.wospinzo.proofs.wospinzo_watch_start.Met as watch-start
use Rattle.wospinzo.proofs.wospinzo_write_script.Met as write-script
use Rattle.promises.specs.Entries.{Entries}
use Rattle.promises.specs.Promises.{Promises}

entries : {M : Type 1} → Entries M
entries =
    record {
      wospinzo_version = version.met;
      wospinzo_fresh = fresh.met;
      wospinzo_move = move.met;
      wospinzo_dispatch = dispatch.met;
      wospinzo_nodes = nodes.met;
      wospinzo_open_moves = open-moves.met;
      wospinzo_check = check.met;
      wospinzo_plan_length = plan-length.met;
      wospinzo_plan = plan.met;
      wospinzo_run = run.met;
      wospinzo_write_script = write-script.met;
      wospinzo_read_script = read-script.met;
      wospinzo_watch_start = watch-start.met;
      wospinzo_watch_event = watch-event.met;
      wospinzo_watch_inside = watch-inside.met;
      print_input = printing.met;
    }

pub proved : {M : Type 1} → Promises M
proved =
    record {
      entries = entries;
      numbers_told = numbers_told;
      table-entries = table-entries;
      run_rooms = run_rooms;
      script_rooms = script_rooms;
      program_rooms = program_rooms;
      read_as_spelled = read_as_spelled;
      each-move = each-move;
      sound-reached = sound-reached;
      pass_decides = pass_decides;
      every_order = every_order;
      printed-run = printed-run;
      every-event = every-event;
      written_and_read = written_and_read;
      plan-counted = plan-counted;
      rounds_and_bounds = rounds_and_bounds;
      retries_and_progress = retries_and_progress;
      arrows_taken = arrows_taken;
      turns_and_waiting = turns_and_waiting;
      waiting_comes = waiting_comes;
      host_and_turns = host_and_turns;
    }
