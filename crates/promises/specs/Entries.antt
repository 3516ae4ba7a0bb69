-- The contracts of the entries for C and Rust, and of the program's printing. `statement` is the contract of a function as it stands in its source, for every model `M` of memory.
use Rattle.printout.proofs.print_input.Statement as printing
use Rattle.wospinzo.proofs.wospinzo_check.Statement as check
use Rattle.wospinzo.proofs.wospinzo_dispatch.Statement as dispatch
use Rattle.wospinzo.proofs.wospinzo_fresh.Statement as fresh-table
use Rattle.wospinzo.proofs.wospinzo_move.Statement as move
use Rattle.wospinzo.proofs.wospinzo_nodes.Statement as nodes
use Rattle.wospinzo.proofs.wospinzo_open_moves.Statement as open-moves
use Rattle.wospinzo.proofs.wospinzo_plan.Statement as plan-bytes
use Rattle.wospinzo.proofs.wospinzo_plan_length.Statement as plan-length
use Rattle.wospinzo.proofs.wospinzo_run.Statement as run
use Rattle.wospinzo.proofs.wospinzo_read_script.Statement as read-script
use Rattle.wospinzo.proofs.wospinzo_version.Statement as version
use Rattle.wospinzo.proofs.wospinzo_watch_event.Statement as watch-event
use Rattle.wospinzo.proofs.wospinzo_watch_inside.Statement as watch-inside
use Rattle.wospinzo.proofs.wospinzo_watch_start.Statement as watch-start
use Rattle.wospinzo.proofs.wospinzo_write_script.Statement as write-script

pub record Entries (M : Type 1) : Type 2 where
  -- The entries (crates/wospinzo/src/lib.rt). Each may be called with any numbers and any lent bytes, and says what it answers and what it leaves in every lent byte, refused or not.
  -- The version answers `version`. The move, asked r, answers `move_number (move_reply table r)` and leaves `move_table table r`.
  -- The dispatcher answers `turn_number (dispatch_reply table)` and leaves `dispatch_table table`.
  -- The check answers `count_number (check_reply n history)`, and of the length of a plan `count_number (plan_length_reply n history)` is answered.
  -- The others write: they answer `count_number (delivery_reply d out)` and leave `delivery_output d out`, where d is
  -- `fresh_entry n`, `nodes_entry table`, `open_entry table thread` or `plan_entry n history`. Lent bytes that are only read stay.
  -- The run answers `run_number (delivery_reply (run_entry script) out)`, the number of bytes and that of the retries among its moves.
  -- Writing answers `count_number (held (delivery_reply (write_entry n triples) out))`, `held` since the index of a triple may be any number;
  -- reading answers `read_number (delivery_reply (read_entry script) out)`.
  -- Of a watcher's record w the start answers `watch_number (start_reply n)` and leaves `start_record n w`; an event x answers `watch_number (event_reply w x)` and leaves `event_record w x`;
  -- the question answers `inside_number (question_reply w)`.
  pub wospinzo_version : version.statement M
  pub wospinzo_fresh : fresh-table.statement M
  pub wospinzo_move : move.statement M
  pub wospinzo_dispatch : dispatch.statement M
  pub wospinzo_nodes : nodes.statement M
  pub wospinzo_open_moves : open-moves.statement M
  pub wospinzo_check : check.statement M
  pub wospinzo_plan_length : plan-length.statement M
  pub wospinzo_plan : plan-bytes.statement M
  pub wospinzo_run : run.statement M
  pub wospinzo_write_script : write-script.statement M
  pub wospinzo_read_script : read-script.statement M
  pub wospinzo_watch_start : watch-start.statement M
  pub wospinzo_watch_event : watch-event.statement M
  pub wospinzo_watch_inside : watch-inside.statement M
  -- The program's printing (crates/printout). What it prints and what it reads: printout/specs/ProgramRooms.
  pub print_input : printing.statement M
