-- What this crate has on the page of promises (specs/ScriptRooms, specs/WrittenAndRead), each line by citing its theorem.
use Rattle.round_trips.specs.ScriptRooms.{ScriptRooms}
use Rattle.round_trips.specs.WrittenAndRead.{WrittenAndRead}
use Rattle.round_trips.proofs.PlanWriteRun.{plan-write-run}
use Rattle.round_trips.proofs.ReadWritten.{read_written}
use Rattle.round_trips.proofs.RefusedAlike as alike
use Rattle.round_trips.proofs.Rooms as room
use Rattle.round_trips.proofs.SameScript.{same_script}
use Rattle.round_trips.proofs.WrittenRead.{written_read}

pub script_rooms : ScriptRooms
script_rooms =
    record {
      read-room = room.read-room;
      write-room = room.write-room;
    }

pub written_and_read : WrittenAndRead
written_and_read =
    record {
      read_written = read_written;
      written_read = written_read;
      same_script = same_script;
      refused_alike = alike.refused_alike;
      read-numbers = alike.read-numbers;
      finished_reads = alike.finished_reads;
      run-refused = alike.run-refused;
      plan-write-run = plan-write-run;
    }
