-- What this crate has on the page of promises (specs/ProgramRooms), each line by citing its theorem.
use Rattle.printout.specs.ProgramRooms.{ProgramRooms}
use Rattle.printout.proofs.Output as output

pub program_rooms : ProgramRooms
program_rooms =
    record {
      program_room = output.output-fits;
      program_reads = output.read_enough;
    }
