-- What this crate has on the page of promises (specs/NumbersTold), each line by citing its theorem.
use Rattle.answer_numbers.specs.NumbersTold.{NumbersTold}
use Rattle.answer_numbers.proofs.Small.{write-held}
use Rattle.answer_numbers.proofs.Told as told

pub numbers_told : NumbersTold
numbers_told =
    record {
      move_told = told.move_told;
      turn_told = told.turn_told;
      count_told = told.count_told;
      watch_told = told.watch_told;
      inside_told = told.inside_told;
      read_told = told.read_told;
      run_told = told.run_told;
      move_low = told.move_low;
      turn_low = told.turn_low;
      count_low = told.count_low;
      read_low = told.read_low;
      read_byte = told.read_byte;
      run_low = told.run_low;
      write-held = write-held;
    }
