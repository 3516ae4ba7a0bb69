-- What this crate has on the page of promises (specs/PassDecides), each line by citing its theorem.
use Rattle.soundness.specs.PassDecides.{PassDecides}
use Rattle.soundness.proofs.OnePass.{one_pass}

pub pass_decides : PassDecides
pass_decides =
    record {
      one_pass = one_pass;
    }
