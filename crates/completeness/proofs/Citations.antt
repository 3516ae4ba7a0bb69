-- What this crate has on the page of promises (specs/SoundReached), each line by citing its theorem.
use Rattle.completeness.specs.SoundReached.{SoundReached}
use Rattle.completeness.proofs.Completeness as completeness

pub sound-reached : SoundReached
sound-reached =
    record {
      complete = completeness.complete;
      move-refused = completeness.move-refused;
      nodes-refused = completeness.nodes-refused;
      open_refused = completeness.open_refused;
      dispatch-refused = completeness.dispatch-refused;
    }
