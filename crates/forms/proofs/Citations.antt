-- What this crate has on the page of promises (specs/ReadAsSpelled), each line by citing its theorem.
use Rattle.forms.specs.ReadAsSpelled.{ReadAsSpelled}
use Rattle.forms.proofs.Spelling as spelled

pub read_as_spelled : ReadAsSpelled
read_as_spelled =
    record {
      threads-read = spelled.threads-read;
      request-read = spelled.request-read;
      note-read = spelled.note-read;
      spelled_once = spelled.spelled_once;
      read-spelled = spelled.read-spelled;
    }
