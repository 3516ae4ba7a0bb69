-- Which outputs have room for the triples of a script and for the script of a list of triples.
use Rattle.std.specs.Prelude.{ℕ, ◌≤◌, List, length}
use Rattle.definitions.specs.Bounds.{most_script}
use Rattle.definitions.specs.Scripts.{write_entry, read_entry}
use Rattle.round_trips.specs.Exchange.{Writable, Readable}

pub record ScriptRooms : Type 0 where
  -- 9,996 bytes hold the triples of every script that is read, and 30,000 every script that is written.
  pub read-room : (script : List ℕ) → Readable script → length (read_entry script).text ≤ 9_996
  pub write-room : (n : ℕ) (triples : List ℕ) → Writable n triples → length (write_entry n triples).text ≤ most_script
