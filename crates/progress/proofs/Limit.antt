-- The limit (02 §7): from any table, a list of accepted moves without calls and without retries has at most N × (3N + 5) moves.
-- Each of them lowers the number of Measure by 1, and a sound table's number is at most that; the first accepted move shows that the table is sound.
use Prim.Native.Nat.{ℕ, ◌≤◌}
use native.Mathlib.Omega.{arith}
use mathlib.Core.List.{List, [], ◌∷◌}
use lib.Dec.{T}
use lib.ListN.{length}
use Rattle.definitions.specs.Table.{table_of, byte_table}
use Rattle.definitions.specs.declared.Request.{Request}
use Rattle.theory.proofs.Bytes.{byte_keeps}
use Rattle.theory.proofs.SoundKept.{accepted-sound}
use Rattle.theory.proofs.Soundness.{sound_e}
use Rattle.progress.specs.Progress.{progresses, most_progress}
use Rattle.progress.proofs.Counting.{parts, bounded}
use Rattle.progress.proofs.Measure.{measure_most}

pub limit : (table : List ℕ) (rs : List Request) → T (progresses table rs) → length rs ≤ most_progress (table_of table).threads
limit table [] t = omega arith
limit table (r ∷ rs) t =
    let sound = (accepted-sound table r (parts byte_table byte_keeps table r rs t).0).0 in
    omega (arith, bounded byte_table byte_keeps table (r ∷ rs) t, measure_most (table_of table) (sound_e (table_of table) sound.is_sound))
