-- Soundness is kept, on bytes: a fresh table passes the tests 1 and 2, every request leaves a table that passes them, and a refused request leaves every byte.
-- For every N, every table and every request with any numbers.
use Prim.Native.Nat.{ℕ, ◌≤◌}
use mathlib.Core.Bool.{not}
use mathlib.Core.List.{List}
use mathlib.Core.Path.{◌≡◌, sym, subst}
use lib.Dec.{T}
use Rattle.definitions.specs.Bounds.{most_threads}
use Rattle.definitions.specs.Moves.{accepts_in, move_table}
use Rattle.definitions.specs.Sound.{sound}
use Rattle.definitions.specs.Table.{Table, count_fits, table_of, byte_table, fresh}
use Rattle.definitions.specs.declared.Request.{Request}
use Rattle.theory.specs.Tables.{SoundBytes}
use Rattle.theory.proofs.Bytes.{byte_keeps, fresh-sized}
use Rattle.theory.proofs.SoundSteps.{step-sound}
use Rattle.theory.proofs.Stages.{between_e, fresh-sound}
use Rattle.theory.proofs.Storages.{accepts_e, refused-stays, table_step, fits-step}
use Rattle.theory.proofs.Ways.{accepted_e}

pub fresh-table-sound : (n : ℕ) → 1 ≤ n → n ≤ most_threads → SoundBytes (fresh n)
fresh-table-sound n least most = record { is_sized = fresh-sized n least most; is_sound = fresh-sound n least }

-- as the tests have it
pub fresh_is_sound : (n : ℕ) → T (count_fits n) → SoundBytes (fresh n)
fresh_is_sound n t = let b = between_e 1 most_threads n t in fresh-table-sound n b.0 b.1

-- every request, accepted or refused
pub sound-kept : (bytes : List ℕ) (r : Request) → SoundBytes bytes → SoundBytes (move_table bytes r)
sound-kept bytes r z =
    record {
      is_sized = fits-step byte_table byte_keeps bytes r z.is_sized;
      is_sound = subst (λ (s : Table). T (sound s)) (sym (table_step byte_table byte_keeps bytes r z.is_sized)) (step-sound (table_of bytes) r z.is_sound);
    }

-- "Every lent byte stays."
pub refused-keeps : (bytes : List ℕ) (r : Request) → T (not (accepts_in byte_table bytes r)) → move_table bytes r ≡ bytes
refused-keeps = refused-stays byte_table

-- an accepted request is to a sound table, and leaves one
pub accepted-sound : (bytes : List ℕ) (r : Request) → T (accepts_in byte_table bytes r) → SoundBytes bytes × SoundBytes (move_table bytes r)
accepted-sound bytes r t =
    let a = accepts_e byte_table bytes r t in
    let before : SoundBytes bytes = record { is_sized = a.0; is_sound = (accepted_e (table_of bytes) r a.1).is_sound } in
    (before, sound-kept bytes r before)
