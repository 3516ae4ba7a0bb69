-- Bytes of which a task was written have the same size and as many threads.
use Prim.Native.Nat.{ℕ, ◌<◌}
use mathlib.Core.List.{List}
use mathlib.Core.Path.{◌≡◌, ap}
use Rattle.definitions.specs.Table.{Table, table_of, byte_table}
use Rattle.definitions.specs.declared.Task.{Task}
use Rattle.theory.specs.Tables.{Sized, task_writes, put_task}
use Rattle.theory.proofs.Bytes.{sized_e, sized_i, byte_keeps}
use Rattle.theory.proofs.Writes.{applied-keeps}

module _ (bytes : List ℕ) (i : ℕ) (m : Task) (after : List ℕ) (put : after ≡ put_task byte_table bytes i m) (z : Sized bytes) (l : i < (table_of bytes).threads) where
  pub put_sized : Sized after
  put_sized = rw put (sized_e _ (byte_keeps.fits bytes (task_writes i m) (sized_i bytes z) (l, (l, (l, tt)))))

  pub put_below : (t : ℕ) → t < (table_of bytes).threads → t < (table_of after).threads
  put_below t k =
      rw (put, ap (λ (s : Table). s.threads) (byte_keeps.writes bytes (task_writes i m) (sized_i bytes z) (l, (l, (l, tt)))), applied-keeps (table_of bytes) (task_writes i m)) k
