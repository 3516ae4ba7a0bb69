-- One pass over the threads decides whether a table is sound.
use Rattle.std.specs.Prelude.{◌≡◌}
use Rattle.definitions.specs.Sound.{sound}
use Rattle.definitions.specs.Table.{Table}
use Rattle.soundness.specs.Pass.{found_of, passes}

pub record PassDecides : Type 0 where
  -- The soundness test makes one pass over the threads: what it decides is `sound`.
  pub one_pass : (s : Table) → passes s (found_of s s.threads) ≡ sound s
