-- What `examine` answers: N and how many forbidden are 1, or the first of the refusals 1 and 2 that fits.
-- proofs/TableTests tells a caller what each answer means.
use Rattle.std.specs.Prelude.{ℕ, Result, Ok, Err, cond, List}
use Rattle.definitions.specs.Sound.{sound}
use Rattle.definitions.specs.Table.{table_of, sized}
use Rattle.definitions.specs.declared.Refusal.{Refusal}
use Rattle.definitions.specs.declared.Refusal.TheVariants.{BadSize, Unsound}
use Rattle.theory.specs.Tables.{forbidden_count}
use Rattle.table.specs.declared.tests.Examined.{Examined}

-- what is told of a sound table
abbrev pub told_of : List ℕ → Examined
told_of bytes = record { threads = (table_of bytes).threads; forbidden = forbidden_count (table_of bytes) }

unfoldable pub examined_of : List ℕ → Result Examined Refusal
examined_of bytes = cond (sized bytes) (cond (sound (table_of bytes)) (Ok (told_of bytes)) (Err Unsound)) (Err BadSize)
