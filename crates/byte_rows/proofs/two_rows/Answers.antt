-- A row is small.
use Rattle.std.proofs.Common.{arith}
use Rattle.rows.proofs.RowBounds.{row-most}
use Rattle.byte_rows.proofs.two_rows.Goals as goal

pub overflow_add-result : goal.overflow_add-result
overflow_add-result c = omega (arith, c.row_in.ensures, c.row_in-2.ensures, row-most)
