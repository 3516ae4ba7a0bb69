-- The answer of `examine` gives the refusals 1 and 2, or what `try_move` asks.
use Rattle.std.proofs.Common.{sym}
use Rattle.std.proofs.lemmas.Result.{err_from_is_err_and}
use Rattle.lock.proofs.MoveReplies.{table_refused, found_sound}
use Rattle.lock.proofs.moves.make_move.Goals as goal

pub returns-in_err-examined : goal.returns-in_err-examined
returns-in_err-examined c =
    let handed = err_from_is_err_and c.from_residual.result c.from_residual.ensures.1 in
    rw (handed.1, handed.2) (table_refused _ _ _ (sym c.in_err-examined.ensures))

pub try_move-requires : goal.try_move-requires
try_move-requires c = found_sound _ _ (sym c.in_ok-examined.ensures)
