-- A request that fails a test is turned down, and one that passes them is accepted.
use Rattle.std.proofs.lemmas.Result.{err_from_is_err_and}
use Rattle.lock.proofs.MoveReplies.{request_refused, request_passed}
use Rattle.lock.proofs.moves.try_move.Goals as goal

pub returns-in_err-mv : goal.returns-in_err-mv
returns-in_err-mv c =
    let handed = err_from_is_err_and c.from_residual.result c.from_residual.ensures.1 in
    rw (handed.1, handed.2) (request_refused _ _ _ _ c.requires c.in_err-mv.ensures)

pub apply_request-requires : goal.apply_request-requires
apply_request-requires c = request_passed _ _ _ _ c.requires c.in_ok-mv.ensures
