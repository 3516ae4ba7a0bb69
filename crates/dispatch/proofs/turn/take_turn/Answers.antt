-- It waits where none is chosen, and else makes the request that is, which is accepted.
use Rattle.std.proofs.lemmas.Result.{err_from_is_err_and}
use Rattle.dispatch.proofs.TurnLaws.{nobody_turn, made_turn, not_refused}
use Rattle.dispatch.proofs.turn.take_turn.Goals as goal

pub returns-in_default : goal.returns-in_default
returns-in_default c = nobody_turn _ _ c.requires.tested c.in_default.ensures

pub returns-in_err-made : goal.returns-in_err-made
returns-in_err-made c =
    let handed = err_from_is_err_and c.from_residual.result c.from_residual.ensures.1 in
    rw (handed.1, handed.2) (not_refused _ _ c.requires.tested c.in-Some.field-0 c.in-Some.ensures.0 c.in-Some.ensures.1 _ _ (rw c.from.ensures at c.in_err-made.ensures))

pub returns : goal.returns
returns c =
    made_turn _ _ c.requires.tested c.in-Some.field-0 c.in-Some.ensures.0 c.in-Some.ensures.1 _ _ _ (rw c.from.ensures at c.in_ok-made.ensures) c.event.ensures
