-- The answer of `examine` gives the refusals 1 and 2, or what `take_turn` asks.
use Rattle.std.proofs.Common.{sym}
use Rattle.std.proofs.lemmas.Result.{err_from_is_err_and}
use Rattle.dispatch.proofs.TurnLaws.{table_refused, found_sound}
use Rattle.dispatch.proofs.turn.make_turn.Goals as goal

pub returns-in_err-examined : goal.returns-in_err-examined
returns-in_err-examined c =
    let handed = err_from_is_err_and c.from_residual.result c.from_residual.ensures.1 in
    rw (handed.1, handed.2) (table_refused _ _ (sym c.in_err-examined.ensures))

pub take_turn-requires : goal.take_turn-requires
take_turn-requires c = found_sound _ _ (sym c.in_ok-examined.ensures)
