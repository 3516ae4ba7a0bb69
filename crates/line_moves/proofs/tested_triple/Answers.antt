-- `line_moves::tested_triple` meets its contract, by what the test of the numbers says.
use Rattle.std.proofs.Common.{◌≡◌, Err, rules, arith}
use Rattle.line_moves.proofs.TestedNumbers.{numbers-refused, thread_small, target_small, stated}
use Rattle.line_moves.proofs.tested_triple.Goals as goal

pub overflow_cast-result : goal.overflow_cast-result
overflow_cast-result c = record { fits = thread_small _ _ _ c.test_numbers.ensures c.in_ok-mv.mv (search rules) (omega arith) }

pub overflow_cast-result-2 : goal.overflow_cast-result-2
overflow_cast-result-2 c = record { fits = target_small _ _ _ c.test_numbers.ensures c.in_ok-mv.mv (search rules) (omega arith) }

pub returns : goal.returns
returns c = stated _ _ _ c.test_numbers.ensures c.in_ok-mv.mv (search rules) _ c.from.ensures

pub returns-in_err-mv : goal.returns-in_err-mv
returns-in_err-mv c =
    let err : c.from_residual.result ≡ Err c.in_err-mv.field-0.0 = search rules in
    rw err (numbers-refused _ _ _ c.test_numbers.ensures c.in_err-mv.field-0.0 (search rules))
