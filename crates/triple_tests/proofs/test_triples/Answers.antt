-- A triple's own tests, and those behind it, answer what is left of the list.
use Rattle.std.proofs.Common.{rules, arith}
use Rattle.triple_tests.proofs.TripleTests.{tried_all, tried_refused, tried_passed}
use Rattle.triple_tests.proofs.test_triples.Goals as goal

pub returns : goal.returns
returns c = tried_all _ _ _ (omega arith) c.loop-k.invariant

pub returns-in_err-map_err : goal.returns-in_err-map_err
returns-in_err-map_err c = tried_refused _ _ (omega arith) c.loop-k.invariant c.request_of-request.ensures _ c.test_numbers.ensures _ (search rules)

pub loop-k-preserved : goal.loop-k-preserved
loop-k-preserved c = tried_passed _ _ (omega arith) c.loop-k.invariant c.request_of-request.ensures _ c.test_numbers.ensures c.in_ok-map_err.field-0 (search rules)
