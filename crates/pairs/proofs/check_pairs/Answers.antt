-- `check_pairs` meets its contract: each turn judges its pair as the plain lock does.
use Rattle.std.proofs.Common.{◌≡◌, Ok, rules}
use Rattle.basics.proofs.Chunks.{pairs_come, next_at, last_at}
use Rattle.pairs.proofs.PassLaws.{passed_none, counted_here, bad_here, goes_on, passed-all}
use Rattle.pairs.proofs.check_pairs.Goals as goal

pub loop-k-init : goal.loop-k-init
loop-k-init c = passed_none _ _

pub judge-judged-requires : goal.judge-judged-requires
judge-judged-requires c =
    let t = next_at (pairs_come c.args.history.now (cc) (cc)) (cc) c.loop-k.yielded _ c.loop-k.yielded_by _ _ _ _ c.in-Some.is c.next.ensures.steps in
    counted_here c.args.threads c.requires c.args.history.now c.loop-k.places c.loop-k.inside _ c.loop-k.invariant _ _ t.1

-- a bad pair
pub returns-in_err-after : goal.returns-in_err-after
returns-in_err-after c =
    let t = next_at (pairs_come c.args.history.now (cc) (cc)) (cc) c.loop-k.yielded _ c.loop-k.yielded_by _ _ _ _ c.in-Some.is c.next.ensures.steps in
    bad_here c.args.threads c.requires c.args.history.now c.loop-k.places c.loop-k.inside _ c.loop-k.invariant _ _ t.1
    c.judge-judged.result c.from_residual.result _ t.0 (search rules) c.judge-judged.ensures _

-- one that fits
pub loop-k-preserved : goal.loop-k-preserved
loop-k-preserved c =
    let t = next_at (pairs_come c.args.history.now (cc) (cc)) (cc) c.loop-k.yielded _ c.loop-k.yielded_by _ _ _ _ c.in-Some.is c.next.ensures.steps in
    let v : c.judge-judged.result ≡ Ok c.in_ok-after.after = search rules in
    goes_on c.args.threads c.requires c.args.history.now c.loop-k.places c.loop-k.inside _ c.loop-k.invariant _ _ t.1
    c.judge-judged.result c.in_ok-after.after v c.judge-judged.ensures (search rules)

pub returns : goal.returns
returns c =
    passed-all c.args.threads c.args.history.now c.loop-k.places c.loop-k.inside _ c.loop-k.invariant
    (last_at (pairs_come c.args.history.now (cc) (cc)) (cc) c.loop-k.yielded _ c.loop-k.yielded_by _ _ c.in-None.is c.next.ensures.steps)
