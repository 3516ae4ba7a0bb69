-- `write_pair` meets its contract: no event has no plan, and an event in exclusive is go, requests for each thread, and go.
use Rattle.definitions.specs.Plan.{plan_of, bytes_of}
use Rattle.definitions.specs.declared.Event.TheVariants.{EnterExclusiveReturn, LeaveExclusiveCall}
use Rattle.repeats.specs.Requests.{set_each, clear_each}
use Rattle.text.proofs.Cursors.{puts_none}
use Rattle.event_plans.proofs.EventCodes.{no_plan, plan_in}
use Rattle.event_plans.proofs.Around.{each-room, last-room, all-put}
use Rattle.event_plans.proofs.write_pair.Goals as goal

pub returns-in_default : goal.returns-in_default
unfolding bytes_of
returns-in_default c =
    let none = no_plan c.args.threads c.args.thread c.args.code c.in_default.ensures in
    rw none (puts_none (rw none at c.requires))

-- set t and go for each t

pub set_each-requires : goal.set_each-requires
unfolding plan_of
set_each-requires c =
    let a = c.args in
    each-room a.thread (set_each a.thread a.threads) _ (plan_in a.threads a.thread a.code _ EnterExclusiveReturn c.in-Some.ensures c.in-EnterExclusiveReturn.is) c.requires
    c.put_triple-in-EnterExclusiveReturn.ensures

pub put_triple-requires-in-EnterExclusiveReturn-2 : goal.put_triple-requires-in-EnterExclusiveReturn-2
unfolding plan_of
put_triple-requires-in-EnterExclusiveReturn-2 c =
    let a = c.args in
    last-room a.thread (set_each a.thread a.threads) _ (plan_in a.threads a.thread a.code _ EnterExclusiveReturn c.in-Some.ensures c.in-EnterExclusiveReturn.is) c.requires
    c.put_triple-in-EnterExclusiveReturn.ensures c.set_each.ensures

pub returns-in-EnterExclusiveReturn : goal.returns-in-EnterExclusiveReturn
unfolding plan_of
returns-in-EnterExclusiveReturn c =
    let a = c.args in
    all-put a.thread (set_each a.thread a.threads) _ (plan_in a.threads a.thread a.code _ EnterExclusiveReturn c.in-Some.ensures c.in-EnterExclusiveReturn.is) c.requires
    c.put_triple-in-EnterExclusiveReturn.ensures c.set_each.ensures c.put_triple-in-EnterExclusiveReturn-2.ensures

-- clear each t

pub clear_each-requires : goal.clear_each-requires
unfolding plan_of
clear_each-requires c =
    let a = c.args in
    each-room a.thread (clear_each a.thread a.threads) _ (plan_in a.threads a.thread a.code _ LeaveExclusiveCall c.in-Some.ensures c.in-LeaveExclusiveCall.is) c.requires
    c.put_triple-in-LeaveExclusiveCall.ensures

pub put_triple-requires-in-LeaveExclusiveCall-2 : goal.put_triple-requires-in-LeaveExclusiveCall-2
unfolding plan_of
put_triple-requires-in-LeaveExclusiveCall-2 c =
    let a = c.args in
    last-room a.thread (clear_each a.thread a.threads) _ (plan_in a.threads a.thread a.code _ LeaveExclusiveCall c.in-Some.ensures c.in-LeaveExclusiveCall.is) c.requires
    c.put_triple-in-LeaveExclusiveCall.ensures c.clear_each.ensures

pub returns-in-LeaveExclusiveCall : goal.returns-in-LeaveExclusiveCall
unfolding plan_of
returns-in-LeaveExclusiveCall c =
    let a = c.args in
    all-put a.thread (clear_each a.thread a.threads) _ (plan_in a.threads a.thread a.code _ LeaveExclusiveCall c.in-Some.ensures c.in-LeaveExclusiveCall.is) c.requires
    c.put_triple-in-LeaveExclusiveCall.ensures c.clear_each.ensures c.put_triple-in-LeaveExclusiveCall-2.ensures
