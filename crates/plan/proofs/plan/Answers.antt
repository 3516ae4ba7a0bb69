-- `plan` meets its contract: refused by the check, no room, or written.
use Rattle.std.proofs.Common.{sym, refl, arith, rules}
use Rattle.definitions.specs.Answers.{counted}
use Rattle.definitions.specs.Plan.{plan_entry}
use Rattle.basics.proofs.Outputs.{no_room, with_answer}
use Rattle.text.proofs.Deliveries.{room_at_front, put_delivered}
use Rattle.plan.proofs.EntryLaws.{plan_refused, planned}
use Rattle.plan.proofs.plan.Goals as goal

pub returns-in_default : goal.returns-in_default
returns-in_default c = plan_refused _ _ c.check-checked.result c.in_default.field-0 c.in_default.is c.check-checked.ensures _

pub returns-then-out-moves : goal.returns-then-out-moves
returns-then-out-moves c =
    let p = planned c.args.threads c.args.history.now _ _ c.in-Ok.ensures c.count_moves-moves.ensures in
    rw c.into.ensures (no_room (plan_entry c.args.threads c.args.history.now) _ p.tested (omega (arith, p.size)))

pub overflow_cast-threads : goal.overflow_cast-threads
overflow_cast-threads c =
    let p = planned c.args.threads c.args.history.now _ _ c.in-Ok.ensures c.count_moves-moves.ensures in
    record { fits = omega (arith, p.few) }

pub write_pairs-requires : goal.write_pairs-requires
write_pairs-requires c =
    let p = planned c.args.threads c.args.history.now _ _ c.in-Ok.ensures c.count_moves-moves.ensures in
    room_at_front (omega (arith, p.size)) c.new.ensures

pub returns : goal.returns
returns c =
    let p = planned c.args.threads c.args.history.now _ _ c.in-Ok.ensures c.count_moves-moves.ensures in
    let entry = plan_entry c.args.threads c.args.history.now in
    with_answer (λ _. c.count_moves-moves.result) (counted entry.tests entry.text) entry p.tested p.tested refl (sym p.count)
    (put_delivered entry.tests p.tested (omega (arith, p.size)) c.new.ensures c.write_pairs.ensures (search rules))
