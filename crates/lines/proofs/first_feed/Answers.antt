-- `lines::first_feed` meets its contract, by what the bytes passed say of the first line feed.
use Rattle.std.proofs.Common.{◌≡◌, ◌+◌, ◌-◌, ◌≤◌, length, arith}
use Rattle.lines.proofs.FirstLines.{passed_none, feed_found, passed_more, passed_byte, no_feed}
use Rattle.lines.proofs.first_feed.Goals as goal

pub loop-at-init : goal.loop-at-init
loop-at-init c = passed_none _

pub returns-in-Some : goal.returns-in-Some
returns-in-Some c =
    let within : c.loop-at.at + 4 ≤ length c.args.text.now = omega (arith, c.loop-at.invariant.within) in
    let count : c.loop-at.at + 4 - c.loop-at.at ≡ 4 = omega arith in
    feed_found c.loop-at.invariant 4 within _ (rw count at c.in-Some.ensures)

pub loop-at-preserved : goal.loop-at-preserved
loop-at-preserved c =
    let within : c.loop-at.at + 4 ≤ length c.args.text.now = omega (arith, c.loop-at.invariant.within) in
    let count : c.loop-at.at + 4 - c.loop-at.at ≡ 4 = omega arith in
    passed_more c.loop-at.invariant 4 within (rw count at c.in_default.ensures)

pub loop-at-2-preserved : goal.loop-at-2-preserved
loop-at-2-preserved c = passed_byte c.loop-at-2.invariant c.loop-at-2-test.true c.if-text-at-eq-LINE_FEED.false

pub returns : goal.returns
returns c = no_feed c.loop-at-2.invariant c.loop-at-2-test.false
