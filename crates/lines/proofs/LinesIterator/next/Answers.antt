-- `next` of `lines::Lines` gives the first of the lines that are left.
use Rattle.std.proofs.Common.{ap, length, rules}
use Rattle.lines.proofs.FirstLines.{no_line, line_ended, line_unended}
use Rattle.lines.proofs.LinesIterator.next.Goals as goal

pub returns-then-script-from-clause-steps : goal.returns-then-script-from-clause-steps
returns-then-script-from-clause-steps c = let none = no_line _ _ c.if-script-from.true in (none, none)

pub returns-in-Some-clause-steps : goal.returns-in-Some-clause-steps
returns-in-Some-clause-steps c = line_ended _ _ c.if-script-from.false _ c.in-Some.ensures

pub returns-in-None-clause-steps : goal.returns-in-None-clause-steps
returns-in-None-clause-steps c = line_unended _ _ c.if-script-from.false c.in-None.ensures

pub returns-in-Some-clause-goes : goal.returns-in-Some-clause-goes
returns-in-Some-clause-goes c =
    let fewer = ap length (line_ended _ _ c.if-script-from.false _ c.in-Some.ensures) in
    search rules

pub returns-in-None-clause-goes : goal.returns-in-None-clause-goes
returns-in-None-clause-goes c =
    let fewer = ap length (line_unended _ _ c.if-script-from.false c.in-None.ensures) in
    search rules
