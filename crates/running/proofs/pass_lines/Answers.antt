-- The loop begins and keeps its invariant, and what it says at each end.
use Rattle.std.proofs.Common.{◌≡◌, ◌∷◌, [], ◌++◌, length}
use Rattle.lines.specs.Lines.{line_read, lines_left}
use Rattle.basics.proofs.Chunks.{Next, next_at, last_at}
use Rattle.lines.proofs.Walks.{lines_come}
use Rattle.running.proofs.Loop.{begun, finished, line_room, stop, goes_on}
use Rattle.running.proofs.pass_lines.Goals as goal
use Rattle.running.proofs.pass_lines.Goals.{In-Some}

turn : (c : In-Some) → (c.in-Some.k ≡ length c.loop-k.yielded)
    × Next (lines_left c.args.lines) (length c.loop-k.yielded) (line_read c.in-Some.line) (length (c.loop-k.yielded ++ (c.in-Some.k, c.in-Some.line) ∷ []))
turn c = next_at (lines_come c.args.lines (cc)) (cc) c.loop-k.yielded _ c.loop-k.yielded_by _ c.next.new.self _ _ c.in-Some.is c.next.ensures.steps

pub loop-k-init : goal.loop-k-init
loop-k-init c = begun c.requires.room c.requires.front

pub take_line-requires : goal.take_line-requires
take_line-requires c =
    let t = turn (goal.at.take_line-requires c).In-Some in
    (c.loop-k.invariant.tested, line_room c.requires.room.room c.loop-k.invariant t.1)

pub loop-k-preserved : goal.loop-k-preserved
loop-k-preserved c =
    let t = turn (goal.at.loop-k-preserved c).In-Some in
    goes_on c.requires.room.room c.loop-k.invariant t.1 c.in-Ok.ensures c.take_line.auto.table

pub returns-in-Err : goal.returns-in-Err
returns-in-Err c =
    let t = turn (goal.at.returns-in-Err c).In-Some in
    rw c.at.ensures (stop c.requires.room.room c.loop-k.invariant t.1 _ _ c.in-Err.ensures c.written.ensures _ t.0)

pub returns : goal.returns
returns c =
    finished c.requires.room.room c.loop-k.invariant c.written-2.ensures
    (last_at (lines_come c.args.lines (cc)) (cc) c.loop-k.yielded _ c.loop-k.yielded_by _ c.next.new.self c.in-None.is c.next.ensures.steps)
