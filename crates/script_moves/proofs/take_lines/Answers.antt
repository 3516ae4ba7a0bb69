-- `script_moves::take_lines` meets its contract: each line keeps what the loop knows, or turns the script down (proofs/Loop).
use Rattle.std.proofs.Common.{◌≡◌, ◌+◌, ◌-◌, ◌≤◌, ◌∷◌, [], ◌++◌, Some, None, Ok, length, refl, rules, arith}
use lib.Seq.{drop-drop}
use Rattle.basics.specs.Outputs.{put_at}
use Rattle.lines.specs.Lines.{line_read, lines_left}
use Rattle.basics.proofs.Chunks.{Next, next_at, last_at}
use Rattle.basics.proofs.Outputs.{none}
use Rattle.lines.proofs.Walks.{lines_come}
use Rattle.script_moves.proofs.Loop.{begun, finished, line_refused, line_room, passed_on}
use Rattle.script_moves.proofs.take_lines.Goals as goal
use Rattle.script_moves.proofs.take_lines.Goals.{In-Some}

turn : (c : In-Some) → (c.in-Some.k ≡ length c.loop-k.yielded)
    × Next (lines_left c.args.lines) (length c.loop-k.yielded) (line_read c.in-Some.line) (length (c.loop-k.yielded ++ (c.in-Some.k, c.in-Some.line) ∷ []))
turn c = next_at (lines_come c.args.lines (cc)) (cc) c.loop-k.yielded _ c.loop-k.yielded_by _ c.next.new.self _ _ c.in-Some.is c.next.ensures.steps

pub loop-k-init : goal.loop-k-init
loop-k-init c = begun _ _ c.requires.room

pub returns-in_err-taken : goal.returns-in_err-taken
returns-in_err-taken c =
    let t = turn (goal.at.returns-in_err-taken c).In-Some in
    line_refused _ _ c.loop-k.invariant t.1 _ c.take_line.ensures _ _ t.0 (search rules)

pub slice_bounds-copy_from_slice-end : goal.slice_bounds-copy_from_slice-end
slice_bounds-copy_from_slice-end c =
    let t = turn (goal.at.slice_bounds-copy_from_slice-end c).In-Some in
    let three : length c.in-Some-taken.triple ≡ 3 = search rules in
    let is : c.take_line.result ≡ Ok (Some c.in-Some-taken.triple) = search rules in
    let room = line_room _ _ c.loop-k.invariant t.1 (rw is at c.take_line.ensures) in
    let fits : c.loop-k.at + 3 ≤ length c.loop-k.moves = omega arith in
    fits

pub loop-k-preserved-in-Some-taken : goal.loop-k-preserved-in-Some-taken
unfolding put_at
loop-k-preserved-in-Some-taken c =
    let t = turn (goal.at.loop-k-preserved-in-Some-taken c).In-Some in
    let three : length c.in-Some-taken.triple ≡ 3 = search rules in
    let is : c.take_line.result ≡ Ok (Some c.in-Some-taken.triple) = search rules in
    let count : c.loop-k.at + 3 - c.loop-k.at ≡ 3 = omega arith in
    passed_on _ _ c.loop-k.invariant t.1 (rw is at c.take_line.ensures) _ _
    (record { next = rw three (refl); output = rw (c.copy_from_slice.ensures.after, count, three, drop-drop 3 c.loop-k.at c.loop-k.moves) refl })

pub loop-k-preserved : goal.loop-k-preserved
loop-k-preserved c =
    let t = turn (goal.at.loop-k-preserved c).In-Some in
    let is : c.take_line.result ≡ Ok None = search rules in
    passed_on _ _ c.loop-k.invariant t.1 (rw is at c.take_line.ensures) _ _ (none _ _)

pub returns : goal.returns
returns c = finished _ _ c.loop-k.invariant (last_at (lines_come c.args.lines (cc)) (cc) c.loop-k.yielded _ c.loop-k.yielded_by _ c.next.new.self c.in-None.is c.next.ensures.steps)
