-- `words::read_closed` meets its contract: the number at the front, and the text behind it.
use Rattle.std.proofs.Common.{true, false}
use Rattle.words.proofs.NumberReading.{found, closed_by}
use Rattle.words.proofs.read_closed.Goals as goal

pub slice_bounds-same_text-count : goal.slice_bounds-same_text-count
slice_bounds-same_text-count c = (found _ _ c.in_ok-number.ensures).within

pub slice_bounds-same_text-start : goal.slice_bounds-same_text-start
slice_bounds-same_text-start c = (found _ _ c.in_ok-number.ensures).within

pub returns-then-same_text : goal.returns-then-same_text
returns-then-same_text c = closed_by _ _ _ c.in_ok-number.ensures _ true c.same_text.ensures c.if-same_text.true

pub returns-else-same_text : goal.returns-else-same_text
returns-else-same_text c = closed_by _ _ _ c.in_ok-number.ensures _ false c.same_text.ensures c.if-same_text.false
