-- `forms::read_request` meets its contract: the thread's number at the front, and the act behind it.
use Rattle.std.proofs.Common.{ap, ◌∙◌}
use Rattle.definitions.specs.Forms.{act_form}
use Rattle.basics.proofs.Lists.{from_on}
use Rattle.words.proofs.NumberReading.{found}
use Rattle.forms.proofs.read_request.Goals as goal

pub slice_bounds-read_act-count : goal.slice_bounds-read_act-count
slice_bounds-read_act-count c = (found _ _ c.in_ok-thread.ensures).within

pub slice_bounds-read_act-start : goal.slice_bounds-read_act-start
slice_bounds-read_act-start c = (found _ _ c.in_ok-thread.ensures).within

pub returns : goal.returns
returns c =
    let n = found _ _ c.in_ok-thread.ensures in
    rw (n.fits, n.value_is, n.rest) (c.read_act.ensures ∙ ap (act_form _) (from_on c.args.part.now _))
