-- What a writer's look at the target's busy leaves.
use Rattle.std.specs.Prelude.{cond, ◌&&◌, eqb}
use Rattle.definitions.specs.Bounds.{no_target}
use Rattle.definitions.specs.declared.Outcome.TheVariants.{Quiet, Retry}
use Rattle.views.specs.declared.Decided.{Decided}
use Rattle.views.specs.declared.View.{View}
use Rattle.steps.specs.Steps.{passed, aimed_by}

-- what go leaves in phase 11: "the target's busy is read; if 1, to 12; if 0, target := 255, and to 13 when every forbidden is 1, else to 10"
abbrev pub probed : View → Decided
probed v =
    cond (eqb v.subject.busy 1)
    (passed v 12 Retry)
    (aimed_by v (cond (v.others.set && eqb v.subject.forbidden 1) 13 10) no_target v.subject.forbidden Quiet)
