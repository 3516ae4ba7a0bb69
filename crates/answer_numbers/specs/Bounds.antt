-- The values of a move's outcome, and of what a watcher answers, are small.
use Rattle.std.specs.Prelude.{Bool, true, false}
use lib.Dec.{lit<}
use Rattle.definitions.specs.declared.Event.{Event}
use Rattle.definitions.specs.declared.Event.TheVariants.{EnterSharedCall, EnterSharedReturn, LeaveSharedCall, LeaveSharedReturn}
use Rattle.definitions.specs.declared.Event.TheVariants.{EnterExclusiveCall, EnterExclusiveReturn, LeaveExclusiveCall, LeaveExclusiveReturn}
use Rattle.definitions.specs.declared.Outcome.{Outcome}
use Rattle.definitions.specs.declared.Outcome.TheVariants.{Shown, Quiet, Retry}
use Rattle.answer_numbers.specs.Encoding.{AllSmall, watch_value, inside_value, outcome_value}

pub unit_small : AllSmall watch_value
unit_small u = lit< tt

pub bool_small : AllSmall inside_value
bool_small true = lit< tt
bool_small false = lit< tt

pub outcome_small : AllSmall outcome_value
outcome_small (Shown EnterSharedCall) = lit< tt
outcome_small (Shown EnterSharedReturn) = lit< tt
outcome_small (Shown LeaveSharedCall) = lit< tt
outcome_small (Shown LeaveSharedReturn) = lit< tt
outcome_small (Shown EnterExclusiveCall) = lit< tt
outcome_small (Shown EnterExclusiveReturn) = lit< tt
outcome_small (Shown LeaveExclusiveCall) = lit< tt
outcome_small (Shown LeaveExclusiveReturn) = lit< tt
outcome_small Quiet = lit< tt
outcome_small Retry = lit< tt
