-- The plan of an event by its code, and that a code that is no event has none.
use Rattle.std.proofs.Common.{◌≡◌, ℕ, Some, None, [], arith}
use Rattle.std.proofs.lemmas.Grind.{common_steps}
use Rattle.definitions.specs.Answers.{code_of, events, event_of}
use Rattle.definitions.specs.Plan.{plan_of}
use Rattle.definitions.specs.declared.Event.{Event}

-- no event, no plan
pub no_plan : (n thread code : ℕ) → None ≡ event_of code → plan_of n (record { thread = thread; event = code }) ≡ []
unfolding plan_of event_of events
no_plan n thread code q = grind (arith, common_steps)

pub known-code : (code : ℕ) (e : Event) → Some e ≡ event_of code → code_of e ≡ code
unfolding event_of events
known-code code e q = grind (arith, common_steps)

-- in the arm of event f the plan is that of its code
pub plan_in : (n thread code : ℕ) (e f : Event) → Some e ≡ event_of code → e ≡ f → plan_of n (record { thread = thread; event = code }) ≡ plan_of n (record { thread = thread; event = code_of f })
plan_in n thread code e f q is = rw (← known-code code e q, is)
