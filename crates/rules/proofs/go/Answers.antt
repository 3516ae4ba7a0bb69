-- An arm's phase is a row of `go_effect`, and the call in it decides that row.
use borrow.Author.Rules.{rules}
use Rattle.definitions.specs.Moves.{go_effect, is_retry}
use Rattle.rules.proofs.Arms.{go_arm, probe_follows, idle_arm}
use Rattle.rules.proofs.go.Goals as goal

pub returns-in-1 : goal.returns-in-1
unfolding go_effect is_retry
returns-in-1 c s r a e seen = search (rules, go_arm)

pub returns-in-2 : goal.returns-in-2
unfolding go_effect is_retry
returns-in-2 c = go_arm _ 2 _ _ c.in-2.is c.look.ensures (λ s i t u seen. search rules)

pub returns-in-3 : goal.returns-in-3
unfolding go_effect is_retry
returns-in-3 c s r a e seen = search (rules, go_arm)

pub returns-in-4 : goal.returns-in-4
unfolding go_effect is_retry
returns-in-4 c s r a e seen = search (rules, go_arm)

pub returns-in-5 : goal.returns-in-5
unfolding go_effect is_retry
returns-in-5 c s r a e seen = search (rules, go_arm)

pub returns-in-6 : goal.returns-in-6
unfolding go_effect is_retry
returns-in-6 c s r a e seen = search (rules, go_arm)

pub returns-in-7 : goal.returns-in-7
unfolding go_effect is_retry
returns-in-7 c s r a e seen = search (rules, go_arm)

pub returns-in-8 : goal.returns-in-8
unfolding go_effect is_retry
returns-in-8 c s r a e seen = search (rules, go_arm)

pub returns-in-9 : goal.returns-in-9
unfolding go_effect is_retry
returns-in-9 c s r a e seen = search (rules, go_arm)

pub returns-in-11 : goal.returns-in-11
returns-in-11 c = go_arm _ 11 _ _ c.in-11.is c.probe.ensures (probe_follows c.args.v)

pub returns-in-12 : goal.returns-in-12
unfolding go_effect is_retry
returns-in-12 c s r a e seen = search (rules, go_arm)

pub returns-in-13 : goal.returns-in-13
unfolding go_effect is_retry
returns-in-13 c s r a e seen = search (rules, go_arm)

pub returns-in-14 : goal.returns-in-14
unfolding go_effect is_retry
returns-in-14 c s r a e seen = search (rules, go_arm)

pub returns-in-16 : goal.returns-in-16
unfolding go_effect is_retry
returns-in-16 c s r a e seen = search (rules, go_arm)

pub returns-in-17 : goal.returns-in-17
unfolding go_effect is_retry
returns-in-17 c s r a e seen = search (rules, go_arm)

pub returns-in-18 : goal.returns-in-18
unfolding go_effect is_retry
returns-in-18 c s r a e seen = search (rules, go_arm)

pub returns-in_default : goal.returns-in_default
returns-in_default c = idle_arm _ _ (search rules)
