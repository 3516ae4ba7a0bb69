-- The number of the result is that of the run's reply, whose value is small.
use Prim.Native.Nat.{ℕ, ◌<◌}
use mathlib.Core.Path.{sym, subst, ap, ◌∙◌}
use Rattle.definitions.specs.Run.{counts_of}
use Rattle.answer_numbers.specs.Encoding.{run_value, run_number, value_bound}
use Rattle.answer_numbers.proofs.Replies.{number_by, value_by}
use Rattle.answer_numbers.proofs.Small.{run_small}
use Rattle.wospinzo.proofs.wospinzo_run.Goals as goal

pub answer_number-requires : goal.answer_number-requires
answer_number-requires c =
    subst (λ (n : ℕ). n < value_bound) (sym (value_by run_value counts_of c.run.result)) (run_small c.args.script.now c.args.out.now _ c.run.ensures.reply).0

pub returns-clause-value : goal.returns-clause-value
returns-clause-value c = c.answer_number.ensures ∙ (number_by run_value counts_of c.run.result ∙ ap run_number c.run.ensures.reply)
