-- The number of the result is that of reading's reply, whose value is small.
use Prim.Native.Nat.{ℕ, ◌<◌}
use mathlib.Core.Path.{sym, subst, ap, ◌∙◌}
use Rattle.definitions.specs.Scripts.{listed_of}
use Rattle.answer_numbers.specs.Encoding.{listed_value, read_number, value_bound}
use Rattle.answer_numbers.proofs.Replies.{number_by, value_by}
use Rattle.answer_numbers.proofs.Small.{read_small}
use Rattle.wospinzo.proofs.wospinzo_read_script.Goals as goal

pub answer_number-requires : goal.answer_number-requires
answer_number-requires c =
    subst (λ (n : ℕ). n < value_bound) (sym (value_by listed_value listed_of c.read.result)) (read_small c.args.script.now c.args.out.now _ c.read.ensures.reply).0

pub returns-clause-value : goal.returns-clause-value
returns-clause-value c = c.answer_number.ensures ∙ (number_by listed_value listed_of c.read.result ∙ ap read_number c.read.ensures.reply)
