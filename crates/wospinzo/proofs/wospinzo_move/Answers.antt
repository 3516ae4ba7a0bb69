-- The number of the outcome is that of the move's reply.
use mathlib.Core.Path.{ap, ◌∙◌}
use Rattle.definitions.specs.Answers.{outcome_answer}
use Rattle.answer_numbers.specs.Encoding.{move_value, move_number}
use Rattle.answer_numbers.proofs.Replies.{number_by_0}
use Rattle.wospinzo.proofs.wospinzo_move.Goals as goal

pub returns-clause-value : goal.returns-clause-value
returns-clause-value c = c.placeless_number.ensures ∙ (number_by_0 move_value outcome_answer c.make_move.result ∙ ap move_number c.make_move.ensures.reply)
