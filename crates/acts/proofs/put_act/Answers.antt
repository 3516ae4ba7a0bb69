-- A number that is no move's has no text; of a move, the text by its case.
use native.Mathlib.Omega.{arith}
use mathlib.Core.Path.{◌≡◌, sym, ap, ◌∙◌}
use Rattle.definitions.specs.Answers.{number_of_move}
use Rattle.definitions.specs.Forms.{act_text}
use Rattle.definitions.specs.Texts.{bytes}
use Rattle.text.proofs.Cursors.{puts_none}
use Rattle.acts.proofs.ActTexts.{no_act}
use Rattle.acts.proofs.put_act.Goals as goal

pub returns-in_default : goal.returns-in_default
returns-in_default c =
    let none = no_act c.args.mv c.args.target (omega (arith, c.in_default.ensures.1)) in
    rw none (puts_none (rw none at c.requires))

pub returns-in-CallShared : goal.returns-in-CallShared
unfolding act_text bytes
returns-in-CallShared c = let e : c.args.mv ≡ 1 = sym c.in-Ok.ensures ∙ ap number_of_move c.in-CallShared.is in rw e c.put-in-CallShared.ensures

pub returns-in-Clear : goal.returns-in-Clear
unfolding act_text bytes
returns-in-Clear c = let e : c.args.mv ≡ 4 = sym c.in-Ok.ensures ∙ ap number_of_move c.in-Clear.is in rw e c.put_around-in-Clear.ensures

pub returns-in-Relent : goal.returns-in-Relent
unfolding act_text bytes
returns-in-Relent c = let e : c.args.mv ≡ 5 = sym c.in-Ok.ensures ∙ ap number_of_move c.in-Relent.is in rw e c.put-in-Relent.ensures
