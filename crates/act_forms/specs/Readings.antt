-- What a form that was read stands for.
use Rattle.std.specs.Prelude.{Option, Some, None}
use Rattle.definitions.specs.Forms as forms
use Rattle.act_forms.specs.declared.Form.{Form}
use Rattle.act_forms.specs.declared.Form.TheVariants.{Threads, Request, Note}

-- what each case of the code's form means, and that there is none
abbrev pub form_for : Option Form → forms.Form
form_for (Some (Threads n)) = forms.threads n
form_for (Some (Request r)) = forms.request r
form_for (Some Note) = forms.note
form_for None = forms.bad
