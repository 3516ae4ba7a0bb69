-- `notes::note_fits` meets its contract, by what the tests say of a byte.
use Rattle.std.proofs.Common.{sym, ◌∙◌}
use Rattle.notes.proofs.NoteText.{behind_first, behind_more, note-bad, note_deep, note_end}
use Rattle.notes.proofs.note_fits.Goals as goal

pub loop-c-init : goal.loop-c-init
loop-c-init c = behind_first _

pub returns-then-not-is_printable : goal.returns-then-not-is_printable
returns-then-not-is_printable c =
    sym (note-bad c.args.text.now c.loop-c.c-index c.loop-c-test.true (sym c.is_printable.ensures ∙ c.if-not-is_printable.true))

pub returns-in_default : goal.returns-in_default
returns-in_default c =
    sym (note_deep c.args.text.now c.loop-c.c-index _ c.loop-c.invariant c.loop-c-test.true (sym c.in_default.ensures))

pub loop-c-preserved : goal.loop-c-preserved
loop-c-preserved c =
    behind_more c.args.text.now c.loop-c.c-index _ c.loop-c.invariant c.loop-c-test.true (sym c.is_printable.ensures ∙ c.if-not-is_printable.false) _
    (sym c.in-Some.ensures)

pub returns : goal.returns
returns c = note_end _ _ _ c.loop-c.invariant c.loop-c-test.false
