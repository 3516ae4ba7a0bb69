-- The loop of `notes::note_fits`: the bytes passed fit, and `depth` is the depth behind them.
use Rattle.notes.proofs.NoteText.{Behind}
use Rattle.notes.proofs.note_fits.Given as goal

abbrev pub invariant-loop-c : goal.invariant-loop-c
invariant-loop-c l = Behind l.text l.c-index l.depth
