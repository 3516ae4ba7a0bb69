use mathlib.Core.List.{[], ◌∷◌}
use mathlib.Core.Path.{refl}
use Rattle.basics.proofs.Outputs.{stored}
use Rattle.text.proofs.Cursors.{room_at, stored_puts}
use Rattle.text.proofs.Output.put_byte.Goals as goal

pub returns : goal.returns
returns c = stored_puts c.requires refl refl (stored (c.args.byte ∷ []) (room_at c.requires)).output
