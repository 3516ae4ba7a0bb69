use native.Mathlib.Omega.{arith}
use mathlib.Core.List.{[], ◌∷◌}
use mathlib.Core.Path.{refl}
use lib.ListN.{get_or}
use Rattle.basics.proofs.Outputs.{stored}
use Rattle.text.proofs.Cursors.{stored_none, stored_room, stored_more, stored_all}
use Rattle.text.proofs.Output.put.Goals as goal

pub loop-byte-init : goal.loop-byte-init
loop-byte-init c = stored_none c.requires

pub loop-byte-preserved : goal.loop-byte-preserved
loop-byte-preserved c =
    let room = stored_room c.loop-byte.invariant (omega arith) in
    stored_more c.loop-byte.invariant (omega arith) refl refl (stored (get_or c.args.text.now c.loop-byte.byte-index 0 ∷ []) room)

pub returns : goal.returns
returns c = stored_all c.loop-byte.invariant c.requires (omega arith) refl refl refl
