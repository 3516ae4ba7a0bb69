-- A text that is a whole output, refusals passed: it has no room, or it is put at the front.
use Prim.Native.Nat.{ℕ, ◌≤◌, ◌<◌}
use native.Mathlib.Omega.{arith}
use mathlib.Core.List.{List}
use mathlib.Core.Path.{◌≡◌, refl, subst, ap}
use lib.Dec.{T}
use lib.ListN.{length}
use Rattle.std.specs.Borrow.{MutBor}
use Rattle.definitions.specs.Answers.{accepted, refused, Test, passes_all, counted}
use Rattle.basics.specs.Outputs.{PutAt, Delivered}
use Rattle.text.specs.Cursors.{Begins, HasRoom, Puts}
use Rattle.text.specs.declared.Output.{Output}
use Rattle.basics.proofs.Outputs.{filled_up, no_room, whole, delivered_as}

-- an output as it begins has room for a text that is no longer
pub room_at_front : {lent : MutBor (List ℕ)} {o : Output} {text : List ℕ} → length text ≤ length lent.now → Begins lent o → HasRoom o text
room_at_front h b = record { ends = omega (arith, h, b.front, ap length b.content) }

module _ (tests : List Test) (text out : List ℕ) (tested : T (passes_all tests)) where
  pub short-refused : length out < length text → Delivered (counted tests text) out out (refused 12 0)
  short-refused h = no_room (counted tests text) out tested h

module _ (tests : List Test) (tested : T (passes_all tests)) {text : List ℕ} {lent : MutBor (List ℕ)} (h : length text ≤ length lent.now) where
  -- the bytes lent are left as the output has them
  pub put_delivered : {o o' : Output} {left : List ℕ} → Begins lent o → Puts o text o' → left ≡ o'.bytes.now
      → Delivered (counted tests text) lent.now left (accepted (length text))
  put_delivered {o} {o'} {left} b p e =
      let p = subst (λ (k : ℕ). PutAt lent.now k text left o'.at) b.front (rw e (subst (λ (bytes : List ℕ). PutAt bytes o.at text o'.bytes.now o'.at) b.content p.put)) in
      delivered_as (whole (counted tests text) lent.now tested h) (filled_up p) refl
