-- A text in parts, put into an output one part behind the other: the laws of basics' Parts, with the output's own bytes.
use Prim.Native.Nat.{ℕ, ◌+◌, ◌≤◌, ◌<◌}
use native.Mathlib.Omega.{arith}
use mathlib.Core.List.{List, [], ◌++◌}
use mathlib.Core.Path.{◌≡◌, refl, ap, ◌∙◌}
use lib.ListN.{length, length-append}
use Rattle.basics.specs.Outputs.{put_at, RoomAt, PutAt}
use Rattle.basics.proofs.Outputs.{none, same_size, both}
use Rattle.basics.proofs.Parts as parts
use Rattle.basics.proofs.Parts.{Parts}
use Rattle.text.specs.declared.Output.{Output}
use Rattle.text.specs.Cursors.{HasRoom, Puts}

-- the same over the lists
pub room_at : {o : Output} {text : List ℕ} → HasRoom o text → RoomAt o.bytes.now o.at text
room_at r = record { ends = r.ends }

has_room : {o : Output} {text : List ℕ} → RoomAt o.bytes.now o.at text → HasRoom o text
has_room r = record { ends = r.ends }

-- a text stored at the position, and this moved behind it
pub stored_puts : {o o' : Output} {text : List ℕ} → HasRoom o text → o'.bytes.ghost_name ≡ o.bytes.ghost_name → o'.at ≡ o.at + length text
    → o'.bytes.now ≡ put_at o.bytes.now o.at text → Puts o text o'
stored_puts {o} {o'} {text} r name next output =
    let p : PutAt o.bytes.now o.at text o'.bytes.now o'.at = record { next = next; output = output } in
    let size = same_size (room_at r) p in
    record { same_bytes = name; fits = omega (arith, r.ends, next, size); size = size; put = p }

-- nothing put
pub puts_none : {o : Output} → HasRoom o [] → Puts o [] o
puts_none {o} r = record { same_bytes = refl; fits = omega (arith, r.ends); size = refl; put = none o.bytes.now o.at }

-- two texts, one behind the other
pub puts_both : {a b c : Output} {s t : List ℕ} → Puts a s b → Puts b t c → Puts a (s ++ t) c
puts_both {a} {b} {c} {s} {t} p q =
    let room : RoomAt a.bytes.now a.at (s ++ t) = record { ends = omega (arith, p.put.next, q.put.next, p.size, q.size, q.fits, length-append s t) } in
    record { same_bytes = q.same_bytes ∙ p.same_bytes; fits = q.fits; size = q.size ∙ p.size; put = both s t room p.put q.put }

-- ---- a text in parts

-- the parts below k are put, and there is room for the rest
pub record PartsPut (p : Parts) (start : Output) (k : ℕ) (o : Output) : Type 0 where
  pub same_bytes : o.bytes.ghost_name ≡ start.bytes.ghost_name
  pub put : parts.PartsPut p start.bytes.now start.at k o.bytes.now o.at

pub parts_none : {p : Parts} {o : Output} → HasRoom o p.text → PartsPut p o 0 o
parts_none r = record { same_bytes = refl; put = parts.parts_none (room_at r) }

module _ {p : Parts} {start : Output} {k : ℕ} {o : Output} (w : PartsPut p start k o) where
  pub parts_all : p.count ≤ k → Puts start p.text o
  parts_all l =
      let size = w.put.put.size in
      let put = parts.parts_all w.put l in
      record { same_bytes = w.same_bytes; fits = omega (arith, w.put.put.room.ends); size = size; put = put }

  module _ (l : k < p.count) where
    pub parts_room : HasRoom o (p.part k)
    parts_room = has_room (parts.parts_room w.put l)

    pub parts_more : {o' : Output} → Puts o (p.part k) o' → PartsPut p start (k + 1) o'
    parts_more q = record { same_bytes = q.same_bytes ∙ w.same_bytes; put = parts.parts_more w.put l q.put }

-- the same where a position of its own goes from part to part, and the output's waits at the start
pub record PartsStored (p : Parts) (start : Output) (k : ℕ) (o : Output) (at : ℕ) : Type 0 where
  pub same_bytes : o.bytes.ghost_name ≡ start.bytes.ghost_name
  pub position : o.at ≡ start.at
  pub put : parts.PartsPut p start.bytes.now start.at k o.bytes.now at

pub stored_none : {p : Parts} {o : Output} → HasRoom o p.text → PartsStored p o 0 o o.at
stored_none r = record { same_bytes = refl; position = refl; put = parts.parts_none (room_at r) }

module _ {p : Parts} {start : Output} {k : ℕ} {o : Output} {at : ℕ} (w : PartsStored p start k o at) where
  -- the position is moved behind the text
  pub stored_all : HasRoom start p.text → p.count ≤ k → {o' : Output} → o'.bytes.ghost_name ≡ o.bytes.ghost_name → o'.bytes.now ≡ o.bytes.now
      → o'.at ≡ o.at + length p.text → Puts start p.text o'
  stored_all r l e f g = stored_puts r (e ∙ w.same_bytes) (g ∙ ap (λ (n : ℕ). n + length p.text) w.position) (f ∙ (parts.parts_all w.put l).output)

  module _ (l : k < p.count) where
    pub stored_room : RoomAt o.bytes.now at (p.part k)
    stored_room = parts.parts_room w.put l

    pub stored_more : {o' : Output} {next : ℕ} → o'.bytes.ghost_name ≡ o.bytes.ghost_name → o'.at ≡ o.at → PutAt o.bytes.now at (p.part k) o'.bytes.now next
        → PartsStored p start (k + 1) o' next
    stored_more e f q = record { same_bytes = e ∙ w.same_bytes; position = f ∙ w.position; put = parts.parts_more w.put l q }
