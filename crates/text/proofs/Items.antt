-- A text with a part for each item of a list, measured or put item by item. A loop over the items is entered by `measured_none` or `items_none`;
-- one turn, whose item a `Next` tells, is `measured_more` or `items_more`; it is left by `measured_all` or `items_all`. A turn's call asks `item_room`.
use Prim.Native.Nat.{ℕ, ◌+◌, ◌≤◌}
use native.Mathlib.Omega.{arith}
use mathlib.Core.List.{List, [], ◌∷◌, ◌++◌}
use mathlib.Core.Path.{◌≡◌, refl, sym, subst, ap, ◌∙◌}
use lib.ListN.{length, drop, length-append}
use lib.Seq.{drop-length}
use Rattle.text.specs.Cursors.{HasRoom, Puts}
use Rattle.text.specs.declared.Output.{Output}
use Rattle.basics.proofs.Chunks.{Next}
use Rattle.text.proofs.Cursors.{puts_none, puts_both}

-- the text of a list: nothing for none, and an item's part in front of the text of the others
pub record ByItems {B : Type 0} (part : B → List ℕ) (text : List B → List ℕ) : Type 0 where
  pub none : text [] ≡ []
  pub more : (x : B) (xs : List B) → text (x ∷ xs) ≡ part x ++ text xs

-- the items before index k are counted, behind what was counted before them
pub record ItemsMeasured {B : Type 0} (text : List B → List ℕ) (all : List B) (before k total : ℕ) : Type 0 where
  pub left : total + length (text (drop k all)) ≡ before + length (text all)

-- the items before index k are put, and there is room for the others: once they are put, all are
pub record ItemsPut {B : Type 0} (text : List B → List ℕ) (all : List B) (start : Output) (k : ℕ) (o : Output) : Type 0 where
  pub room : HasRoom o (text (drop k all))
  pub completes : {o' : Output} → Puts o (text (drop k all)) o' → Puts start (text all) o'

pub measured_none : {B : Type 0} (text : List B → List ℕ) (all : List B) (before : ℕ) → ItemsMeasured text all before 0 before
measured_none text all before = record { left = refl }

pub items_none : {B : Type 0} {text : List B → List ℕ} {all : List B} {start : Output} → HasRoom start (text all) → ItemsPut text all start 0 start
items_none r = record { room = r; completes = λ p. p }

module _ {B : Type 0} {part : B → List ℕ} {text : List B → List ℕ} (items : ByItems part text) where
  -- no item is left
  ended : (all : List B) (k : ℕ) → k ≡ length all → text (drop k all) ≡ []
  ended all k e = ap (λ (j : ℕ). text (drop j all)) e ∙ (ap text (drop-length all) ∙ items.none)

  module _ {all : List B} {k : ℕ} (e : k ≡ length all) where
    pub measured_all : {before total : ℕ} → ItemsMeasured text all before k total → total ≡ before + length (text all)
    measured_all w = omega (arith, w.left, ap length (ended all k e))

    pub items_all : {start o : Output} → ItemsPut text all start k o → Puts start (text all) o
    items_all {start} {o} w =
        let room = subst (HasRoom o) (ended all k e) w.room in
        w.completes (subst (λ (t : List ℕ). Puts o t o) (sym (ended all k e)) (puts_none room))

  -- one more item
  module _ {all : List B} {x : B} {k next : ℕ} (n : Next all k x next) where
    went : text (drop k all) ≡ part x ++ text (drop next all)
    went = ap text n.left ∙ items.more x (drop next all)

    size : length (text (drop k all)) ≡ length (part x) + length (text (drop next all))
    size = ap length went ∙ length-append (part x) (text (drop next all))

    module _ {before total : ℕ} (w : ItemsMeasured text all before k total) {more : ℕ} (f : more ≡ length (part x)) where
      pub measured_more : ItemsMeasured text all before next (total + more)
      measured_more = record { left = omega (arith, w.left, size) }

      pub measured_most : total + more ≤ before + length (text all)
      measured_most = omega (arith, measured_more.left)

    module _ {start o : Output} (w : ItemsPut text all start k o) where
      pub item_room : HasRoom o (part x)
      item_room = record { ends = omega (arith, w.room.ends, size) }

      pub items_more : {o' : Output} → Puts o (part x) o' → ItemsPut text all start next o'
      items_more p =
          record {
            room = record { ends = omega (arith, w.room.ends, size, p.size, p.put.next) };
            completes = λ {o' = final} q. w.completes (subst (λ (t : List ℕ). Puts o t final) (sym went) (puts_both p q));
          }
