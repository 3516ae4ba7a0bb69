-- An array of bytes that is a field of something in memory, at any depth and any share: its entries are taken out and put back, as they were or others.
--     entries-out            the entry of the context that has the array's cell within it  ⇒  the array as a row of bytes, and the way back
--     entries-in             a row of as many bytes and the way back  ⇒  the entry with that array, and the facts of the array
-- Where the array lies is said by a `Part` of `types.Part`, as `sub ! 3 refl (whole !)`: the fourth field of a struct.
-- The laws take `Logic`. The rest assumes nothing.
use mathlib.Core.Path.{◌≡◌, refl, subst}
use Prim.Native.Nat.{ℕ}
use mathlib.Core.List.{List, [], ◌∷◌}
use lib.ListN.{length}
use seplogic.Ra.Ura.{Ura}
use mir.Syntax.{w8, Ty, ty_int, ty_array}
use mir.Val.{Val}
use base.Logic.{SProp, wand, all, all_e, apply∗}
use base.Fml.{Share, fat, fsep}
use types.Logic.{Logic}
use types.Kit.{Item, Goal, Seq, Step, step, ‵, raw, ◌⊛◌, mean, ◌$◌, move, drop, use1, use2, split, rewrite, fsplit, fjoin, fpick, fpack, feq_i}
use types.Part.{Part}
use types.Share.{arr_parts}
use denote.Laws.{Is, shows}
use denote.Memory.{cell_at, part_at, part_of, shares}
use denote.Array.{Array, Array-Makes, Array-Tells}
use denote.ArrayMemory.{Array-apart, Array-whole}
use denote.Plain.{uint_Makes, uint_vals, uint_Tells}
use denote.Builtin.{u8}
use denote.Index.{row}
use denote.Steps.{facts, owned}
use Rattle.lent_record.specs.Arrays.{listed}

abbrev bytes : ℕ → Ty
bytes n = ty_array (ty_int w8) n

-- what is known of an array of n bytes, at its machine value
abbrev pub AreBytes : ℕ → List ℕ → Type 0
AreBytes n ys = Is (Array u8 n) ys (listed ys ∷ [])

-- the way back: with any array in its place the entry is there again
module _ {M : Type 1} {𝓤 : Ura M} (𝓛 : Logic 𝓤) (n : ℕ) (q : Share) (b o : ℕ) (back : Val → Item 𝓤) where
  open 𝓛 use {H}

  abbrev Filled : Val → SProp 𝓤
  Filled u = wand 𝓤 (H.at q (bytes n) b o u) (mean 𝓛 (back u))

  pub Back : SProp 𝓤
  Back = all 𝓤 Filled

module _ {M : Type 1} {𝓤 : Ura M} {𝓛 : Logic 𝓤} {K : Type 0} {Γ : List (Item 𝓤)} {G : Goal 𝓤 𝓛.H} where
  open 𝓛 use {H}

  pub entries_out : K → {i : Item 𝓤} (n : ℕ) (q : Share) (ys : List ℕ) (b o : ℕ) (back : Val → Item 𝓤) → Part K 𝓛 i q (bytes n) b o (listed ys) back → AreBytes n ys
      → Step K 𝓛 (‵ (row u8 q ys b o) ∷ raw (Back 𝓛 n q b o back) ∷ Γ) G (i ∷ Γ) G
  unfolding part_of Back
  entries_out t n q ys b o back p is = step (λ s.
      use1 𝓛 (‵ (fat q (bytes n) b o (listed ys)) ⊛ raw (Back 𝓛 n q b o back)) p.out $ split t $
      owned t (Array u8 n) (Is (Array u8 n)) (Array-Makes 𝓛 u8 (uint_Makes 𝓛 w8) n) ys (listed ys ∷ []) is $ move t (1 ∷ 0 ∷ []) $
      -- [the array's cell; what it owns; the way back]
      fjoin t $ fpack t (List Val) (λ us. fsep (cell_at q (bytes n ∷ []) us b o) ((Array u8 n).own_val ys us)) (listed ys ∷ []) $
      use1 𝓛 (‵ ((arr_parts (shares u8) n).part q ys b o)) (Array-apart 𝓛 u8 q tt n ys b o) $ fsplit t $ drop t $ s)

  pub entries_in : K → (n : ℕ) (q : Share) (zs : List ℕ) (b o : ℕ) (back : Val → Item 𝓤) → length zs ≡ n → (AreBytes n zs → Seq K 𝓛 (back (listed zs) ∷ Γ) G)
      → Seq K 𝓛 (‵ (row u8 q zs b o) ∷ raw (Back 𝓛 n q b o back) ∷ Γ) G
  unfolding part_of Back
  entries_in t n q zs b o back long k =
      feq_i t ℕ (length zs) n long $ fjoin t $ use1 𝓛 (‵ (part_at (Array u8 n) q zs b o)) (Array-whole 𝓛 u8 q n zs b o) $ fpick t (λ us. fsplit t $ move t (1 ∷ []) $
      facts t (Array u8 n) (Is (Array u8 n)) (shows 𝓛 (Array u8 n)) zs us (λ p.
      -- [the array's cell; the way back]
      let e = Array-Tells u8 (uint_vals w8) (uint_Tells w8) n zs us p in
      rewrite t 0 (λ (ws : List Val). ‵ (cell_at q (bytes n ∷ []) ws b o)) e refl $ move t (1 ∷ []) $
      use1 𝓛 (raw (Filled 𝓛 n q b o back (listed zs))) (all_e 𝓤 (Filled 𝓛 n q b o back) (listed zs)) $ move t (1 ∷ 0 ∷ []) $
      use2 𝓛 (back (listed zs)) (apply∗ 𝓤 (H.at q (bytes n) b o (listed zs)) (mean 𝓛 (back (listed zs)))) $
      k (subst (Is (Array u8 n) zs) e p)))
