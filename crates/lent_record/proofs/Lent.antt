-- A reference to a declared struct of plain data, in a walk: all that a value of one owns is facts, so the walk carries the facts alone and makes what is owned of them where it is asked for.
--     Holds                                what is known of whatever a value owns, at its machine value
--     typed, value-is                      the machine value has the struct's MIR type; a machine value of which the facts are known is the value's
--     borrowed, restored                   a `&mut` is opened, at the value's machine value and with the facts in hand, and closed at another value
--     lent, returned                       the same of a `&`, which is looked into and shut as it was
-- The laws take `Logic`. The rest assumes nothing.
use mathlib.Core.List.{List, [], ◌∷◌}
use mathlib.Core.Path.{◌≡◌, ap}
use Prim.Native.Nat.{ℕ}
use seplogic.Ra.Ura.{Ura}
use base.Fraction.{full_share}
use mir.Val.{Val}
use base.Stored.{Gv}
use base.Fml.{GName, Lft, Share, flft, fobs, fauth, fbor, fobor}
use types.Logic.{Logic}
use types.Kit.{Item, Goal, Soaks, Seq, Step, step, ‵, ◌$◌, move}
use types.SemTy.{Body}
use denote.Laws.{Is, Typed, shows}
use denote.Memory.{cell_at, part_at, mem, hidden_shr}
use denote.Opens.{Shut}
use denote.Steps.{opens, closes, looks, shuts, facts, owned, only}
use denote.Struct.Declared.{Declared, fields, row}
use denote.Struct.Laws.{Laws, Copyables, vals, tells, lawful, makes, copied}
use denote.Struct.Steps.{spelt}
use denote.Struct.Struct.{Plains}

module _ (T : Declared) (L : Laws T) where
  abbrev pub Holds : T.D → Type 0
  Holds h = Is (row T) h (vals T L h)

  pub typed : {M : Type 1} {𝓤 : Ura M} (𝓛 : Logic 𝓤) (h : T.D) (vs : List Val) → Is (row T) h vs → Typed (row T).mir vs
  typed 𝓛 h vs is = (lawful T L 𝓛).typed h vs is

  pub value_is : (h : T.D) (v : Val) → Is (row T) h (v ∷ []) → v ≡ only (vals T L h)
  value_is h v is = ap only (tells T L h (v ∷ []) is)

module _ {M : Type 1} {𝓤 : Ura M} {𝓛 : Logic 𝓤} {K : Type 0} {Γ : List (Item 𝓤)} {G : Goal 𝓤 𝓛.H} (T : Declared) (L : Laws T) where
  -- the cell's machine value is written out, and of what is owned the facts are kept
  spelt_out : K → (q : Share) (h : T.D) (vs : List Val) (b o : ℕ) → (Holds T L h → Seq K 𝓛 (‵ (cell_at q (row T).mir (vals T L h) b o) ∷ Γ) G)
      → Seq K 𝓛 (‵ (cell_at q (row T).mir vs b o) ∷ ‵ ((row T).own_val h vs) ∷ Γ) G
  spelt_out t q h vs b o k =
      spelt t (row T) (Is (row T)) (shows 𝓛 (row T)) (vals T L) (tells T L) q h vs b o $ move t (1 ∷ []) $ facts t (row T) (Is (row T)) (shows 𝓛 (row T)) h (vals T L h) k

  -- what the value owns is put beside its cell
  owns_it : K → Plains (fields T) → (q : Share) (h : T.D) → Holds T L h → (b o : ℕ)
      → Step K 𝓛 (‵ (cell_at q (row T).mir (vals T L h) b o) ∷ ‵ ((row T).own_val h (vals T L h)) ∷ Γ) G (‵ (cell_at q (row T).mir (vals T L h) b o) ∷ Γ) G
  owns_it t p q h is b o = step (λ s. owned t (row T) (Is (row T)) (makes T p 𝓛) h (vals T L h) is $ move t (1 ∷ 0 ∷ []) $ s)

module _ {M : Type 1} {𝓤 : Ura M} {𝓛 : Logic 𝓤} {K : Type 0} {Γ : List (Item 𝓤)} {G : Goal 𝓤 𝓛.H} (T : Declared) (L : Laws T) where
  pub borrowed : K → Soaks G → {κ : Lft} {q : Share} {γ : GName} (h : T.D) (b o : ℕ)
      → (Holds T L h → Seq K 𝓛 (‵ (cell_at full_share (row T).mir (vals T L h) b o) ∷ ‵ (fobor κ q (Body (mem (row T)) b o γ))
      ∷ ‵ (fobs γ ((row T).coded.code h)) ∷ ‵ (fauth γ ((row T).coded.code h)) ∷ Γ) G)
      → Seq K 𝓛 (‵ (fobs γ ((row T).coded.code h)) ∷ ‵ (fbor κ (Body (mem (row T)) b o γ)) ∷ ‵ (flft κ q) ∷ Γ) G
  borrowed t z h b o k = opens t z (row T) {h = h} b o (λ vs. spelt_out T L t full_share h vs b o k)

  pub restored : K → Soaks G → Plains (fields T) → {κ : Lft} {q : Share} {γ : GName} {u v : Gv} (h' : T.D) → Holds T L h' → (b o : ℕ)
      → Step K 𝓛 (‵ (fobs γ ((row T).coded.code h')) ∷ ‵ (fbor κ (Body (mem (row T)) b o γ)) ∷ ‵ (flft κ q) ∷ Γ) G
      (‵ (cell_at full_share (row T).mir (vals T L h') b o) ∷ ‵ (fobor κ q (Body (mem (row T)) b o γ)) ∷ ‵ (fobs γ u) ∷ ‵ (fauth γ v) ∷ Γ) G
  restored t z p h' is b o = step (λ s. owns_it T L t p full_share h' is b o $ closes t z (row T) h' (vals T L h') b o $ s)

  pub lent : K → Soaks G → Copyables T.parts → {κ : Lft} {q : Share} (h : T.D) (b o : ℕ)
      → ((q' : Share) → Holds T L h → Seq K 𝓛 (‵ (cell_at q' (row T).mir (vals T L h) b o) ∷ Shut 𝓛 κ q (part_at (row T) q' h b o) ∷ ‵ (hidden_shr (row T) κ h b o) ∷ Γ) G)
      → Seq K 𝓛 (‵ (hidden_shr (row T) κ h b o) ∷ ‵ (flft κ q) ∷ Γ) G
  lent t z c h b o k = looks t z (row T) (copied T c 𝓛).opens h b o (λ q' vs. spelt_out T L t q' h vs b o (k q'))

  pub returned : K → Soaks G → Plains (fields T) → {κ : Lft} {q : Share} (q' : Share) (h : T.D) → Holds T L h → (b o : ℕ)
      → Step K 𝓛 (‵ (flft κ q) ∷ Γ) G (‵ (cell_at q' (row T).mir (vals T L h) b o) ∷ Shut 𝓛 κ q (part_at (row T) q' h b o) ∷ Γ) G
  returned t z p q' h is b o = step (λ s. owns_it T L t p q' h is b o $ shuts t z (row T) q' h (vals T L h) b o $ s)
