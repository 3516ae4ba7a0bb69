-- Calls in a walk, what is read of their answers, and the exit.
--     uint-owned             what a number owns is had for nothing, where it fits its width
--     answered               what a callee whose parameters are all plain returned: some value, of which its `ensures` is said, at the machine value returned
--     load_field             a field of a struct in a local is read: whichever the code reads
--     says_both              of a contract with two `ensures`: a walk shows both
-- The laws take `Logic`. The rest assumes nothing.
use mathlib.Core.Path.{◌≡◌, refl, sym, subst}
use mathlib.Core.Option.{some as some?}
use mathlib.Core.List.{List, [], ◌∷◌}
use Prim.Native.Nat.{ℕ, zero, ◌+◌, ◌<◌, ◌^◌}
use seplogic.Ra.Ura.{Ura}
use mir.Syntax.{Width, Sym, Ty, Tys, ty_struct, place, field, copy}
use mir.Val.{Val, Vals, vint, vstruct, bits}
use mir.Fields.{get_v, set_v}
use base.Logic.{SProp, ent, sep, ex, emp, via, emp∗, comm∗, mono_l, mono_r, id⊢}
use base.Fml.{Share, ftrue, fat}
use prog.Memory.{field_at}
use prog.Wp.{Env, Spot, spot_of}
use types.Logic.{Logic, sem}
use contract.Monad.{fact, fact_i}
use types.Kit.{Item, Goal, Soaks, Seq, Step, step, prop, ‵, raw, ◌⊛◌, some, later, ◌$◌, move, drop, use1, split, pick, await, nth}
use types.Part.{Part, whole, sub, look_in}
use types.Run.{Opd, Walks, from, fld, stop, load}
use denote.RattleType.{RattleType}
use denote.Laws.{Is, shows}
use denote.Plain.{UInt, uint_Makes}
use denote.Steps.{facts, owned, heard}

module _ {M : Type 1} {𝓤 : Ura M} {𝓛 : Logic 𝓤} {K : Type 0} {Γ : List (Item 𝓤)} {G : Goal 𝓤 𝓛.H} where
  open 𝓛 use {H}

  pub uint_owned : K → (w : Width) (n : ℕ) → n < 2 ^ bits w → Step K 𝓛 (‵ ((UInt w).own_val n (vint w n ∷ [])) ∷ Γ) G Γ G
  uint_owned t w n fits = owned t (UInt w) (Is (UInt w)) (uint_Makes 𝓛 w) n (vint w n ∷ []) (refl, fits)

  pub answered : K → Soaks G → (Q : RattleType) (P : Q.Denot → SProp 𝓤) (φ : Q.Denot → Type 0) → ((r : Q.Denot) → ent 𝓤 (P r) (fact 𝓤 (φ r))) → (v : Val)
      → ((r : Q.Denot) → φ r → Is Q r (v ∷ []) → Seq K 𝓛 Γ G)
      → Seq K 𝓛 (raw (H.⇛ (ex 𝓤 (λ (r : Q.Denot). sep 𝓤 (sep 𝓤 (emp 𝓤) (sem 𝓛 (Q.own_val r (v ∷ [])))) (P r)))) ∷ Γ) G
  answered t z Q P φ say v k =
      use1 𝓛 (later (some (λ (r : Q.Denot). (‵ ftrue ⊛ ‵ (Q.own_val r (v ∷ []))) ⊛ raw (P r)))) (id⊢ 𝓤 _) $ await t z $ pick t (λ r. split t $
      move t (1 ∷ []) $ use1 𝓛 (raw (fact 𝓤 (φ r))) (say r) $ heard t (φ r) (λ s. split t $ drop t $ facts t Q (Is Q) (shows 𝓛 Q) r (v ∷ []) (λ is. k r s is)))

module _ {M : Type 1} {𝓤 : Ura M} {𝓛 : Logic 𝓤} {K : Type 0} {Γ : List (Item 𝓤)} {E : Env 𝓤 𝓛.H} where
  open 𝓛 use {H}

  pub load_field : K → (n : ℕ) {i k b o d : ℕ} {q : Share} {ν : Sym} {τs : Tys} {τ : Ty} {vs : Vals} → nth 𝓛 n Γ ≡ ‵ (fat q (ty_struct ν τs) b o (vstruct vs))
      → spot_of 𝓤 H E i ≡ (ty_struct ν τs, b, o) → field_at zero τs k ≡ some? (τ, d) → Opd K 𝓛 Γ E (copy (place i (field k ∷ []))) (get_v vs k)
  load_field t n {i} {k} {b} {o} {d} {q} {ν} {τs} {τ} {vs} here at e =
      load t (from t (subst (λ (sp : Spot 𝓤 H). Walks K 𝓛 Γ E sp (field k ∷ []) (τ, b, o + d)) (sym at) (fld t e (stop t))))
      (look_in t n (subst (λ (j : Item 𝓤). Part K 𝓛 j q τ b (o + d) (get_v vs k) (λ u. ‵ (fat q (ty_struct ν τs) b o (vstruct (set_v vs k u))))) (sym here) (sub t k e (whole t))))

-- ---- two `ensures`
module _ {M : Type 1} (𝓤 : Ura M) (φ ψ : Type 0) where
  two_facts : φ → ψ → ent 𝓤 (emp 𝓤) (sep 𝓤 (fact 𝓤 φ) (fact 𝓤 ψ))
  two_facts x y =
      via 𝓤 (sep 𝓤 (emp 𝓤) (emp 𝓤)) (emp∗ 𝓤 (emp 𝓤))
      (via 𝓤 (sep 𝓤 (fact 𝓤 φ) (emp 𝓤)) (mono_l 𝓤 (emp 𝓤) (fact_i 𝓤 φ (emp 𝓤) x)) (mono_r 𝓤 (fact 𝓤 φ) (fact_i 𝓤 ψ (emp 𝓤) y)))

-- a goal P ∗ (⌜φ⌝ ∗ ⌜ψ⌝): both are shown, and P is left
pub says_both : {M : Type 1} {𝓤 : Ura M} {𝓛 : Logic 𝓤} {K : Type 0} {Γ : List (Item 𝓤)}
    → K → {φ ψ : Type 0} {P : SProp 𝓤} → φ → ψ → Step K 𝓛 Γ (prop P) Γ (prop (sep 𝓤 P (sep 𝓤 (fact 𝓤 φ) (fact 𝓤 ψ))))
says_both {𝓤 = 𝓤} t {φ} {ψ} {P} x y = step (λ s. record {
  prf =
      via 𝓤 P s.prf (via 𝓤 (sep 𝓤 (emp 𝓤) P) (emp∗ 𝓤 P)
      (via 𝓤 (sep 𝓤 (sep 𝓤 (fact 𝓤 φ) (fact 𝓤 ψ)) P) (mono_l 𝓤 P (two_facts 𝓤 φ ψ x y)) (comm∗ 𝓤 (sep 𝓤 (fact 𝓤 φ) (fact 𝓤 ψ)) P)));
})
