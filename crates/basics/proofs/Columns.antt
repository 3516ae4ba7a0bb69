-- A column is a number for every thread; `update` changes one entry. What it has then, and how `update` goes with a function of the entries, with itself, and with the tests of all threads.
use Prim.Native.Nat.{ℕ}
use mathlib.Core.Logic.{◌⊎◌, inl, inr}
use mathlib.Core.Path.{◌≡◌, refl, sym, ap, ◌∙◌, fun_ext}
use lib.Dec.{eqb}
use Rattle.definitions.specs.Table.{update}
use Rattle.basics.proofs.Tests.{cond_yes, cond_no, eq_T, ne_T, same?}

pub update_same : (f : ℕ → ℕ) (i v j : ℕ) → j ≡ i → update f i v j ≡ v
update_same f i v j e = cond_yes (eqb j i) v (f j) (eq_T j i e)

pub update_other : (f : ℕ → ℕ) (i v j : ℕ) → (j ≡ i → ⊥) → update f i v j ≡ f j
update_other f i v j h = cond_no (eqb j i) v (f j) (ne_T j i h)

-- a function of each entry
abbrev pub along {ℓ} : {A : Type ℓ} → (ℕ → A) → (ℕ → ℕ) → ℕ → A
along g f = λ t. g (f t)

-- two columns are equal if they agree at entry i and everywhere else
pub same_column {ℓ} : {A : Type ℓ} (f g : ℕ → A) (i : ℕ) → f i ≡ g i → ((t : ℕ) → (t ≡ i → ⊥) → f t ≡ g t) → f ≡ g
same_column f g i here there = fun_ext (λ t. choose t (same? t i))
  where
    choose : (t : ℕ) → (t ≡ i) ⊎ (t ≡ i → ⊥) → f t ≡ g t
    choose t (inl e) = ap f e ∙ (here ∙ sym (ap g e))
    choose t (inr h) = there t h

module _ (f : ℕ → ℕ) (i : ℕ) where
  -- the new entry has the same value of g as the old one
  pub kept {ℓ} : {A : Type ℓ} (g : ℕ → A) (v : ℕ) → g (f i) ≡ g v → along g (update f i v) ≡ along g f
  kept g v e =
      same_column (along g (update f i v)) (along g f) i
      (ap g (update_same f i v i refl) ∙ sym e)
      (λ t h. ap g (update_other f i v t h))

  pub through : (g : ℕ → ℕ) (v : ℕ) → along g (update f i v) ≡ update (along g f) i (g v)
  through g v =
      same_column (along g (update f i v)) (update (along g f) i (g v)) i
      (ap g (update_same f i v i refl) ∙ sym (update_same (along g f) i (g v) i refl))
      (λ t h. ap g (update_other f i v t h) ∙ sym (update_other (along g f) i (g v) t h))

  pub update-kept : (v : ℕ) → f i ≡ v → update f i v ≡ f
  update-kept v e = kept (λ k. k) v e

  pub update_twice : (v w : ℕ) → update (update f i v) i w ≡ update f i w
  update_twice v w =
      same_column (update (update f i v) i w) (update f i w) i
      (update_same (update f i v) i w i refl ∙ sym (update_same f i w i refl))
      (λ t h. update_other (update f i v) i w t h ∙ (update_other f i v t h ∙ sym (update_other f i w t h)))
