-- Laws of `list_of`, the list of one entry for each thread below n: its length, its entries, and one entry written. For every n.
-- Then what holds of each of a list, a list from an index on, and zeros.
use Prim.Native.Nat.{ℕ, zero, suc, ◌+◌, ◌-◌, ◌<◌}
use native.Mathlib.Nat.{not-suc-le-zero}
use native.Mathlib.Numerals.{add-one}
use native.Mathlib.Omega.{arith}
use mathlib.Core.List.Memᴰ
use mathlib.Core.List.{List, [], ◌∷◌, ◌++◌, Memᴰ}
use mathlib.Core.Logic.{◌⊎◌, inl, inr, ⊎_elim}
use mathlib.Core.Path.{◌≡◌, refl, sym, subst, ap, ◌∙◌}
use lib.ListN.{length, get_or, set, replicate, take, drop, length-append, length-set, length-drop, get_or-append}
use lib.Seq.{get_or_at, get_or-set_same, get_or-set_other, ext_get_or, take_all}
use Rattle.definitions.specs.Threads.{list_of}
use Rattle.basics.proofs.Quantifiers.{below_suc}
use Rattle.basics.proofs.Tests.{same?}

pub length-list_of {ℓ} : {A : Type ℓ} (n : ℕ) (f : ℕ → A) → length (list_of n f) ≡ n
unfolding list_of
length-list_of zero f = refl
length-list_of (suc n) f = length-append (list_of n f) (f n ∷ []) ∙ (ap (λ (k : ℕ). k + 1) (length-list_of n f) ∙ add-one n)

pub get_d_list_of {ℓ} : {A : Type ℓ} (n : ℕ) (f : ℕ → A) (i : ℕ) (d : A) → i < n → get_or (list_of n f) i d ≡ f i
unfolding list_of
get_d_list_of zero f i d l = absurd (not-suc-le-zero l)
get_d_list_of {A = A} (suc n) f i d l = by (λ k. get_d_list_of n f i d k) (below_suc i n l)
  where
    by : (i < n → get_or (list_of n f) i d ≡ f i) → (i ≡ n) ⊎ (i < n) → get_or (list_of n f ++ (f n ∷ [])) i d ≡ f i
    by rec (inl e) = get_or_at (list_of n f) (f n) [] d i (length-list_of n f ∙ sym e) ∙ ap f (sym e)
    by rec (inr k) = get_or-append (list_of n f) (f n ∷ []) d i (subst (λ (m : ℕ). i < m) (sym (length-list_of n f)) k) ∙ rec k

module _ (n : ℕ) (f g : ℕ → ℕ) where
  pub list_of-same : ((j : ℕ) → j < n → f j ≡ g j) → list_of n f ≡ list_of n g
  list_of-same h =
      ext_get_or 0 (list_of n f) (list_of n g) (length-list_of n f ∙ sym (length-list_of n g))
      (λ j l. let k : j < n = subst (λ (m : ℕ). j < m) (length-list_of n f) l in get_d_list_of n f j 0 k ∙ (h j k ∙ sym (get_d_list_of n g j 0 k)))

  -- g is f but at i: the list with that entry written
  pub list_of-set : (i : ℕ) → i < n → ((j : ℕ) → (j ≡ i → ⊥) → g j ≡ f j) → list_of n g ≡ set (list_of n f) i (g i)
  list_of-set i m others =
      ext_get_or 0 (list_of n g) (set (list_of n f) i (g i)) (length-list_of n g ∙ sym (length-set (list_of n f) i (g i) ∙ length-list_of n f))
      (λ j l. let k : j < n = subst (λ (x : ℕ). j < x) (length-list_of n g) l in get_d_list_of n g j 0 k ∙ by j k (same? j i))
    where
      by : (j : ℕ) → j < n → (j ≡ i) ⊎ (j ≡ i → ⊥) → g j ≡ get_or (set (list_of n f) i (g i)) j 0
      by j k (inl e) =
          ap g e ∙ (sym (get_or-set_same (list_of n f) i (g i) 0 (subst (λ (x : ℕ). i < x) (sym (length-list_of n f)) m)) ∙ ap (λ (x : ℕ). get_or (set (list_of n f) i (g i)) x 0) (sym e))
      by j k (inr h) = others j h ∙ sym (get_or-set_other (list_of n f) i j (g i) 0 h ∙ get_d_list_of n f j 0 k)

-- what holds of each of a list
module _ {ℓ} {A : Type ℓ} (P : A → Type 0) where
  abbrev pub Each : List A → Type 0
  Each [] = Unit {0}
  Each (x ∷ xs) = P x × Each xs

  pub each_member : (l : List A) → Each l → (a : A) → Memᴰ a l → P a
  each_member [] h a m = absurd (Memᴰ.not-nil m)
  each_member (x ∷ xs) h a m = ⊎_elim (λ e. subst P (sym e) h.0) (each_member xs h.1 a) (Memᴰ.cases_cons m)

-- a list from n on, as it is lent
pub from_on : (xs : List ℕ) (n : ℕ) → take (length xs - n) (drop n xs) ≡ drop n xs
from_on xs n = take_all (length xs - n) (drop n xs) (omega (arith, length-drop n xs))

-- zeros, also behind their end
pub zeros : (m k : ℕ) → get_or {A = ℕ} (replicate m 0) k 0 ≡ 0
zeros zero k = refl
zeros (suc m) zero = refl
zeros (suc m) (suc k) = zeros m k
