-- Lists of tests, one behind the other and put together index by index: what is passed, and that the tests of the first index that fails decide.
use Prim.Native.Nat.{ℕ, zero, suc, ◌+◌, ◌<◌}
use native.Mathlib.Nat.{not-suc-le-zero}
use native.Mathlib.Numerals.{add-one}
use native.Mathlib.Omega.{arith}
use mathlib.Core.Bool.{Bool, not, ◌&&◌, and_assoc}
use mathlib.Core.List.{List, [], ◌∷◌, ◌++◌, append-nil}
use mathlib.Core.Logic.{◌⊎◌, inl, inr}
use mathlib.Core.Path.{◌≡◌, refl, sym, subst, ap, ◌∙◌}
use lib.Dec.{T}
use Rattle.definitions.specs.Answers.{Reply, accepted, refused, is_accepted, Test, answered, passes_all}
use Rattle.definitions.specs.Threads.{every, gather}
use Rattle.basics.proofs.Quantifiers.{below_suc}
use Rattle.basics.proofs.Replies.{accepted_is, all-passed, behind, in_front_lem}
use Rattle.basics.proofs.Tests.{and_l, and_r, and_i, decided, no_both}

pub passes_append : (ts us : List Test) → passes_all (ts ++ us) ≡ passes_all ts && passes_all us
unfolding passes_all
passes_append [] us = refl
passes_append (t ∷ ts) us = ap (λ (b : Bool). t.passed && b) (passes_append ts us) ∙ sym (and_assoc t.passed (passes_all ts) (passes_all us))

-- tests that are passed together are passed apart, and the other way
pub passes-split : (ts us : List Test) → T (passes_all (ts ++ us)) → T (passes_all ts) × T (passes_all us)
passes-split ts us t = let p = subst T (passes_append ts us) t in (and_l (passes_all ts) (passes_all us) p, and_r (passes_all ts) (passes_all us) p)

pub passes-join : (ts us : List Test) → T (passes_all ts) → T (passes_all us) → T (passes_all (ts ++ us))
passes-join ts us p q = subst T (sym (passes_append ts us)) (and_i (passes_all ts) (passes_all us) p q)

-- what is in store is answered where all are passed
pub answered_e : {A : Type 0} (ts : List Test) (a b : A) → answered ts a ≡ accepted b → T (passes_all ts) × (a ≡ b)
answered_e {A} ts a b e =
    let p = subst T (accepted_is a ts) (subst (λ (r : Reply A). T (is_accepted r)) (sym e) tt) in
    let d = all-passed a ts p in
    (p, cc)

-- what is answered where one fails
module _ {A : Type 0} (a : A) (ts : List Test) where
  -- with another answer in store
  pub other_answer : {B : Type 0} (b : B) (number place : ℕ) → answered ts b ≡ refused number place → answered ts a ≡ refused number place
  other_answer b number place e = ap (λ (us : List Test). answered us a) (sym (append-nil ts)) ∙ in_front_lem a b ts [] number place e

  -- a refusal
  refusal : T (not (passes_all ts)) → (number : ℕ) × (place : ℕ) × (answered ts a ≡ refused number place)
  refusal t = by (answered ts a) refl
    where
      by : (r : Reply A) → answered ts a ≡ r → (number : ℕ) × (place : ℕ) × (answered ts a ≡ refused number place)
      by (accepted b) e = absurd (no_both (passes_all ts) (answered_e ts a b e).0 t)
      by (refused number place) e = (number, place, e)

module _ (f : ℕ → List Test) where
  pub gathered : (n : ℕ) → passes_all (gather n f) ≡ every n (λ k. passes_all (f k))
  unfolding gather every passes_all
  gathered zero = refl
  gathered (suc n) = passes_append (gather n f) (f n) ∙ ap (λ (b : Bool). b && passes_all (f n)) (gathered n)

  pub one_more : (k : ℕ) → T (passes_all (gather k f)) → T (passes_all (f k)) → T (passes_all (gather (k + 1) f))
  unfolding gather
  one_more k p q = rw (add-one k, passes_append (gather k f) (f k)) (and_i (passes_all (gather k f)) (passes_all (f k)) p q)

  module _ {A : Type 0} (a : A) where
    -- those below k are passed, one of k fails: that is the answer
    pub first_failed : {B : Type 0} (b : B) (k n number place : ℕ) → k < n → T (passes_all (gather k f)) → answered (f k) b ≡ refused number place
        → answered (gather n f) a ≡ refused number place
    unfolding gather
    first_failed b k zero number place l p e = absurd (not-suc-le-zero l)
    first_failed b k (suc n) number place l p e = by (λ m. first_failed b k n number place m p e) (below_suc k n l)
      where
        by : (k < n → answered (gather n f) a ≡ refused number place) → (k ≡ n) ⊎ (k < n) → answered (gather n f ++ f n) a ≡ refused number place
        by rec (inl q) =
            subst (λ (m : ℕ). answered (gather m f ++ f m) a ≡ refused number place) q (behind a (gather k f) (f k) p ∙ other_answer a (f k) b number place e)
        by rec (inr m) = in_front_lem a a (gather n f) (f n) number place (rec m)

    -- and a refusal is that of some such index
    pub failed_first : (n number place : ℕ) → answered (gather n f) a ≡ refused number place
        → (k : ℕ) × (k < n) × T (passes_all (gather k f)) × (answered (f k) a ≡ refused number place)
    unfolding gather answered
    failed_first zero number place e = absurd (let z : ◌≡◌ {A = ℕ} 0 1 = cc in omega arith)
    failed_first (suc n) number place e = by (λ d. failed_first n number place d) (decided (passes_all (gather n f)))
      where
        by : (answered (gather n f) a ≡ refused number place → (k : ℕ) × (k < n) × T (passes_all (gather k f)) × (answered (f k) a ≡ refused number place))
            → T (passes_all (gather n f)) ⊎ T (not (passes_all (gather n f)))
            → (k : ℕ) × (k < suc n) × T (passes_all (gather k f)) × (answered (f k) a ≡ refused number place)
        by rec (inl p) = (n, omega arith, p, sym (behind a (gather n f) (f n) p) ∙ e)
        by rec (inr p) =
            let r = refusal a (gather n f) p in
            let s = rec (r.2 ∙ (sym (in_front_lem a a (gather n f) (f n) r.0 r.1 r.2) ∙ e)) in
            let l = s.1 in
            (s.0, omega arith, s.2, s.3)
