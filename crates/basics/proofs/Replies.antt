-- Laws of replies: a request that passes its tests one by one, a list of tests behind another, what is left, and the reply of a refusal that `?` hands on.
use Prim.Native.Nat.{ℕ}
use mathlib.Core.Bool.{Bool, true, false, cond, not, ◌&&◌}
use mathlib.Core.List.{List, [], ◌∷◌, ◌++◌}
use mathlib.Core.Logic.{◌⊎◌, inl, inr}
use mathlib.Core.Path.{◌≡◌, refl, sym, subst, ap, ◌∙◌}
use lib.Dec.{T}
use Rattle.std.specs.Prelude.{Result, Ok, Err, IsErrAnd}
use Rattle.definitions.specs.Answers.{Reply, accepted, refused, number_of, reply_by, is_accepted, leaves, Test, answered, passes_all}
use Rattle.definitions.specs.declared.Refusal.{Refusal}
use Rattle.definitions.specs.declared.Refused.{Refused}
use Rattle.basics.proofs.Tests.{and_l, and_r, and_i, cond_yes, cond_no}

-- ---- one test

module _ {A : Type 0} (t : Test) (ts : List Test) (a : A) where
  pub passed : T t.passed → answered (t ∷ ts) a ≡ answered ts a
  unfolding answered
  passed p = cond_yes t.passed (answered ts a) (refused t.number t.place) p

  pub failed : T (not t.passed) → answered (t ∷ ts) a ≡ refused t.number t.place
  unfolding answered
  failed p = cond_no t.passed (answered ts a) (refused t.number t.place) p

pub peel : (t : Test) (ts : List Test) → T (passes_all (t ∷ ts)) → T t.passed × T (passes_all ts)
unfolding passes_all
peel t ts p = (and_l t.passed (passes_all ts) p, and_r t.passed (passes_all ts) p)

pub pass : (t : Test) (ts : List Test) → T t.passed → T (passes_all ts) → T (passes_all (t ∷ ts))
unfolding passes_all
pass t ts p q = and_i t.passed (passes_all ts) p q

pub no_test : T (passes_all [])
unfolding passes_all
no_test = tt

-- ---- all of them

module _ {A : Type 0} (a : A) where
  pub accepted_is : (ts : List Test) → is_accepted (answered ts a) ≡ passes_all ts
  unfolding answered passes_all
  accepted_is [] = refl
  accepted_is (t ∷ ts) = by t.passed (accepted_is ts)
    where
      by : (b : Bool) → is_accepted (answered ts a) ≡ passes_all ts → is_accepted (cond b (answered ts a) (refused t.number t.place)) ≡ (b && passes_all ts)
      by true e = e
      by false e = refl

  pub all-passed : (ts : List Test) → T (passes_all ts) → answered ts a ≡ accepted a
  unfolding answered
  all-passed [] p = refl
  all-passed (t ∷ ts) p = let r = peel t ts p in cond_yes t.passed (answered ts a) (refused t.number t.place) r.0 ∙ all-passed ts r.1

  -- tests behind those that are passed
  pub behind : (ts us : List Test) → T (passes_all ts) → answered (ts ++ us) a ≡ answered us a
  behind [] us p = refl
  behind (t ∷ ts) us p = let r = peel t ts p in passed t (ts ++ us) a r.0 ∙ behind ts us r.1

  -- and behind one that isn't, whatever would be answered
  pub in_front_lem : {B : Type 0} (b : B) (ts us : List Test) (number place : ℕ) → answered ts b ≡ refused number place → answered (ts ++ us) a ≡ refused number place
  unfolding answered
  in_front_lem b [] us number place e = absurd (no_refusal e)
    where
      no_refusal : accepted b ≡ refused number place → ⊥
      no_refusal e = subst T (ap is_accepted e) tt
  in_front_lem {B} b (t ∷ ts) us number place e = by t.passed e (λ d. in_front_lem b ts us number place d)
    where
      by : (p : Bool) → cond p (answered ts b) (refused t.number t.place) ≡ refused number place → (answered ts b ≡ refused number place → answered (ts ++ us) a ≡ refused number place)
          → cond p (answered (ts ++ us) a) (refused t.number t.place) ≡ refused number place
      by true d rec = rec d
      by false d rec = cc

  -- either all are passed, or the first that isn't answers
  pub passed_or_refused : (ts : List Test) → T (passes_all ts) ⊎ ((number : ℕ) × (place : ℕ) × (answered ts a ≡ refused number place))
  passed_or_refused ts = by (answered ts a) refl (accepted_is ts)
    where
      by : (x : Reply A) → answered ts a ≡ x → is_accepted (answered ts a) ≡ passes_all ts → T (passes_all ts) ⊎ ((number : ℕ) × (place : ℕ) × (answered ts a ≡ refused number place))
      by (accepted b) e d = inl (subst T (sym (ap is_accepted e) ∙ d) tt)
      by (refused number place) e d = inr (number, place, e)

-- ---- what is left

module _ {ℓ} {A : Type 0} {B : Type ℓ} (x y : B) where
  pub leaves-yes : (r : Reply A) → T (is_accepted r) → leaves r x y ≡ x
  leaves-yes (accepted a) t = refl
  leaves-yes (refused number place) t = absurd t

  pub leaves_no : (r : Reply A) → T (not (is_accepted r)) → leaves r x y ≡ y
  leaves_no (accepted a) t = absurd t
  leaves_no (refused number place) t = refl

-- ---- a refusal handed on

-- what `?` hands on of a refusal that has no place of its own
pub handed_on : {A B : Type 0} (f : A → B) (r : Result A Refused) (x : Refusal) → IsErrAnd r (λ (e : Refused). e ≡ record { refusal = x; place = 0 }) → reply_by f r ≡ refused (number_of x) 0
handed_on f (Ok a) x h = absurd h
handed_on f (Err e) x h = ap (λ (r : Refused). refused (number_of r.refusal) r.place) h
