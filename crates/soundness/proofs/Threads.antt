-- Laws of the words on threads, every, some and how many: each word as a count. More of them stand in the crate theory.
use Prim.Native.Nat.{ℕ, zero, suc, ◌+◌, ◌≤◌, ◌<◌}
use native.Mathlib.Nat.{add-zero, eq-or-lt_of_le, le_of_suc-le-suc, not-suc-le-zero}
use native.Mathlib.Numerals.{add-one}
use native.Mathlib.Omega.{arith}
use mathlib.Core.Bool.{Bool, true, false, cond, not, ◌&&◌, ◌||◌, and-true, and-false}
use mathlib.Core.Logic.{⊎_elim}
use mathlib.Core.Path.{◌≡◌, refl, sym, subst, ap, ◌∙◌}
use borrow.Author.Tests.{eq-eqb, ne_eqb}
use lib.Dec.{eqb, eqb-suc-suc}
use Rattle.definitions.specs.Threads.{every, some, how_many}
use Rattle.basics.proofs.Quantifiers.{every-same, how_many_at_lem, how_many-most, some-how_many}

-- the words as counts
pub every-count : (n : ℕ) (f : ℕ → Bool) → every n f ≡ eqb (how_many n f) n
unfolding every how_many
every-count zero f = refl
every-count (suc n) f = more (f n) (every-count n f)
  where
    more : (b : Bool) → every n f ≡ eqb (how_many n f) n → (every n f && b) ≡ eqb (how_many n f + cond b 1 0) (suc n)
    more true h = simp (and-true, add-one, eqb-suc-suc) h
    more false h = simp (and-false, add-zero, ne_eqb (how_many n f) (suc n) (λ e. omega (arith, how_many-most f n)))

pub none_count : (n : ℕ) (f : ℕ → Bool) → every n (λ i. not (f i)) ≡ eqb (how_many n f) 0
unfolding every how_many
none_count zero f = refl
none_count (suc n) f = more (f n) (none_count n f)
  where
    more : (b : Bool) → every n (λ i. not (f i)) ≡ eqb (how_many n f) 0 → (every n (λ i. not (f i)) && not b) ≡ eqb (how_many n f + cond b 1 0) 0
    more true h = simp (and-false, ne_eqb (how_many n f + 1) 0 (λ e. omega arith))
    more false h = simp (and-true, add-zero) h

pub some_not_none : (n : ℕ) (f : ℕ → Bool) → some n f ≡ not (every n (λ i. not (f i)))
some_not_none n f = some-how_many f n ∙ ap not (sym (none_count n f))

-- a count that grows past k, or by as much as k
past : (a k : ℕ) (b : Bool) → k ≤ a → (eqb a k && not b) ≡ eqb (a + cond b 1 0) k
past a k true h = simp (and-false, ne_eqb (a + 1) k (λ e. omega arith))
past a k false h = simp (and-true, add-zero)

along : (a : ℕ) (b : Bool) → eqb a 0 ≡ eqb (a + cond b 1 0) (cond b 1 0)
along a true = simp (add-one, eqb-suc-suc a 0)
along a false = simp add-zero

-- f holds of nobody but t, if of t at all
pub except_count : (n : ℕ) (f : ℕ → Bool) (t : ℕ) → t < n
    → every n (λ i. eqb i t || not (f i)) ≡ eqb (how_many n f) (cond (f t) 1 0)
unfolding every how_many
except_count zero f t l = absurd (not-suc-le-zero l)
except_count (suc n) f t l = ⊎_elim (λ e. subst Claim (sym e) last) (λ b. earlier b (except_count n f t b)) (eq-or-lt_of_le (le_of_suc-le-suc l))
  where
    Claim : ℕ → Type 0
    Claim k = (every n (λ i. eqb i k || not (f i)) && (eqb n k || not (f n))) ≡ eqb (how_many n f + cond (f n) 1 0) (cond (f k) 1 0)

    last : Claim n
    last =
        let before : every n (λ i. eqb i n || not (f i)) ≡ eqb (how_many n f) 0 =
        every-same n _ _ (λ i b. ap (λ (x : Bool). x || not (f i)) (ne_eqb i n (λ e. omega arith))) ∙ none_count n f in
        simp (eq-eqb n n refl, and-true, before) (along (how_many n f) (f n))

    earlier : t < n → every n (λ i. eqb i t || not (f i)) ≡ eqb (how_many n f) (cond (f t) 1 0) → Claim t
    earlier b h = simp (h, ne_eqb n t (λ e. omega arith)) (past (how_many n f) (cond (f t) 1 0) (f n) (how_many_at_lem f n t b))
