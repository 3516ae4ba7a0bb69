-- Numbers as they are printed, for every n: by their last digit, and how many digits they take.
use Prim.Native.Nat.{ℕ, zero, suc, ◌+◌, ◌*◌, ◌/◌, ◌%◌, ◌≤◌, ◌<◌}
use native.Mathlib.Omega.{arith}
use mathlib.Core.List.{List, [], ◌∷◌, ◌++◌}
use mathlib.Core.Logic.{◌⊎◌, inl, inr, ⊎_elim}
use mathlib.Core.Path.{◌≡◌, sym, ap, ◌∙◌}
use borrow.Author.Tests.{lt-ltb, le-ltb}
use lib.ListN.{length, length-append}
use Rattle.definitions.specs.Texts.{decimal_within, decimal}
use Rattle.basics.proofs.Tests.{below?}

-- ---- the last digit

within_small : (k n : ℕ) → n < 10 → decimal_within (suc k) n ≡ (48 + n) ∷ []
unfolding decimal_within
within_small k n h = rw (lt-ltb n 10 h)

within_more : (k n : ℕ) → 10 ≤ n → decimal_within (suc k) n ≡ decimal_within k (n / 10) ++ ((48 + n % 10) ∷ [])
unfolding decimal_within
within_more k n h = rw (le-ltb n 10 h)

-- enough steps are enough
within_same : (k l n : ℕ) → n < k → n < l → decimal_within k n ≡ decimal_within l n
within_same zero l n h g = absurd (omega arith)
within_same (suc k) zero n h g = absurd (omega arith)
within_same (suc k) (suc l) n h g = go (below? 10 n) (λ p q. within_same k l (n / 10) p q)
  where
    go : (n < 10) ⊎ (10 ≤ n) → (n / 10 < k → n / 10 < l → decimal_within k (n / 10) ≡ decimal_within l (n / 10)) → decimal_within (suc k) n ≡ decimal_within (suc l) n
    go (inl s) rec = within_small k n s ∙ sym (within_small l n s)
    go (inr s) rec =
        within_more k n s
        ∙ ap (λ (ds : List ℕ). ds ++ ((48 + n % 10) ∷ [])) (rec (omega arith) (omega arith))
        ∙ sym (within_more l n s)

pub decimal_small : (n : ℕ) → n < 10 → decimal n ≡ (48 + n) ∷ []
decimal_small n h = within_small n n h

pub decimal_more : (n : ℕ) → 10 ≤ n → decimal n ≡ decimal (n / 10) ++ ((48 + n % 10) ∷ [])
decimal_more n h =
    within_more n n h
    ∙ ap (λ (ds : List ℕ). ds ++ ((48 + n % 10) ∷ [])) (within_same n (suc (n / 10)) (n / 10) (omega arith) (omega arith))

-- what holds below ten, and of n if of n / 10, holds of every n
pub by_tens : (P : ℕ → Type 0) → ((n : ℕ) → n < 10 → P n) → ((n : ℕ) → 10 ≤ n → P (n / 10) → P n) → (n : ℕ) → P n
by_tens P s l n = go (suc n) n (omega arith)
  where
    go : (k m : ℕ) → m < k → P m
    go zero m h = absurd (omega arith)
    go (suc k) m h = step (below? 10 m) (λ q. go k (m / 10) q)
      where
        step : (m < 10) ⊎ (10 ≤ m) → (m / 10 < k → P (m / 10)) → P m
        step (inl a) rec = s m a
        step (inr a) rec = l m a (rec (omega arith))

-- ---- how many digits

pub decimal_longer : (n d : ℕ) → 10 ≤ n → length (decimal (n / 10)) ≡ d → length (decimal n) ≡ suc d
decimal_longer n d h e = rw (decimal_more n h, length-append, e) (omega arith)

-- one at least
pub decimal-some : (n : ℕ) → 1 ≤ length (decimal n)
decimal-some n = ⊎_elim (λ h. rw (decimal_small n h) (omega arith)) (λ h. rw (decimal_more n h, length-append) (omega arith)) (below? 10 n)

-- powers of ten
abbrev pub tens : ℕ → ℕ
tens zero = 1
tens (suc k) = 10 * tens k

-- a value below a power of ten takes at most that many
pub decimal-short : (n digits : ℕ) → 1 ≤ digits → n < tens digits → length (decimal n) ≤ digits
decimal-short n zero least below = absurd (omega arith)
decimal-short n (suc zero) least below = rw (decimal_small n (omega arith)) (omega arith)
decimal-short n (suc (suc more)) least below =
    ⊎_elim (λ h. rw (decimal_small n h) (omega arith))
    (λ h. rw (decimal_more n h, length-append) (omega (arith, decimal-short (n / 10) (suc more) (omega arith) (omega arith))))
    (below? 10 n)
