-- A search upward through a range: what is known of the numbers that it has passed, and where it ends. What `find` over a range answers is the lowest of it of which a test holds.
use Prim.Native.Nat.{ℕ, ◌+◌, ◌≤◌, ◌<◌}
use native.Mathlib.Omega.{arith}
use denote.Param.Members.{Mut}
use denote.Ref.{Bor}
use mathlib.Core.Bool.{Bool, true, false, not, ◌&&◌}
use mathlib.Core.List.{List}
use mathlib.Core.Logic.{⊎_elim}
use mathlib.Core.Path.{◌≡◌, sym, subst, ap}
use lib.Dec.{T, leb, leb→le, le→leb}
use Rattle.std.proofs.iter.Yields.{nat_range_steps}
use Rattle.std.proofs.lemmas.Iterator.{first_from_Range}
use Rattle.std.specs.Fn.{CalledAt}
use Rattle.std.specs.Iterator.{YieldsThen}
use Rattle.std.specs.List.{FoldsTo}
use Rattle.std.specs.Option.{unwrap_or}
use Rattle.std.specs.Prelude.{Option, Some, None, MatchOption, ⊤}
use Rattle.std.specs.declared.ops.Range.{Range}
use Rattle.definitions.specs.Threads.{lowest}
use Rattle.basics.proofs.Lowest.{lowest_none, lowest_at, lowest-same}
use Rattle.basics.proofs.Quantifiers.{below_suc, none_i}
use Rattle.basics.proofs.Tests.{and_l, and_r, and_i, T_true, true-T, false-T, not_i, no_both}
use Rattle.choice.specs.Choosing.{lowest_from, IsLowestFrom, IsLowest}

module _ (from : ℕ) (f : ℕ → Bool) where
  -- it is at i, and the test holds of none of the numbers before
  pub record Passed (i : ℕ) : Type 0 where
    pub behind : from ≤ i
    pub none : (j : ℕ) → from ≤ j → j < i → T (not (f j))

  pub starts : Passed from
  starts = record { behind = omega arith; none = λ j l k. absurd (omega arith) }

  -- the test doesn't hold of i
  pub one_further : (i : ℕ) → Passed i → T (not (f i)) → Passed (i + 1)
  one_further i p t =
      record { behind = omega (arith, p.behind); none = λ j l k. ⊎_elim (λ e. subst (λ (x : ℕ). T (not (f x))) (sym e) t) (p.none j l) (below_suc j i (omega arith)) }

  -- none of the numbers before is in the range and one of which it holds
  none_before : (i : ℕ) → ((j : ℕ) → from ≤ j → j < i → T (not (f j))) → (j : ℕ) → j < i → T (not (leb from j && f j))
  none_before i none j k = not_i (leb from j && f j) (λ t. no_both (f j) (and_r (leb from j) (f j) t) (none j (leb→le from j (and_l (leb from j) (f j) t)) k))

  -- the test holds of i
  pub found_here : (to i : ℕ) → Passed i → i < to → T (f i) → i ≡ lowest_from from to f
  found_here to i p l t = sym (lowest_at (λ j. leb from j && f j) to i l (and_i (leb from i) (f i) (le→leb from i p.behind) t) (none_before i p.none))

  -- none of the range is one of which it holds
  none_found : (to : ℕ) → ((j : ℕ) → from ≤ j → j < to → T (not (f j))) → lowest_from from to f ≡ to
  none_found to none = lowest_none (λ j. leb from j && f j) to (none_i (λ j. leb from j && f j) to (none_before to none))

  -- it is through
  pub found_none : (to i : ℕ) → Passed i → to ≤ i → to ≡ lowest_from from to f
  found_none to i p l = sym (none_found to (λ j m k. p.none j m (omega arith)))

-- over all n, from 0 on
pub of_all : (n : ℕ) (f : ℕ → Bool) → lowest_from 0 n f ≡ lowest n f
of_all n f = lowest-same n (λ t. leb 0 t && f t) f (λ j l. ap (λ (b : Bool). b && f j) (T_true (leb 0 j) (le→leb 0 j (omega arith))))

pub from_0 : (n : ℕ) (f : ℕ → Bool) (r : Option ℕ) → IsLowestFrom 0 n f r → IsLowest n f r
from_0 n f r found = subst (λ (k : ℕ). MatchOption r (k ≡ n) (λ (i : ℕ). (i < n) × (k ≡ i))) (of_all n f) found

-- ---- what `find` over a range answers

first : (from to : ℕ) (test : ℕ → Bool) (r : Option ℕ)
    → MatchOption r ((k : ℕ) → from ≤ k → k < to → false ≡ test k) (λ (i : ℕ). (from ≤ i) × (i < to) × (true ≡ test i) × ((k : ℕ) → from ≤ k → k < i → false ≡ test k))
    → IsLowestFrom from to test r
first from to test None none = none_found from test to (λ k l m. false-T (test k) (sym (none k l m)))
first from to test (Some i) found =
    let passed : Passed from test i = record { behind = found.0; none = λ k l m. false-T (test k) (sym (found.3 k l m)) } in
    (found.1, sym (found_here from test to i passed found.1 (true-T (test i) (sym found.2))))

pub found_from : {F : Type 0} {g : Mut F (Bor ℕ × Unit {0}) Bool} (from to : ℕ) (test : ℕ → Bool) (u : Range ℕ) (f : F) (r : Option ℕ)
    → (xs : List ℕ) × (j : F) × YieldsThen nat_range_steps (record { start = from; end = to }) xs r u
    × FoldsTo (λ p x q. CalledAt g p x false q) f xs j × MatchOption r ⊤ (λ x. (h : F) × CalledAt g j x true h)
    → ((x : ℕ) (b : Bool) (q : F) → CalledAt g f x b q → (q ≡ f) × (b ≡ test x)) → IsLowestFrom from to test r
found_from from to test u f r ran reads =
    first from to test r (first_from_Range _ u f r (λ x. true ≡ test x) (λ x. false ≡ test x) ran (λ x q k. (reads x true q k).1) (λ x q k. reads x false q k))

-- over 0 to n - 1
pub lowest_found : {F : Type 0} {g : Mut F (Bor ℕ × Unit {0}) Bool} (n : ℕ) (test : ℕ → Bool) (u : Range ℕ) (f : F) (r : Option ℕ)
    → (xs : List ℕ) × (j : F) × YieldsThen nat_range_steps (record { start = 0; end = n }) xs r u
    × FoldsTo (λ p x q. CalledAt g p x false q) f xs j × MatchOption r ⊤ (λ x. (h : F) × CalledAt g j x true h)
    → ((x : ℕ) (b : Bool) (q : F) → CalledAt g f x b q → (q ≡ f) × (b ≡ test x)) → IsLowest n test r
lowest_found n test u f r ran reads = from_0 n test r (found_from 0 n test u f r ran reads)

-- n where there is none
pub lowest_or : (n : ℕ) (test : ℕ → Bool) (r : Option ℕ) → IsLowest n test r → unwrap_or r n ≡ lowest n test
lowest_or n test None none = sym none
lowest_or n test (Some i) found = sym found.1
