-- The total of all rows, and all bits seen, tell what one pass finds, for every table of at most 200 threads.
-- Where every thread fits by itself, the fields of the total are the counts, none of which grows into the next; where one doesn't, its row is more than any such total.
use Prim.Native.Nat.{ℕ, zero, suc, ◌+◌, ◌*◌, ◌/◌, ◌%◌, ◌≤◌, ◌<◌}
use native.Mathlib.Nat.{mod-eq_of_lt}
use native.Mathlib.Omega.{arith}
use mathlib.Core.Bool.{Bool, true, false, cond, not, ◌&&◌}
use mathlib.Core.Logic.{◌⊎◌, inl, inr}
use mathlib.Core.Path.{◌≡◌, refl, sym, subst, ap, ◌∙◌}
use Rattle.std.specs.Prelude.{Some, None}
use borrow.Author.Tests.{le-ltb, lt-ltb}
use lib.Arith.{digits_mod}
use lib.Bits.{bit_and}
use lib.Dec.{T, leb, ltb, eqb, eqb→eq, leb→le, lt→ltb}
use Rattle.definitions.specs.Bounds.{last_phase, most_threads}
use Rattle.definitions.specs.Phases.{busy_in, holds}
use Rattle.definitions.specs.Sound.{backed_off}
use Rattle.definitions.specs.Table.{Table}
use Rattle.definitions.specs.Threads.{every, how_many, sum_of}
use Rattle.soundness.specs.Pass.{thread_fits, forbidden_reader, holder_phase, tally_below, fit_below, found_of}
use Rattle.tallies.specs.declared.Tally.{Tally}
use Rattle.basics.proofs.Quantifiers.{every_at, every_i, how_many-most}
use Rattle.basics.proofs.Tests.{and_l, and_r, and_i, cond_yes, cond_no, cond_either, decided, T_true}
use Rattle.theory.proofs.PhaseCases.{holder-phase}
use Rattle.theory.proofs.Soundness.{busy_bit}
use Rattle.rows.specs.Rows.{one_flag, one_reader, one_backed, one_bad, row_for, few_bits, high, few_at, thread_row, found_by}

-- ---- threads that fit by themselves

-- their bytes have few bits
fits-few : (p b f : ℕ) → T (thread_fits p b f) → T (few_bits p b f)
fits-few p b f t =
    let rest = and_r (leb p last_phase) _ t in
    let l = leb→le p last_phase (and_l (leb p last_phase) _ t) in
    let k = leb→le f 1 (and_l (leb f 1) (eqb b (busy_in p)) rest) in
    let e = eqb→eq b (busy_in p) (and_r (leb f 1) (eqb b (busy_in p)) rest) in
    and_i (ltb p 32) _ (lt→ltb p 32 (omega arith)) (and_i (ltb b 2) (ltb f 2) (lt→ltb b 2 (omega (arith, busy_bit p l))) (lt→ltb f 2 (omega arith)))

-- four counts in one number
abbrev packed_of : Tally → ℕ
packed_of t = t.holder + (one_flag * t.forbidden + (one_reader * t.readers + one_backed * t.backed_off))

module _ (s : Table) where
  abbrev fits : ℕ → Bool
  fits i = thread_fits (s.phase i) (s.busy i) (s.forbidden i)

  few-all : (n : ℕ) → T (fit_below s n) → T (every n (few_at s))
  few-all n t = every_i (few_at s) n (λ i l. fits-few (s.phase i) (s.busy i) (s.forbidden i) (every_at fits n t i l))

  -- what a thread adds
  row_good : (i : ℕ) → T (fits i)
      → thread_row s i ≡ holder_phase (s.phase i)
      + (one_flag * cond (eqb (s.forbidden i) 1) 1 0 + (one_reader * cond (forbidden_reader (s.phase i) (s.forbidden i)) 1 0 + one_backed * cond (backed_off (s.phase i)) 1 0))
  unfolding row_for
  row_good i t = cond_yes (fits i) _ one_bad t

  row-bad : (i : ℕ) → T (not (fits i)) → thread_row s i ≡ one_bad
  unfolding row_for
  row-bad i t = cond_no (fits i) _ one_bad t

  -- the total holds the four counts
  total_good : (n : ℕ) → T (fit_below s n) → sum_of n (thread_row s) ≡ packed_of (tally_below s n)
  unfolding every how_many
  total_good zero t = refl
  total_good (suc n) t =
      let before = total_good n (and_l (fit_below s n) (fits n) t) in
      omega (arith, row_good n (and_r (fit_below s n) (fits n) t))

  -- the sum of the holders' phases has room in its field
  holder_le : (n : ℕ) → sum_of n (λ i. holder_phase (s.phase i)) ≤ last_phase * n
  holder_le zero = omega arith
  holder_le (suc n) =
      let p = s.phase n in
      omega (arith, holder_le n, cond_either (λ (k : ℕ). k ≤ last_phase) (holds p) p 0 (holder-phase p) (λ _. omega arith))

  -- a thread that doesn't fit shows in the total
  total-bad : (n : ℕ) → T (not (fit_below s n)) → one_bad ≤ sum_of n (thread_row s)
  unfolding every
  total-bad zero t = absurd t
  total-bad (suc n) t = by (decided (fit_below s n)) (total-bad n)
    where
      by : T (fit_below s n) ⊎ T (not (fit_below s n)) → (T (not (fit_below s n)) → one_bad ≤ sum_of n (thread_row s)) → one_bad ≤ sum_of n (thread_row s) + thread_row s n
      by (inl u) rec = omega (arith, row-bad n (subst (λ (b : Bool). T (not (b && fits n))) (T_true (fit_below s n) u) t))
      by (inr u) rec = omega (arith, rec u)

-- ---- what is told

-- the fields of a total
abbrev fields_of : ℕ → Tally
fields_of x =
    record {
      holder = x % one_flag;
      forbidden = x / one_flag % 256;
      readers = x / one_reader % 256;
      backed_off = x / one_backed % 256;
    }

-- they are the counts that were put in
fields_good : (x : ℕ) (t : Tally) → x ≡ packed_of t → t.holder < one_flag → t.forbidden < 256 → t.readers < 256 → t.backed_off < 256
    → fields_of x ≡ t
fields_good x t e a b c d =
    let from-forbidden : x / one_flag ≡ (t.backed_off * 256 + t.readers) * 256 + t.forbidden = omega arith in
    let from-readers : x / one_reader ≡ t.backed_off * 256 + t.readers = omega arith in
    let from-backed : x / one_backed ≡ t.backed_off = omega arith in
    let holder : x % one_flag ≡ t.holder = omega arith in
    let forbidden : x / one_flag % 256 ≡ t.forbidden = ap (λ (k : ℕ). k % 256) from-forbidden ∙ digits_mod (t.backed_off * 256 + t.readers) b in
    let readers : x / one_reader % 256 ≡ t.readers = ap (λ (k : ℕ). k % 256) from-readers ∙ digits_mod t.backed_off c in
    let backed : x / one_backed % 256 ≡ t.backed_off = ap (λ (k : ℕ). k % 256) from-backed ∙ mod-eq_of_lt d in
    simp (holder, forbidden, readers, backed)

-- where all bits are few and the total is small, its fields are told; else nothing but that some thread is bad
told_good : (x seen : ℕ) → eqb (bit_and seen high) 0 ≡ true → x < one_bad → found_by x seen ≡ Some (fields_of x)
unfolding found_by
told_good x seen e l = simp (e, lt-ltb x one_bad l)

told_bad : (x seen : ℕ) → (T (eqb (bit_and seen high) 0) → one_bad ≤ x) → found_by x seen ≡ None
unfolding found_by
told_bad x seen h = by (eqb (bit_and seen high) 0) h
  where
    by : (b : Bool) → (T b → one_bad ≤ x) → cond (b && ltb x one_bad) (Some (fields_of x)) None ≡ None
    by true f = simp (le-ltb x one_bad (f tt))
    by false f = refl

-- `seen` tells whether all threads have few bits, and where they have, `total'` is the total of their rows
pub packed : (s : Table) (n total' seen : ℕ)
    → n ≤ most_threads
    → eqb (bit_and seen high) 0 ≡ every n (few_at s)
    → (T (every n (few_at s)) → total' ≡ sum_of n (thread_row s))
    → found_by total' seen ≡ found_of s n
unfolding found_of
packed s n total' seen l bits sums = by (decided (fit_below s n))
  where
    by : T (fit_below s n) ⊎ T (not (fit_below s n)) → found_by total' seen ≡ cond (fit_below s n) (Some (tally_below s n)) None
    by (inl t) =
        let few = few-all s n t in
        let e : total' ≡ packed_of (tally_below s n) = sums few ∙ total_good s n t in
        let h : (tally_below s n).holder < one_flag = omega (arith, holder_le s n) in
        let a : (tally_below s n).forbidden < 256 = omega (arith, how_many-most (λ j. eqb (s.forbidden j) 1) n) in
        let b : (tally_below s n).readers < 256 = omega (arith, how_many-most (λ j. forbidden_reader (s.phase j) (s.forbidden j)) n) in
        let c : (tally_below s n).backed_off < 256 = omega (arith, how_many-most (λ j. backed_off (s.phase j)) n) in
        told_good total' seen (bits ∙ T_true (every n (few_at s)) few) (omega arith)
        ∙ ap Some (fields_good total' (tally_below s n) e h a b c)
        ∙ sym (cond_yes (fit_below s n) (Some (tally_below s n)) None t)
    by (inr t) =
        told_bad total' seen (λ u. let e = sums (subst T bits u) in omega (arith, total-bad s n t))
        ∙ sym (cond_no (fit_below s n) (Some (tally_below s n)) None t)
