-- A number for every table that each move lowers by 1 which is no call and no retry (Lowering). It is a sum over the threads: what a thread adds goes by its phase (`alone`),
-- and for the holder by the number of flags set too (`holding`). Here are how it changes with one thread's phase and with the flags,
-- and how large it is: at most N × (3N + 5) for a sound table, and 0 for the fresh one. For every N.
use Prim.Native.Nat.{ℕ, suc, ◌+◌, ◌*◌, ◌-◌, ◌≤◌, ◌<◌}
use native.Mathlib.Omega.{arith}
use mathlib.Core.Bool.{cond, not}
use mathlib.Core.List.{[], ◌∷◌}
use mathlib.Core.Logic.{◌⊎◌, inl, inr}
use mathlib.Core.Path.{◌≡◌, sym, ap, ◌∙◌}
use lib.Dec.{T, leb, eqb, leb→le}
use lib.ListN.{get_or}
use Rattle.definitions.specs.Bounds.{last_phase}
use Rattle.definitions.specs.Phases.{rows, holds}
use Rattle.definitions.specs.Table.{Table, fresh_table}
use Rattle.definitions.specs.Threads.{every, sum_of, between}
use Rattle.basics.proofs.FlagCounts.{flags_set}
use Rattle.basics.proofs.Cases.{or_at, none_of}
use Rattle.basics.proofs.Quantifiers.{every_at, how_many_pos, how_many-all, how_many-most}
use Rattle.basics.proofs.Sums.{sum_but_below, sum_most, sum_zero}
use Rattle.basics.proofs.Tests.{decided, cond_yes, cond_no, eq_T}
use Rattle.theory.proofs.PhaseCases.{is_holder}
use Rattle.theory.proofs.SoundChanges.{Column, in_phase_lem}
use Rattle.theory.proofs.Soundness.{Sound}
use Rattle.progress.specs.Progress.{most_progress}

-- ---- the number

-- what a thread adds that isn't the holder, by phase
abbrev short : ℕ → ℕ
short phase = get_or (0 ∷ 6 ∷ 5 ∷ 4 ∷ 3 ∷ 4 ∷ 3 ∷ 2 ∷ 1 ∷ 0 ∷ 0 ∷ 0 ∷ 0 ∷ 0 ∷ 0 ∷ 0 ∷ 0 ∷ 1 ∷ []) phase 0

-- in 9 it is a writer's whole round
unfoldable pub alone : ℕ → ℕ → ℕ
alone n phase = cond (eqb phase 9) (3 * n + 5) (short phase)

-- what the holder adds, in 10 to 16 and in 18, with k flags set
unfoldable pub holding : ℕ → ℕ → ℕ → ℕ
holding n k phase =
    get_or ((3 * n + 4 - 2 * k) ∷ (3 * n + 5 - 2 * k) ∷ (3 * n + 7 - 2 * k) ∷ (k + 4) ∷ (k + 3) ∷ (k + 2) ∷ (k + 2) ∷ 0 ∷ 7 ∷ []) (phase - 10) 0

-- what a thread adds
unfoldable pub part : ℕ → ℕ → ℕ → ℕ
part n k phase = cond (holds phase) (holding n k phase) (alone n phase)

-- the sum for n threads, by their phases and flags
unfoldable pub total : ℕ → (ℕ → ℕ) → (ℕ → ℕ) → ℕ
total n phase forbidden = sum_of n (λ j. part n (flags_set n forbidden) (phase j))

abbrev pub measure : Table → ℕ
measure s = total s.threads s.phase s.forbidden

-- ---- how it changes

-- the flags count for the holder alone
pub unheld : (n k m phase : ℕ) → T (not (holds phase)) → part n m phase ≡ part n k phase
unfolding part
unheld n k m phase t = cond_no (holds phase) _ _ t ∙ sym (cond_no (holds phase) _ _ t)

-- thread i, in phase p, goes to phase v, and what the others add stays
pub total-change : (n : ℕ) (φ ψ F G : ℕ → ℕ) (i p v : ℕ) → i < n → φ i ≡ p → Column φ i v ψ
    → ((j : ℕ) → j < n → (j ≡ i → ⊥) → part n (flags_set n G) (φ j) ≡ part n (flags_set n F) (φ j))
    → total n ψ G + part n (flags_set n F) p ≡ total n φ F + part n (flags_set n G) v
unfolding total
total-change n φ ψ F G i p v l e w same =
    let sum = sum_but_below n (λ j. part n (flags_set n F) (φ j)) (λ j. part n (flags_set n G) (ψ j)) i l
    (λ j k h. ap (part n (flags_set n G)) (w.others j h) ∙ same j k h) in
    let before = ap (part n (flags_set n F)) e in
    let after = ap (part n (flags_set n G)) w.here in
    omega arith

-- ---- how large it is

-- what a thread adds that isn't the holder, by trying the phases
alone_most : (n phase : ℕ) → 1 ≤ n → phase ≤ last_phase → alone n phase ≤ 3 * n + 5
unfolding alone every
alone_most n phase least l = by (decided (eqb phase 9))
  where
    few : short phase ≤ 6
    few = leb→le (short phase) 6 (every_at (λ q. leb (short q) 6) (suc last_phase) tt phase (omega arith))

    by : T (eqb phase 9) ⊎ T (not (eqb phase 9)) → cond (eqb phase 9) (3 * n + 5) (short phase) ≤ 3 * n + 5
    by (inl t) = let e = cond_yes (eqb phase 9) (3 * n + 5) (short phase) t in omega arith
    by (inr t) = let e = cond_no (eqb phase 9) (3 * n + 5) (short phase) t in omega (arith, few)

-- what the holder adds; in 12 some flag is set
holding_most : (n k phase : ℕ) → 1 ≤ n → k ≤ n → T (holds phase) → (phase ≡ 12 → 1 ≤ k) → holding n k phase ≤ 3 * n + 5
unfolding holding
holding_most n k phase least most t up =
    or_at phase 10 _ (λ e. rw e (omega arith))
    (or_at phase 11 _ (λ e. rw e (omega arith))
    (or_at phase 12 _ (λ e. let set = up e in rw e (omega arith))
    (or_at phase 13 _ (λ e. rw e (omega arith))
    (or_at phase 14 _ (λ e. rw e (omega arith))
    (or_at phase 15 _ (λ e. rw e (omega arith)) (or_at phase 16 _ (λ e. rw e (omega arith)) (or_at phase 18 _ (λ e. rw e (omega arith)) (none_of phase))))))))
    (is_holder phase t)

-- in 12 the target's flag is set, in 13 and 14 every flag is
module _ (s : Table) (z : Sound s) (i : ℕ) (l : i < s.threads) where
  pub some-set : s.phase i ≡ 12 → 1 ≤ flags_set s.threads s.forbidden
  unfolding rows
  some-set e =
      let r = z.has_target i l (in_phase_lem s z i l 12 e tt 11 12 tt) in
      how_many_pos (λ j. eqb (s.forbidden j) 1) s.threads s.target r.0 (eq_T (s.forbidden s.target) 1 r.1)

  pub all_set : T (between 13 14 (s.phase i)) → flags_set s.threads s.forbidden ≡ s.threads
  all_set t = how_many-all (λ j. eqb (s.forbidden j) 1) s.threads (λ j k. eq_T (s.forbidden j) 1 (z.all-forbidden i l t j k))

-- a sound table's
pub measure_most : (s : Table) → Sound s → measure s ≤ most_progress s.threads
unfolding total part
measure_most s z = sum_most (λ j. part n k (s.phase j)) (3 * n + 5) n (λ j l. by j l (decided (holds (s.phase j))))
  where
    n : ℕ
    n = s.threads

    k : ℕ
    k = flags_set n s.forbidden

    by : (j : ℕ) → j < n → T (holds (s.phase j)) ⊎ T (not (holds (s.phase j))) → part n k (s.phase j) ≤ 3 * n + 5
    by j l (inl t) =
        let e = cond_yes (holds (s.phase j)) (holding n k (s.phase j)) (alone n (s.phase j)) t in
        omega (arith, holding_most n k (s.phase j) (omega arith) (how_many-most (λ x. eqb (s.forbidden x) 1) n) t (some-set s z j l))
    by j l (inr t) =
        let e = cond_no (holds (s.phase j)) (holding n k (s.phase j)) (alone n (s.phase j)) t in
        omega (arith, alone_most n (s.phase j) (omega arith) (z.phases j l))

-- the fresh table's
pub fresh_measure : (n : ℕ) → measure (fresh_table n) ≡ 0
unfolding total part alone rows
fresh_measure n = sum_zero n
