-- Every sound table with nothing beyond its threads is led to from the fresh one: step by step back, the number of `Rank` falling. For every N.
use Prim.Native.Nat.{ℕ, zero, suc, ◌+◌, ◌≤◌, ◌<◌}
use native.Mathlib.Nat.{not-suc-le-zero}
use native.Mathlib.Omega.{arith}
use mathlib.Core.List.{List, [], ◌∷◌, ◌++◌}
use mathlib.Core.Logic.{◌⊎◌, inl, inr, ⊎_elim}
use mathlib.Core.Path.{◌≡◌, refl, sym, subst, ap, ◌∙◌, fun_ext}
use lib.Dec.{T}
use Rattle.definitions.specs.Phases.{rows, busy_in}
use Rattle.definitions.specs.PlainLock.{Pair}
use Rattle.definitions.specs.Sound.{sound}
use Rattle.definitions.specs.Table.{Table, fresh_table, Write, mutex≔, target≔, phase≔, busy≔, forbidden≔, update, applied_one, applied}
use Rattle.definitions.specs.declared.Request.{Request}
use Rattle.theory.specs.Tables.{WriteFits, WritesFit}
use Rattle.basics.proofs.Quantifiers.{below_suc}
use Rattle.basics.proofs.Tests.{below?}
use Rattle.basics.proofs.Columns.{update_other}
use Rattle.theory.proofs.Chains.{Leads, stays, both}
use Rattle.theory.proofs.Soundness.{Sound, sound_e}
use Rattle.theory.proofs.Stages.{range_holds}
use Rattle.theory.proofs.Writes.{same-table, applied-keeps}
use Rattle.completeness.proofs.Before.{Before}
use Rattle.completeness.proofs.Rank.{rank_at, Below}
use Rattle.completeness.proofs.StepBack.{Fresh, step_or_fresh}

-- ---- nothing beyond the threads

-- the places from n on are 0
abbrev Zeros : ℕ → (ℕ → ℕ) → Type 0
Zeros n f = (j : ℕ) → n ≤ j → f j ≡ 0

pub record Blank (n : ℕ) (s : Table) : Type 0 where
  pub phase : Zeros n s.phase
  pub busy : Zeros n s.busy
  pub forbidden : Zeros n s.forbidden

-- writes to threads keep it so
zeros_kept : (n : ℕ) (f : ℕ → ℕ) (i v : ℕ) → i < n → Zeros n f → Zeros n (update f i v)
zeros_kept n f i v l zeros j k = update_other f i v j (λ e. omega arith) ∙ zeros j k

blank_one : (n : ℕ) (s : Table) (w : Write) → WriteFits n w → Blank n s → Blank n (applied_one s w)
blank_one n s (mutex≔ v) fit b = record { phase = b.phase; busy = b.busy; forbidden = b.forbidden }
blank_one n s (target≔ v) fit b = record { phase = b.phase; busy = b.busy; forbidden = b.forbidden }
blank_one n s (phase≔ i v) fit b = record { phase = zeros_kept n s.phase i v fit b.phase; busy = b.busy; forbidden = b.forbidden }
blank_one n s (busy≔ i v) fit b = record { phase = b.phase; busy = zeros_kept n s.busy i v fit b.busy; forbidden = b.forbidden }
blank_one n s (forbidden≔ i v) fit b = record { phase = b.phase; busy = b.busy; forbidden = zeros_kept n s.forbidden i v fit b.forbidden }

blank_kept : (n : ℕ) (s : Table) (ws : List Write) → WritesFit n ws → Blank n s → Blank n (applied s ws)
blank_kept n s [] fits b = b
blank_kept n s (w ∷ ws) fits b = blank_kept n (applied_one s w) ws fits.1 (blank_one n s w fits.0 b)

-- ---- the fresh table

module _ (s : Table) (z : Sound s) (blank : Blank s.threads s) (fresh : Fresh s) where
  all-zero : (f : ℕ → ℕ) → ((j : ℕ) → j < s.threads → f j ≡ 0) → Zeros s.threads f → f ≡ (λ j. 0)
  all-zero f below beyond = fun_ext (λ j. ⊎_elim (below j) (beyond j) (below? s.threads j))

  is_fresh : s ≡ fresh_table s.threads
  unfolding rows
  is_fresh =
      same-table s (fresh_table s.threads) refl
      (z.free fresh.nobody)
      (z.no_target_lem (λ j k t. fresh.nobody j k (range_holds 11 12 (omega arith) (omega arith) (s.phase j) t)))
      (all-zero s.phase fresh.phases blank.phase)
      (all-zero s.busy (λ j k. z.busies j k ∙ ap busy_in (fresh.phases j k)) blank.busy)
      (all-zero s.forbidden (z.open_free fresh.nobody) blank.forbidden)

-- ---- step by step

-- some requests lead from the fresh table for n to s
abbrev pub FromFresh : ℕ → Table → Type 0
FromFresh n s = (rs : List Request) × (h : List Pair) × Leads (fresh_table n) rs h s

back_to_fresh : (b : ℕ) (s : Table) → 1 ≤ s.threads → T (sound s) → Blank s.threads s → Below s b → FromFresh s.threads s
back_to_fresh zero s least g blank below = absurd (not-suc-le-zero (below 0 least))
back_to_fresh (suc b) s least g blank below = by (λ t k d e f. back_to_fresh b t k d e f) (step_or_fresh s (sound_e s g))
  where
    by : ((t : Table) → 1 ≤ t.threads → T (sound t) → Blank t.threads t → Below t b → FromFresh t.threads t) → Before s ⊎ Fresh s → FromFresh s.threads s
    by rec (inr fresh) = ([], [], subst (λ (x : Table). Leads (fresh_table s.threads) [] [] x) (sym same) (stays (fresh_table s.threads) (subst (λ (x : Table). T (sound x)) same g)))
      where
        same : s ≡ fresh_table s.threads
        same = is_fresh s (sound_e s g) blank fresh
    by rec (inl step) =
        let t = applied s step.undo in
        let n : t.threads ≡ s.threads = applied-keeps s step.undo in
        let (rs, h, to) =
        rec t (subst (λ (k : ℕ). 1 ≤ k) (sym n) least) step.is_sound (subst (λ (k : ℕ). Blank k t) (sym n) (blank_kept s.threads s step.undo step.fits blank)) (step.falls b below) in
        (rs ++ (step.request ∷ []), h ++ step.shown, both (subst (λ (k : ℕ). Leads (fresh_table k) rs h t) n to) step.leads)

-- the number is below some bound
pub from-fresh : (s : Table) → 1 ≤ s.threads → T (sound s) → Blank s.threads s → FromFresh s.threads s
from-fresh s least g blank = let (b, below) = bounded (rank_at s) s.threads in back_to_fresh b s least g blank below
  where
    bounded : (f : ℕ → ℕ) (n : ℕ) → (b : ℕ) × ((j : ℕ) → j < n → f j < b)
    bounded f zero = (0, λ j l. absurd (not-suc-le-zero l))
    bounded f (suc n) =
        let (b, below) = bounded f n in
        (b + suc (f n), λ j l. ⊎_elim (λ e. subst (λ (k : ℕ). f k < b + suc (f n)) (sym e) (omega arith)) (λ k. omega (arith, below j k)) (below_suc j n l))
