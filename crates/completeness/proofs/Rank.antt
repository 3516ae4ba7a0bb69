-- A number for every table that falls by each step back to the fresh table. It is a sum: what each thread adds by its phase and forbidden (`weight`), what the holder adds by its phase
-- and the number of flags set (`holder_weight`), and what is added where some thread is in 3, 4 or 18 and none in 10 to 17 (`writerless_weight`): a writer's whole round is still to be undone then.
-- `Below s b` says that it is less than b.
use Prim.Native.Nat.{ℕ, suc, ◌+◌, ◌*◌, ◌-◌, ◌≤◌, ◌<◌}
use native.Mathlib.Omega.{arith}
use mathlib.Core.Bool.{Bool, cond, not, ◌&&◌}
use mathlib.Core.List.{[], ◌∷◌}
use mathlib.Core.Logic.{◌⊎◌, inl, inr}
use mathlib.Core.Path.{◌≡◌, refl, sym, subst, ap, ◌∙◌}
use lib.Dec.{T, eqb}
use lib.ListN.{get_or}
use Rattle.definitions.specs.Phases.{holds}
use Rattle.definitions.specs.Sound.{backed_off}
use Rattle.definitions.specs.Table.{Table, update}
use Rattle.definitions.specs.Threads.{some, between, sum_of}
use Rattle.basics.proofs.FlagCounts.{flags_set}
use Rattle.basics.proofs.Quantifiers.{some_i, some_e}
use Rattle.basics.proofs.Sums.{sum_but}
use Rattle.basics.proofs.Tests.{and_l, and_r, and_i, decided, cond_yes, cond_no, no_both, not_i, same?}
use Rattle.basics.proofs.Columns.{update_same, update_other}
use Rattle.theory.proofs.SoundChanges.{Column, put, after}
use Rattle.theory.proofs.Soundness.{All}
use Rattle.theory.proofs.Stages.{between_e, between_i}

-- ---- the number

-- what a thread adds, by phase; the holder in 10 to 16 has its own, and 17 is one more than the holder's last
unfoldable pub base : ℕ → ℕ → ℕ
base phase forbidden =
    get_or
    (0
    ∷ 1
    ∷ 2
    ∷ cond (eqb forbidden 1) 3 6
    ∷ cond (eqb forbidden 1) 4 7
    ∷ cond (eqb forbidden 1) 6 4
    ∷ cond (eqb forbidden 1) 7 5
    ∷ cond (eqb forbidden 1) 8 6
    ∷ 7
    ∷ 1
    ∷ 0
    ∷ 0
    ∷ 0
    ∷ 0
    ∷ 0
    ∷ 0
    ∷ 0
    ∷ 0
    ∷ 8
    ∷ [])
    phase 0

unfoldable pub weight : ℕ → ℕ → ℕ → ℕ
weight n phase forbidden = cond (eqb phase 17) (3 * n + 6) (base phase forbidden)

-- what the holder adds in 10 to 16, with k flags set
unfoldable pub holder_weight : ℕ → ℕ → ℕ → ℕ
holder_weight n k phase =
    cond (holds phase)
    (get_or ((2 * k + 2) ∷ (2 * k + 1) ∷ (2 * k + 2) ∷ (2 * n + 2) ∷ (2 * n + 3) ∷ (3 * n + 4 - k) ∷ (3 * n + 5) ∷ []) (phase - 10) 0)
    0

unfoldable pub weights : ℕ → (ℕ → ℕ) → (ℕ → ℕ) → ℕ
weights n phase forbidden = sum_of n (λ j. weight n (phase j) (forbidden j))

-- some thread is in 3, 4 or 18, and none in 10 to 17
abbrev pub writerless : ℕ → (ℕ → ℕ) → Bool
writerless n phase = some n (λ j. backed_off (phase j)) && not (some n (λ j. between 10 17 (phase j)))

abbrev pub writerless_weight : ℕ → (ℕ → ℕ) → ℕ
writerless_weight n phase = cond (writerless n phase) (3 * n + 7) 0

-- the number, if thread j is the holder
unfoldable pub rank_at : Table → ℕ → ℕ
rank_at s j =
    weights s.threads s.phase s.forbidden + holder_weight s.threads (flags_set s.threads s.forbidden) (s.phase j) + writerless_weight s.threads s.phase

-- it is less than b, whoever the holder is; a thread that isn't the holder adds nothing by being asked
abbrev pub Below : Table → ℕ → Type 0
Below s b = All s (λ j. rank_at s j < b)

-- ---- what a change of one thread does to the parts

-- a thread that doesn't hold the mutex adds nothing as a holder
pub no_holder_weight : (n k p : ℕ) → T (not (holds p)) → holder_weight n k p ≡ 0
unfolding holder_weight
no_holder_weight n k p t = cond_no (holds p) _ 0 t

-- the sum, where thread i's phase becomes v
pub weights_phase : (n : ℕ) (φ ψ F : ℕ → ℕ) (i v : ℕ) → i < n → Column φ i v ψ → weights n ψ F + weight n (φ i) (F i) ≡ weights n φ F + weight n v (F i)
unfolding weights
weights_phase n φ ψ F i v l w =
    let change = sum_but n (λ j. weight n (φ j) (F j)) (λ j. weight n (ψ j) (F j)) i l (λ j h. ap (λ (p : ℕ). weight n p (F j)) (w.others j h)) in
    let here = ap (λ (p : ℕ). weight n p (F i)) w.here in
    omega arith

-- and where its forbidden becomes v
pub weights_flag : (n : ℕ) (φ F : ℕ → ℕ) (i v : ℕ) → i < n → weights n φ (update F i v) + weight n (φ i) (F i) ≡ weights n φ F + weight n (φ i) v
unfolding weights
weights_flag n φ F i v l =
    let change = sum_but n (λ j. weight n (φ j) (F j)) (λ j. weight n (φ j) (update F i v j)) i l (λ j h. ap (weight n (φ j)) (update_other F i v j h)) in
    let here = ap (weight n (φ i)) (update_same F i v i refl) in
    omega arith

-- ---- the part for a table without a writer

module _ (n : ℕ) (φ : ℕ → ℕ) where
  -- some thread is in 10 to 17
  pub with_writer : (i : ℕ) → i < n → T (between 10 17 (φ i)) → writerless_weight n φ ≡ 0
  with_writer i l t =
      cond_no (writerless n φ) (3 * n + 7) 0
      (not_i (writerless n φ) (λ u. no_both (some n (λ j. between 10 17 (φ j))) (some_i (λ j. between 10 17 (φ j)) n i l t) (and_r (some n (λ j. backed_off (φ j))) _ u)))

  -- no thread is in 3, 4 and 18
  pub none_backed_off : ((j : ℕ) → j < n → T (backed_off (φ j)) → ⊥) → writerless_weight n φ ≡ 0
  none_backed_off none =
      cond_no (writerless n φ) (3 * n + 7) 0
      (not_i (writerless n φ) (λ u.
      let (j, l, t) = some_e (λ j. backed_off (φ j)) n (and_l (some n (λ j. backed_off (φ j))) (not (some n (λ j. between 10 17 (φ j)))) u) in
      none j l t))

  -- a thread is in 3, 4 or 18, and none in 10 to 17
  pub without_writer : (i : ℕ) → i < n → T (backed_off (φ i)) → ((j : ℕ) → j < n → T (between 10 17 (φ j)) → ⊥) → writerless_weight n φ ≡ 3 * n + 7
  without_writer i l t none =
      cond_yes (writerless n φ) (3 * n + 7) 0
      (and_i (some n (λ j. backed_off (φ j))) (not (some n (λ j. between 10 17 (φ j)))) (some_i (λ j. backed_off (φ j)) n i l t)
      (not_i (some n (λ j. between 10 17 (φ j))) (λ u. let (j, k, v) = some_e (λ j. between 10 17 (φ j)) n u in none j k v)))

  -- thread i was in phase p, none of 10 to 17, and in one of 3, 4 and 18 if it is in one now
  pub writerless_kept : (ψ : ℕ → ℕ) (i p v : ℕ) → i < n → φ i ≡ p → Column φ i v ψ → T (not (between 10 17 p)) → (T (backed_off v) → T (backed_off p)) → writerless_weight n ψ ≤ writerless_weight n φ
  writerless_kept ψ i p v l e w out back = by (decided (writerless n ψ))
    where
      earlier : (j : ℕ) → T (backed_off (ψ j)) → (j ≡ i) ⊎ (j ≡ i → ⊥) → T (backed_off (φ j))
      earlier j t (inl q) =
          subst (λ (x : ℕ). T (backed_off x)) (sym (ap φ q ∙ e)) (back (subst (λ (x : ℕ). T (backed_off x)) (ap ψ q ∙ w.here) t))
      earlier j t (inr h) = subst (λ (x : ℕ). T (backed_off x)) (w.others j h) t

      later : (j : ℕ) → T (between 10 17 (φ j)) → (j ≡ i) ⊎ (j ≡ i → ⊥) → T (between 10 17 (ψ j))
      later j t (inl q) = absurd (no_both (between 10 17 p) (subst (λ (x : ℕ). T (between 10 17 x)) (ap φ q ∙ e) t) out)
      later j t (inr h) = subst (λ (x : ℕ). T (between 10 17 x)) (sym (w.others j h)) t

      by : T (writerless n ψ) ⊎ T (not (writerless n ψ)) → writerless_weight n ψ ≤ writerless_weight n φ
      by (inr t) = let z = cond_no (writerless n ψ) (3 * n + 7) 0 t in omega arith
      by (inl t) =
          let (j, k, b) = some_e (λ x. backed_off (ψ x)) n (and_l (some n (λ x. backed_off (ψ x))) (not (some n (λ x. between 10 17 (ψ x)))) t) in
          let none = and_r (some n (λ x. backed_off (ψ x))) (not (some n (λ x. between 10 17 (ψ x)))) t in
          let before = without_writer j k (earlier j b (same? j i)) (λ x m u. no_both (some n (λ x. between 10 17 (ψ x))) (some_i (λ x. between 10 17 (ψ x)) n x m (later x u (same? x i))) none) in
          let after = cond_yes (writerless n ψ) (3 * n + 7) 0 t in
          omega arith

-- ---- the number falls

-- to one below what it was for thread h, whoever the holder is now
pub falls_at : (s t : Table) (h b : ℕ) → h < s.threads → All t (λ j. rank_at t j < rank_at s h) → Below s (suc b) → Below t b
falls_at s t h b l less below j k = omega (arith, less j k, below h l)

-- thread i, which isn't the holder, was in phase p, adds less in phase v, and nothing else is changed but its busy
module _ (s : Table) (i p v : ℕ) (β : ℕ → ℕ) (l : i < s.threads) (e : s.phase i ≡ p) where
  abbrev φ : ℕ → ℕ
  φ = update s.phase i v

  pub falls_outside : T (not (holds v)) → T (not (between 10 17 p)) → (T (backed_off v) → T (backed_off p)) → weight s.threads v (s.forbidden i) < weight s.threads p (s.forbidden i)
      → (b : ℕ) → Below s (suc b) → Below (after s s.mutex s.target φ β s.forbidden) b
  unfolding rank_at
  falls_outside nv out back less b below j k = by (same? j i)
    where
      n : ℕ
      n = s.threads

      up : ℕ
      up = flags_set n s.forbidden

      w : Column s.phase i v φ
      w = put s.phase i v

      lighter : weights n φ s.forbidden < weights n s.phase s.forbidden
      lighter =
          let sum = weights_phase n s.phase φ s.forbidden i v l w in
          let before = ap (λ (x : ℕ). weight n x (s.forbidden i)) e in
          omega arith

      extra : writerless_weight n φ ≤ writerless_weight n s.phase
      extra = writerless_kept n s.phase φ i p v l e w out back

      by : (j ≡ i) ⊎ (j ≡ i → ⊥) → weights n φ s.forbidden + holder_weight n up (φ j) + writerless_weight n φ < b
      by (inl q) = let none = ap (holder_weight n up) (ap φ q ∙ w.here) ∙ no_holder_weight n up v nv in omega (arith, lighter, extra, below i l)
      by (inr h) = let same = ap (holder_weight n up) (w.others j h) in omega (arith, lighter, extra, below j k)

-- thread h is the holder, alone, in phase v of 10 to 16
module _ (s : Table) (h v m g : ℕ) (φ β F : ℕ → ℕ) (l : h < s.threads) (at : φ h ≡ v) (writer : T (between 10 16 v)) (alone : All s (λ j. (j ≡ h → ⊥) → T (not (holds (φ j))))) where
  pub falls_held : weights s.threads φ F + holder_weight s.threads (flags_set s.threads F) v < rank_at s h → (b : ℕ) → Below s (suc b) → Below (after s m g φ β F) b
  unfolding rank_at
  falls_held less b = falls_at s (after s m g φ β F) h b l (λ j k. by j k (same? j h))
    where
      n : ℕ
      n = s.threads

      up : ℕ
      up = flags_set n F

      extra : writerless_weight n φ ≡ 0
      extra = with_writer n φ h l (subst (λ (x : ℕ). T (between 10 17 x)) (sym at) (let r = between_e 10 16 v writer in between_i 10 17 v r.0 (omega (arith, r.1))))

      by : (j : ℕ) → j < n → (j ≡ h) ⊎ (j ≡ h → ⊥) → weights n φ F + holder_weight n up (φ j) + writerless_weight n φ < rank_at s h
      by j k (inl q) = let here = ap (holder_weight n up) (ap φ q ∙ at) in omega (arith, extra)
      by j k (inr o) = let none = no_holder_weight n up (φ j) (alone j k o) in omega (arith, extra)

-- nobody is the holder
pub falls_free : (s : Table) (h m g : ℕ) (φ β F : ℕ → ℕ) → h < s.threads → All s (λ j. T (not (holds (φ j)))) → weights s.threads φ F + writerless_weight s.threads φ < rank_at s h
    → (b : ℕ) → Below s (suc b) → Below (after s m g φ β F) b
unfolding rank_at
falls_free s h m g φ β F l none less b =
    falls_at s (after s m g φ β F) h b l
    (λ j k. let zero = no_holder_weight s.threads (flags_set s.threads F) (φ j) (none j k) in omega arith)
