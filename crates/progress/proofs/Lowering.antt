-- What an accepted request does to the number of Measure: one that is no call and no retry lowers it by exactly 1 (`lowers`), and a call or a retry doesn't lower it (`keeps`).
-- One line for each way.
use Prim.Native.Nat.{ℕ, ◌+◌, ◌≤◌, ◌<◌}
use native.Mathlib.Omega.{arith}
use mathlib.Core.Bool.{not}
use mathlib.Core.List.{[], ◌∷◌}
use mathlib.Core.Logic.{◌⊎◌, inl, inr, ⊎_elim}
use mathlib.Core.Path.{◌≡◌, refl, sym, subst, ap}
use lib.Dec.{T, eqb}
use Rattle.definitions.specs.Codes.{go}
use Rattle.definitions.specs.Moves.{Effect, all_forbidden, effect, step_in, accepts_in}
use Rattle.definitions.specs.Phases.{rows, holds, has_move}
use Rattle.definitions.specs.Table.{Table, update, applied, Storage}
use Rattle.definitions.specs.Threads.{among}
use Rattle.definitions.specs.declared.Request.{Request}
use Rattle.theory.specs.Tables.{Keeps}
use Rattle.basics.proofs.FlagCounts.{flags_set, one_more, one_fewer}
use Rattle.basics.proofs.Columns.{update-kept}
use Rattle.basics.proofs.Quantifiers.{every_at, how_many_none, how_many-all, how_many-most}
use Rattle.basics.proofs.Tests.{not_i, ne_T, same?}
use Rattle.theory.proofs.SoundChanges.{Column, put, keep, bit_0, in_phase_lem, holder_alone, nobody_holds}
use Rattle.theory.proofs.Soundness.{All, Sound, sound_e}
use Rattle.theory.proofs.Storages.{accepts_e, accepted-table}
use Rattle.theory.proofs.Ways.{Accepted, accepted_e, Way, way}
use Rattle.theory.proofs.Ways.{call_shared_lem, raise_busy, find_open, find-forbidden, back_off, try_again, hold-mutex, give_back, enter-shared, leave_shared, lower_busy, return_shared}
use Rattle.theory.proofs.Ways.{call_exclusive_lem, take-mutex, set-flag, find-busy, last-flag, next-flag, relents, give_up, enter-exclusive, leave_exclusive}
use Rattle.theory.proofs.Ways.{set_again, clear_flag, clear_last, release_mutex, return_exclusive}
use Rattle.progress.proofs.Measure.{alone, holding, part, total, measure, unheld, total-change}
use Rattle.progress.proofs.MoveKinds.{Advances, in_0, in_4, by-go, in_10, in_11, in_15}

-- what a request to s does, if it leaves a table of number m
pub data Judged (s : Table) (r : Request) (m : ℕ) : Type 0 where
  lowers : Advances s r → m + 1 ≡ measure s → Judged s r m
  keeps : (Advances s r → ⊥) → measure s ≤ m → Judged s r m

-- an accepted request of thread i to a sound table of n threads, and t is its target
module _ (s : Table) (z : Sound s) (r : Request) (a : Accepted s r) where
  abbrev n : ℕ
  n = s.threads

  abbrev i : ℕ
  i = r.thread

  abbrev t : ℕ
  t = r.target

  -- it leaves these phases and flags
  abbrev To : (ℕ → ℕ) → (ℕ → ℕ) → Type 0
  To φ F = Judged s r (total n φ F)

  -- ---- how many flags are set

  abbrev up : ℕ
  up = flags_set n s.forbidden

  up_most : up ≤ n
  up_most = how_many-most (λ j. eqb (s.forbidden j) 1) n

  up_none : All s (λ j. s.forbidden j ≡ 0) → up ≡ 0
  up_none none = how_many_none (λ j. eqb (s.forbidden j) 1) n (λ j k. ne_T (s.forbidden j) 1 (λ e. let c = none j k in omega arith))

  up_all : T (all_forbidden s) → up ≡ n
  up_all all = how_many-all (λ j. eqb (s.forbidden j) 1) n (every_at (λ j. eqb (s.forbidden j) 1) n all)

  -- where the target's flag is given the value that it has
  up_same : (v : ℕ) → s.forbidden t ≡ v → flags_set n (update s.forbidden t v) ≡ up
  up_same v e = ap (flags_set n) (update-kept s.forbidden t v e)

  -- a thread's flag is 0 or 1
  bit : (j : ℕ) → j < n → (s.forbidden j ≡ 0) ⊎ (s.forbidden j ≡ 1)
  bit j k = ⊎_elim inr (λ h. inl (bit_0 (s.forbidden j) (z.flags j k) h)) (same? (s.forbidden j) 1)

  -- ---- moves that write no flag: the mover goes from phase p to phase v

  by-phase : (p v : ℕ) → s.phase i ≡ p → total n (update s.phase i v) s.forbidden + part n up p ≡ measure s + part n up v
  by-phase p v e = total-change n s.phase (update s.phase i v) s.forbidden s.forbidden i p v a.thread-fits e (put s.phase i v) (λ j k h. refl)

  -- it adds 1 less
  down : (p v : ℕ) → s.phase i ≡ p → Advances s r → part n up p ≡ part n up v + 1 → To (update s.phase i v) s.forbidden
  down p v e b less = lowers b (omega (arith, by-phase p v e))

  -- it adds no less
  not_down : (p v : ℕ) → s.phase i ≡ p → (Advances s r → ⊥) → part n up p ≤ part n up v → To (update s.phase i v) s.forbidden
  not_down p v e b more = keeps b (omega (arith, by-phase p v e))

  -- by go, in a phase that has it alone
  goes : (p v : ℕ) → s.phase i ≡ p → (T (has_move r.mv p) → T (among r.mv (go ∷ []))) → T (not (eqb p 4)) → T (not (eqb p 11)) → part n up p ≡ part n up v + 1
      → To (update s.phase i v) s.forbidden
  goes p v e only not_4 not-11 = down p v e (by-go s r a.has_move_lem p e only not_4 not-11)

  -- ---- moves that write a flag: the holder goes from phase p to phase v

  by-holder : (p v : ℕ) (φ F : ℕ → ℕ) → s.phase i ≡ p → T (holds p) → Column s.phase i v φ → total n φ F + part n up p ≡ measure s + part n (flags_set n F) v
  by-holder p v φ F e hp w =
      total-change n s.phase φ s.forbidden F i p v a.thread-fits e w
      (λ j k h. unheld n up (flags_set n F) (s.phase j) (not_i (holds (s.phase j)) (λ u. h (holder_alone s z i a.thread-fits p e hp j k u))))

  -- go in 12
  gives_up : s.phase i ≡ 12 → To (update s.phase i 10) (update s.forbidden s.target 0)
  unfolding rows part holding
  gives_up e =
      let target = z.has_target i a.thread-fits (in_phase_lem s z i a.thread-fits 12 e tt 11 12 tt) in
      let fewer = one_fewer n s.forbidden s.target target.0 target.1 in
      lowers (by-go s r a.has_move_lem 12 e (λ u. u) tt tt) (omega (arith, up_most, by-holder 12 10 (update s.phase i 10) (update s.forbidden s.target 0) e tt (put s.phase i 10)))

  -- set in 10
  sets : s.phase i ≡ 10 → t < n → To (update s.phase i 11) (update s.forbidden t 1)
  unfolding rows part holding
  sets e l = ⊎_elim clear already (bit t l)
    where
      change : total n (update s.phase i 11) (update s.forbidden t 1) + part n up 10 ≡ measure s + part n (flags_set n (update s.forbidden t 1)) 11
      change = by-holder 10 11 (update s.phase i 11) (update s.forbidden t 1) e tt (put s.phase i 11)

      clear : s.forbidden t ≡ 0 → To (update s.phase i 11) (update s.forbidden t 1)
      clear f =
          lowers ((in_10 s r a.has_move_lem e).0 f)
          (omega (arith, one_more n s.forbidden t l f, how_many-most (λ j. eqb (update s.forbidden t 1 j) 1) n, change))

      already : s.forbidden t ≡ 1 → To (update s.phase i 11) (update s.forbidden t 1)
      already f = keeps ((in_10 s r a.has_move_lem e).1 f) (omega (arith, up_same 1 f, up_most, change))

  -- set in 15
  sets_again : s.phase i ≡ 15 → t < n → (Advances s r → ⊥) → To s.phase (update s.forbidden t 1)
  unfolding rows part holding
  sets_again e l retry = keeps retry (omega (arith, more, by-holder 15 15 s.phase (update s.forbidden t 1) e tt (keep s.phase i 15 e)))
    where
      more : up ≤ flags_set n (update s.forbidden t 1)
      more = ⊎_elim (λ f. omega (arith, one_more n s.forbidden t l f)) (λ f. omega (arith, up_same 1 f)) (bit t l)

  -- clear in 15, to phase v, 15 or 16, in which the holder adds 2 and the flags set
  clears : (v : ℕ) (φ : ℕ → ℕ) → s.phase i ≡ 15 → t < n → Column s.phase i v φ → ((k : ℕ) → part n k v ≡ k + 2)
      → (s.forbidden t ≡ 1 → Advances s r) → (s.forbidden t ≡ 0 → Advances s r → ⊥) → To φ (update s.forbidden t 0)
  unfolding rows part holding
  clears v φ e l w adds advances retry = ⊎_elim already set (bit t l)
    where
      left : ℕ
      left = flags_set n (update s.forbidden t 0)

      change : total n φ (update s.forbidden t 0) + part n up 15 ≡ measure s + part n left v
      change = by-holder 15 v φ (update s.forbidden t 0) e tt w

      already : s.forbidden t ≡ 0 → To φ (update s.forbidden t 0)
      already f = keeps (retry f) (omega (arith, up_same 0 f, adds left, change))

      set : s.forbidden t ≡ 1 → To φ (update s.forbidden t 0)
      set f = lowers (advances f) (omega (arith, one_fewer n s.forbidden t l f, adds left, change))

  -- ---- each way

  judged : {x : Effect} → Way s i r.mv t x → x ≡ effect s r → Judged s r (measure (applied s x.writes))
  unfolding rows part alone holding
  judged (call_shared_lem e) q = not_down 0 1 e (in_0 s r a.has_move_lem e) (omega arith)
  judged (call_exclusive_lem e) q = not_down 0 9 e (in_0 s r a.has_move_lem e) (omega arith)
  judged (raise_busy e) q = goes 1 2 e (λ u. u) tt tt refl
  judged (find_open e f) q = goes 2 5 e (λ u. u) tt tt refl
  judged (find-forbidden e f) q = goes 2 3 e (λ u. u) tt tt refl
  judged (back_off e) q = goes 3 4 e (λ u. u) tt tt refl
  judged (try_again e) q = not_down 4 1 e (in_4 s r a.has_move_lem e) (omega arith)
  judged (hold-mutex m e f) q = not_down 4 18 e (in_4 s r a.has_move_lem e) (omega arith)
  judged (give_back m e) q = goes 18 1 e (λ u. u) tt tt refl
  judged (enter-shared e) q = goes 5 6 e (λ u. u) tt tt refl
  judged (leave_shared e) q = goes 6 7 e (λ u. u) tt tt refl
  judged (lower_busy e) q = goes 7 8 e (λ u. u) tt tt refl
  judged (return_shared e) q = goes 8 0 e (λ u. u) tt tt refl
  judged (take-mutex m e f) q = goes 9 10 e (λ u. u) tt tt (omega (arith, up_none (z.open_free (nobody_holds s z i a.thread-fits f))))
  judged (find-busy e f) q = ⊎_elim (λ b. absurd (omega (arith, b.1))) (λ b. not_down 11 12 e b.0 (omega arith)) (in_11 s r a.has_move_lem e _ q)
  judged (relents e) q = ⊎_elim (λ b. absurd (omega (arith, b.1))) (λ b. not_down 11 12 e b.0 (omega arith)) (in_11 s r a.has_move_lem e _ q)
  judged (last-flag e f all) q = ⊎_elim (λ b. down 11 13 e b.0 (omega (arith, up_all all))) (λ b. absurd (omega (arith, b.1))) (in_11 s r a.has_move_lem e _ q)
  judged (next-flag e f some) q = ⊎_elim (λ b. down 11 10 e b.0 (omega (arith, up_most))) (λ b. absurd (omega (arith, b.1))) (in_11 s r a.has_move_lem e _ q)
  judged (give_up e) q = gives_up e
  judged (enter-exclusive e) q = goes 13 14 e (λ u. u) tt tt (omega arith)
  judged (leave_exclusive e) q = goes 14 15 e (λ u. u) tt tt (omega arith)
  judged (release_mutex m e) q = goes 16 17 e (λ u. u) tt tt (omega (arith, up_none (z.open_held i a.thread-fits (rw e tt))))
  judged (return_exclusive e) q = goes 17 0 e (λ u. u) tt tt refl
  judged (set-flag e l) q = sets e l
  judged (set_again e l) q = ⊎_elim (λ b. absurd (omega (arith, b.0))) (λ b. sets_again e l b.1) (in_15 s r a.has_move_lem e 1 _ q)
  judged (clear_last e l none) q =
      ⊎_elim (λ b. clears 16 (update s.phase i 16) e l (put s.phase i 16) (λ k. refl) b.1 b.2) (λ b. absurd (omega (arith, b.0))) (in_15 s r a.has_move_lem e 0 _ q)
  judged (clear_flag e l some) q = ⊎_elim (λ b. clears 15 s.phase e l (keep s.phase i 15 e) (λ k. refl) b.1 b.2) (λ b. absurd (omega (arith, b.0))) (in_15 s r a.has_move_lem e 0 _ q)

-- whatever stores the table
module _ {B : Type 0} (S : Storage B) (kept : Keeps S) where
  pub judged_in : (b : B) (r : Request) → T (accepts_in S b r) → Judged (S.table b) r (measure (S.table (step_in S b r)))
  judged_in b r t =
      let s = S.table b in
      let a = accepted_e s r (accepts_e S b r t).1 in
      subst (λ (x : Table). Judged s r (measure x)) (sym (accepted-table S kept b r t)) (judged s (sound_e s a.is_sound) r a (way s r a) refl)
