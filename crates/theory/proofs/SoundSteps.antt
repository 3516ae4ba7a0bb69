-- Every accepted move of the record leaves a sound table (`kept-sound`).
-- Each way is one of the changes of SoundChanges; what it asks of the table after it is shown way by way.
use Prim.Native.Nat.{ℕ, suc, ◌≤◌, ◌<◌}
use native.Mathlib.Omega.{arith}
use mathlib.Core.Bool.{not, ◌&&◌, ◌||◌}
use mathlib.Core.List.{[], ◌∷◌}
use mathlib.Core.Logic.{◌⊎◌, inl, inr, ⊎_elim}
use mathlib.Core.Path.{◌≡◌, refl, sym, subst, ap, ◌∙◌}
use lib.Dec.{T, eqb, eqb→eq}
use Rattle.definitions.specs.Answers.{leaves}
use Rattle.definitions.specs.Bounds.{last_phase, no_target}
use Rattle.definitions.specs.Moves.{Effect, effect, all_forbidden, none_forbidden_but, step_reply, step, accepts}
use Rattle.definitions.specs.Phases.{rows, busy_in, holds, reading}
use Rattle.definitions.specs.Sound.{sound, any_holder, opened, backed_off}
use Rattle.definitions.specs.Table.{Table, mutex≔, target≔, phase≔, forbidden≔, update, applied}
use Rattle.definitions.specs.Threads.{every, between, implies}
use Rattle.definitions.specs.declared.Request.{Request}
use Rattle.basics.proofs.Quantifiers.{every_at, not-every}
use Rattle.basics.proofs.Replies.{leaves-yes, leaves_no}
use Rattle.theory.proofs.Soundness.{All, Some, Reads, Elsewhere, Sound, some_in, none_in, sound_e}
use Rattle.theory.proofs.SoundChanges.{put, keep, put_back_lem, bit_0, bit_1, other_elsewhere, elsewhere_after, phase-moves, busy-moves, flags_after}
use Rattle.theory.proofs.SoundChanges.{read-before, in_phase_lem, idle_target, holds_on, nobody_holds, idle, takes-mutex, lets_go}
use Rattle.theory.proofs.Stages.{opened-holds, opened_apart, stage_10, stage_11, stage_13, stage_15, stage_opened}
use Rattle.basics.proofs.Tests.{and_i, T_ne, decided, no_both, not_i, or_e, or_l, or_r, same?, eq_T, implies_e}
use Rattle.theory.proofs.Ways.{Way, way, accepted_e}
use Rattle.theory.proofs.Ways.{call_shared_lem, raise_busy, find_open, find-forbidden, back_off, try_again, hold-mutex, give_back, enter-shared, leave_shared, lower_busy, return_shared}
use Rattle.theory.proofs.Ways.{call_exclusive_lem, take-mutex, set-flag, find-busy, last-flag, next-flag, relents, give_up, enter-exclusive, leave_exclusive}
use Rattle.theory.proofs.Ways.{set_again, clear_flag, clear_last, release_mutex, return_exclusive}
use Rattle.basics.proofs.Columns.{update_same, update_other}

-- "busy is 1" in phases 5 to 7, by trying the phases
reading-busy : (q : ℕ) → q ≤ last_phase → T (reading q) → busy_in q ≡ 1
unfolding rows every
reading-busy q l t =
    eqb→eq (busy_in q) 1
    (implies_e (reading q) (eqb (busy_in q) 1) (every_at (λ x. implies (reading x) (eqb (busy_in x) 1)) (suc last_phase) tt q (omega arith)) t)

-- a holder that may keep threads out is in none of 3, 4 and 18, by trying the phases
writer_elsewhere : (q : ℕ) → q ≤ last_phase → T (holds q) → T (not (opened q)) → T (not (backed_off q))
unfolding rows every
writer_elsewhere q l t u =
    implies_e (holds q && not (opened q)) (not (backed_off q)) (every_at (λ x. implies (holds x && not (opened x)) (not (backed_off x))) (suc last_phase) tt q (omega arith))
    (and_i (holds q) (not (opened q)) t u)

module _ (s : Table) (z : Sound s) (i : ℕ) (l : i < s.threads) where
  -- the target's busy isn't 1: then no thread with forbidden 1 is in 5 to 7
  pub settled : s.phase i ≡ 11 → (s.busy s.target ≡ 1 → ⊥) → All s (λ j. s.forbidden j ≡ 1 → Reads s j → ⊥)
  unfolding rows
  settled e quiet j k f r = by (same? j s.target)
    where
      by : (j ≡ s.target) ⊎ (j ≡ s.target → ⊥) → ⊥
      by (inl q) = quiet (ap s.busy (sym q) ∙ (z.busies j k ∙ reading-busy (s.phase j) (z.phases j k) r))
      by (inr h) = z.guarded_11 i l (in_phase_lem s z i l 11 e tt 11 12 tt) j k h f r

  -- thread i, in 2, finds its forbidden set: another thread, the holder, is a writer at work, which is in none of 3, 4 and 18
  kept_out : s.phase i ≡ 2 → (s.forbidden i ≡ 0 → ⊥) → Some s (λ j. (j ≡ i → ⊥) × Elsewhere s j)
  unfolding rows
  kept_out e f = by (decided (any_holder s))
    where
      by : T (any_holder s) ⊎ T (not (any_holder s)) → Some s (λ j. (j ≡ i → ⊥) × Elsewhere s j)
      by (inl t) =
          let (h, k, u) = some_in s holds t in
          let writes : T (not (opened (s.phase h))) = not_i (opened (s.phase h)) (λ o. f (z.open_held h k o i l)) in
          (h, k, ((λ q. subst (λ (y : ℕ). T (holds y)) (ap s.phase q ∙ e) u), writer_elsewhere (s.phase h) (z.phases h k) u writes))
      by (inr t) = absurd (f (z.open_free (none_in s holds t) i l))

  -- the mutex isn't 1: nobody holds it, and no thread is kept out
  module _ (f : s.mutex ≡ 1 → ⊥) where
    clear : All s (λ j. s.forbidden j ≡ 0)
    clear = z.open_free (nobody_holds s z i l f)

    writer-takes : s.phase i ≡ 9 → T (sound (applied s (phase≔ i 10 ∷ mutex≔ 1 ∷ [])))
    unfolding rows
    writer-takes e =
        takes-mutex s z i l f 9 10 e tt refl
        (stage_10 (applied s (phase≔ i 10 ∷ mutex≔ 1 ∷ [])) (idle s z i l f) (i, l, clear i l) (λ j k o r. let c = clear j k in omega arith))

    reader-takes : s.phase i ≡ 4 → T (sound (applied s (phase≔ i 18 ∷ mutex≔ 1 ∷ [])))
    unfolding rows
    reader-takes e =
        takes-mutex s z i l f 4 18 e tt refl
        (stage_opened (applied s (phase≔ i 18 ∷ mutex≔ 1 ∷ [])) 18 tt (idle s z i l f) clear
        (λ t. elsewhere_after s z i l 18 (update s.phase i 18) (put s.phase i 18) (λ u. other_elsewhere s z i l 4 e tt)))

  to_12 : s.phase i ≡ 11 → T (sound (applied s (phase≔ i 12 ∷ [])))
  unfolding rows
  to_12 e =
      let r = z.has_target i l (in_phase_lem s z i l 11 e tt 11 12 tt) in
      holds_on s z i l 11 e tt 12 s.target (update s.phase i 12) s.forbidden (put s.phase i 12) tt refl z.flags
      (stage_11 (applied s (phase≔ i 12 ∷ [])) 12 tt r.0 r.1 (λ j k h f u. z.guarded_11 i l (in_phase_lem s z i l 11 e tt 11 12 tt) j k h f (read-before s z i l 12 tt j u)))

  to_13 : s.phase i ≡ 11 → (s.busy s.target ≡ 1 → ⊥) → T (all_forbidden s) → T (sound (applied s (phase≔ i 13 ∷ target≔ no_target ∷ [])))
  unfolding rows
  to_13 e quiet a =
      let one : All s (λ j. s.forbidden j ≡ 1) = λ j k. eqb→eq (s.forbidden j) 1 (every_at (λ x. eqb (s.forbidden x) 1) s.threads a j k) in
      holds_on s z i l 11 e tt 13 no_target (update s.phase i 13) s.forbidden (put s.phase i 13) tt refl z.flags
      (stage_13 (applied s (phase≔ i 13 ∷ target≔ no_target ∷ [])) 13 tt refl one (λ j k u. settled e quiet j k (one j k) (read-before s z i l 13 tt j u)))

  to_10 : s.phase i ≡ 11 → (s.busy s.target ≡ 1 → ⊥) → T (not (all_forbidden s)) → T (sound (applied s (phase≔ i 10 ∷ target≔ no_target ∷ [])))
  unfolding rows
  to_10 e quiet a =
      let r = not-every (λ x. eqb (s.forbidden x) 1) s.threads a in
      holds_on s z i l 11 e tt 10 no_target (update s.phase i 10) s.forbidden (put s.phase i 10) tt refl z.flags
      (stage_10 (applied s (phase≔ i 10 ∷ target≔ no_target ∷ [])) refl
      (r.0, r.1, bit_0 (s.forbidden r.0) (z.flags r.0 r.1) (T_ne (s.forbidden r.0) 1 r.2))
      (λ j k f u. settled e quiet j k f (read-before s z i l 10 tt j u)))

  gives_up : s.phase i ≡ 12 → T (sound (applied s (phase≔ i 10 ∷ forbidden≔ s.target 0 ∷ target≔ no_target ∷ [])))
  unfolding rows
  gives_up e =
      let r = z.has_target i l (in_phase_lem s z i l 12 e tt 11 12 tt) in
      let w = put s.forbidden s.target 0 in
      holds_on s z i l 12 e tt 10 no_target (update s.phase i 10) (update s.forbidden s.target 0) (put s.phase i 10) tt refl (flags_after s z i l s.target 0 (omega arith))
      (stage_10 (applied s (phase≔ i 10 ∷ forbidden≔ s.target 0 ∷ target≔ no_target ∷ [])) refl (s.target, r.0, w.here)
      (λ j k f u.
      let b = put_back_lem (λ x. x ≡ 1) s.forbidden (update s.forbidden s.target 0) s.target 0 w (λ o. omega arith) j f in
      z.guarded_11 i l (in_phase_lem s z i l 12 e tt 11 12 tt) j k b.0 b.1 (read-before s z i l 10 tt j u)))

  to_14 : s.phase i ≡ 13 → T (sound (applied s (phase≔ i 14 ∷ [])))
  unfolding rows
  to_14 e =
      let at = in_phase_lem s z i l 13 e tt 13 14 tt in
      holds_on s z i l 13 e tt 14 s.target (update s.phase i 14) s.forbidden (put s.phase i 14) tt refl z.flags
      (stage_13 (applied s (phase≔ i 14 ∷ [])) 14 tt (idle_target s z i l 13 e tt tt) (z.all-forbidden i l at) (λ j k u. z.no_reader i l at j k (read-before s z i l 14 tt j u)))

  to_15 : s.phase i ≡ 14 → T (sound (applied s (phase≔ i 15 ∷ [])))
  unfolding rows
  to_15 e =
      holds_on s z i l 14 e tt 15 s.target (update s.phase i 15) s.forbidden (put s.phase i 15) tt refl z.flags
      (stage_15 (applied s (phase≔ i 15 ∷ [])) (idle_target s z i l 14 e tt tt) (i, l, z.all-forbidden i l (in_phase_lem s z i l 14 e tt 13 14 tt) i l))

  -- a holder that keeps no thread out lets the mutex go
  releases : (p v : ℕ) → s.phase i ≡ p → T (opened p) → T (not (holds v)) → (T (backed_off v) → ⊥) → v ≤ last_phase → busy_in p ≡ busy_in v → T (sound (applied s (phase≔ i v ∷ mutex≔ 0 ∷ [])))
  releases p v e o nv away fit eb =
      lets_go s z i l p v e (opened-holds p o) (not_i (between 11 12 p) (λ t. opened_apart 11 12 p (omega arith) t o))
      (z.open_held i l (subst (λ (q : ℕ). T (opened q)) (sym e) o))
      nv (λ b. absurd (away b)) fit eb

  sets : (t : ℕ) → s.phase i ≡ 10 → t < s.threads → T (sound (applied s (phase≔ i 11 ∷ forbidden≔ t 1 ∷ target≔ t ∷ [])))
  unfolding rows
  sets t e f =
      let w = put s.forbidden t 1 in
      holds_on s z i l 10 e tt 11 t (update s.phase i 11) (update s.forbidden t 1) (put s.phase i 11) tt refl (flags_after s z i l t 1 (omega arith))
      (stage_11 (applied s (phase≔ i 11 ∷ forbidden≔ t 1 ∷ target≔ t ∷ [])) 11 tt f w.here
      (λ j k h o u. z.guarded_10 i l (in_phase_lem s z i l 10 e tt 10 10 tt) j k (sym (w.others j h) ∙ o) (read-before s z i l 11 tt j u)))

  pub sets_again : (t : ℕ) → s.phase i ≡ 15 → t < s.threads → T (sound (applied s (forbidden≔ t 1 ∷ [])))
  unfolding rows
  sets_again t e f =
      holds_on s z i l 15 e tt 15 s.target s.phase (update s.forbidden t 1) (keep s.phase i 15 e) tt refl (flags_after s z i l t 1 (omega arith))
      (stage_15 (applied s (forbidden≔ t 1 ∷ [])) (idle_target s z i l 15 e tt tt) (t, f, (put s.forbidden t 1).here))

  clears_last : (t : ℕ) → s.phase i ≡ 15 → t < s.threads → T (none_forbidden_but t s) → T (sound (applied s (forbidden≔ t 0 ∷ phase≔ i 16 ∷ [])))
  unfolding rows
  clears_last t e f a =
      holds_on s z i l 15 e tt 16 s.target (update s.phase i 16) (update s.forbidden t 0) (put s.phase i 16) tt refl (flags_after s z i l t 0 (omega arith))
      (stage_opened (applied s (forbidden≔ t 0 ∷ phase≔ i 16 ∷ [])) 16 tt (idle_target s z i l 15 e tt tt) (λ j k. clears_all j k (same? j t)) (λ b. absurd b))
    where
      clears_all : (j : ℕ) → j < s.threads → (j ≡ t) ⊎ (j ≡ t → ⊥) → update s.forbidden t 0 j ≡ 0
      clears_all j k (inl q) = update_same s.forbidden t 0 j q
      clears_all j k (inr h) =
          update_other s.forbidden t 0 j h
          ∙ ⊎_elim (λ u. absurd (h (eqb→eq j t u))) (λ u. eqb→eq (s.forbidden j) 0 u)
          (or_e (eqb j t) (eqb (s.forbidden j) 0) (every_at (λ x. eqb x t || eqb (s.forbidden x) 0) s.threads a j k))

  pub clears : (t : ℕ) → s.phase i ≡ 15 → t < s.threads → T (not (none_forbidden_but t s)) → T (sound (applied s (forbidden≔ t 0 ∷ [])))
  unfolding rows
  clears t e f a =
      let r = not-every (λ x. eqb x t || eqb (s.forbidden x) 0) s.threads a in
      let j = r.0 in
      let other : j ≡ t → ⊥ = λ q. no_both (eqb j t || eqb (s.forbidden j) 0) (or_l (eqb j t) (eqb (s.forbidden j) 0) (eq_T j t q)) r.2 in
      let not-0 : s.forbidden j ≡ 0 → ⊥ = λ q. no_both (eqb j t || eqb (s.forbidden j) 0) (or_r (eqb j t) (eqb (s.forbidden j) 0) (eq_T (s.forbidden j) 0 q)) r.2 in
      holds_on s z i l 15 e tt 15 s.target s.phase (update s.forbidden t 0) (keep s.phase i 15 e) tt refl (flags_after s z i l t 0 (omega arith))
      (stage_15 (applied s (forbidden≔ t 0 ∷ [])) (idle_target s z i l 15 e tt tt) (j, r.1, update_other s.forbidden t 0 j other ∙ bit_1 (s.forbidden j) (z.flags j r.1) not-0))

  -- ---- the ways

  kept : (mv t : ℕ) {x : Effect} → Way s i mv t x → T (sound (applied s x.writes))
  unfolding rows
  kept mv t (call_shared_lem e) = phase-moves s z i l _ _ e tt tt (λ r. absurd r) (λ b. absurd b) (omega arith) refl
  kept mv t (call_exclusive_lem e) = phase-moves s z i l _ _ e tt tt (λ r. absurd r) (λ b. absurd b) (omega arith) refl
  kept mv t (raise_busy e) = busy-moves s z i l _ _ _ e tt tt (λ r. absurd r) (λ b. absurd b) (omega arith) refl
  kept mv t (find_open e f) = phase-moves s z i l _ _ e tt tt (λ r. inr f) (λ b. absurd b) (omega arith) refl
  kept mv t (find-forbidden e f) = phase-moves s z i l _ _ e tt tt (λ r. absurd r) (λ b. kept_out e f) (omega arith) refl
  kept mv t (back_off e) = busy-moves s z i l _ _ _ e tt tt (λ r. absurd r) (λ b. other_elsewhere s z i l _ e tt) (omega arith) refl
  kept mv t (try_again e) = phase-moves s z i l _ _ e tt tt (λ r. absurd r) (λ b. absurd b) (omega arith) refl
  kept mv t (enter-shared e) = phase-moves s z i l _ _ e tt tt (λ r. inl tt) (λ b. absurd b) (omega arith) refl
  kept mv t (leave_shared e) = phase-moves s z i l _ _ e tt tt (λ r. inl tt) (λ b. absurd b) (omega arith) refl
  kept mv t (lower_busy e) = busy-moves s z i l _ _ _ e tt tt (λ r. absurd r) (λ b. absurd b) (omega arith) refl
  kept mv t (return_shared e) = phase-moves s z i l _ _ e tt tt (λ r. absurd r) (λ b. absurd b) (omega arith) refl
  kept mv t (return_exclusive e) = phase-moves s z i l _ _ e tt tt (λ r. absurd r) (λ b. absurd b) (omega arith) refl
  kept mv t (take-mutex m e f) = writer-takes f e
  kept mv t (hold-mutex m e f) = reader-takes f e
  kept mv t (find-busy e f) = to_12 e
  kept mv t (relents e) = to_12 e
  kept mv t (last-flag e f a) = to_13 e f a
  kept mv t (next-flag e f a) = to_10 e f a
  kept mv t (give_up e) = gives_up e
  kept mv t (enter-exclusive e) = to_14 e
  kept mv t (leave_exclusive e) = to_15 e
  kept mv t (release_mutex m e) = releases _ _ e tt tt (λ b. absurd b) (omega arith) refl
  kept mv t (give_back m e) = releases _ _ e tt tt (λ b. absurd b) (omega arith) refl
  kept mv t (set-flag e f) = sets t e f
  kept mv t (set_again e f) = sets_again t e f
  kept mv t (clear_last e f a) = clears_last t e f a
  kept mv t (clear_flag e f a) = clears t e f a

pub kept-sound : (s : Table) (r : Request) → T (accepts s r) → T (sound (applied s (effect s r).writes))
kept-sound s r e = let a = accepted_e s r e in kept s (sound_e s a.is_sound) r.thread a.thread-fits r.mv r.target (way s r a)

pub step-sound : (s : Table) (r : Request) → T (sound s) → T (sound (step s r))
unfolding step
step-sound s r z = by (decided (accepts s r))
  where
    by : T (accepts s r) ⊎ T (not (accepts s r)) → T (sound (leaves (step_reply s r) (applied s (effect s r).writes) s))
    by (inl t) = subst (λ (x : Table). T (sound x)) (sym (leaves-yes (applied s (effect s r).writes) s (step_reply s r) t)) (kept-sound s r t)
    by (inr t) = subst (λ (x : Table). T (sound x)) (sym (leaves_no (applied s (effect s r).writes) s (step_reply s r) t)) z
