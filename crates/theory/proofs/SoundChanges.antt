-- A sound table with one thread's bytes changed is sound again, whoever changes them, given what is asked of the table after it: those of a thread that is not the holder and stays so
-- (`outside_sound`), of the holder in another of its phases (`holds_on`), of a thread that becomes the holder (`takes-mutex`), and of a holder that no longer is (`lets_go`).
-- Every move is such a change, forwards (SoundSteps) and backwards (the crate completeness).
use Prim.Native.Nat.{ℕ, zero, suc, ◌≤◌, ◌<◌}
use native.Mathlib.Omega.{arith}
use mathlib.Core.Bool.{Bool, not}
use mathlib.Core.List.{[], ◌∷◌}
use mathlib.Core.Logic.{◌⊎◌, inl, inr, ⊎_elim}
use mathlib.Core.Path.{◌≡◌, refl, sym, subst, ap, ◌∙◌}
use lib.Dec.{T}
use Rattle.definitions.specs.Bounds.{last_phase, no_target}
use Rattle.definitions.specs.Phases.{busy_in, holds, reading}
use Rattle.definitions.specs.Sound.{sound, opened, backed_off}
use Rattle.definitions.specs.Table.{Table, mutex≔, phase≔, busy≔, update, applied}
use Rattle.definitions.specs.Threads.{between}
use Rattle.theory.proofs.PhaseCases.{holder-phase}
use Rattle.theory.proofs.Soundness.{All, Some, In, Holds, Reads, Elsewhere, Sound, sound_i}
use Rattle.theory.proofs.Stages.{range_holds, opened-holds, Fits, Stage, held-sound, nobody_sound}
use Rattle.basics.proofs.Tests.{decided, no_both, same?}
use Rattle.basics.proofs.Columns.{update_same, update_other}

-- ---- columns

-- g is f, but v at i
pub record Column (f : ℕ → ℕ) (i v : ℕ) (g : ℕ → ℕ) : Type 0 where
  pub here : g i ≡ v
  pub others : (j : ℕ) → (j ≡ i → ⊥) → g j ≡ f j

pub put : (f : ℕ → ℕ) (i v : ℕ) → Column f i v (update f i v)
put f i v = record { here = update_same f i v i refl; others = update_other f i v }

pub keep : (f : ℕ → ℕ) (i v : ℕ) → f i ≡ v → Column f i v f
keep f i v e = record { here = e; others = λ j h. refl }

-- what holds of v and of the other entries holds of all
pub put_all : (P : ℕ → ℕ → Type 0) (f g : ℕ → ℕ) (i v : ℕ) → Column f i v g → P i v → (j : ℕ) → P j (f j) → P j (g j)
put_all P f g i v w here j rest = by (same? j i)
  where
    by : (j ≡ i) ⊎ (j ≡ i → ⊥) → P j (g j)
    by (inl e) = subst (λ (k : ℕ). P k (g k)) (sym e) (subst (λ (x : ℕ). P i x) (sym w.here) here)
    by (inr h) = subst (λ (x : ℕ). P j x) (sym (w.others j h)) rest

-- an entry of g with a property that v lacks is an entry of f
pub put_back_lem : (P : ℕ → Type 0) (f g : ℕ → ℕ) (i v : ℕ) → Column f i v g → (P v → ⊥) → (j : ℕ) → P (g j) → (j ≡ i → ⊥) × P (f j)
put_back_lem P f g i v w lacks j t = by (same? j i)
  where
    by : (j ≡ i) ⊎ (j ≡ i → ⊥) → (j ≡ i → ⊥) × P (f j)
    by (inl e) = absurd (lacks (subst P (ap g e ∙ w.here) t))
    by (inr h) = (h, subst P (w.others j h) t)

-- ---- bits and phases

pub bit_0 : (x : ℕ) → x ≤ 1 → (x ≡ 1 → ⊥) → x ≡ 0
bit_0 zero k h = refl
bit_0 (suc zero) k h = absurd (h refl)
bit_0 (suc (suc x)) k h = absurd (omega arith)

pub bit_1 : (x : ℕ) → x ≤ 1 → (x ≡ 0 → ⊥) → x ≡ 1
bit_1 zero k h = absurd (h refl)
bit_1 (suc zero) k h = refl
bit_1 (suc (suc x)) k h = absurd (omega arith)

-- ---- the tables after a change

abbrev pub after : Table → ℕ → ℕ → (ℕ → ℕ) → (ℕ → ℕ) → (ℕ → ℕ) → Table
after s m g φ β F = record { threads = s.threads; mutex = m; target = g; phase = φ; busy = β; forbidden = F }

module _ (s : Table) (z : Sound s) (i : ℕ) (l : i < s.threads) where
  -- some thread but i is in none of 3, 4 and 18
  abbrev OtherElsewhere : Type 0
  OtherElsewhere = Some s (λ j. (j ≡ i → ⊥) × Elsewhere s j)

  -- so it is where i itself is in one of them
  pub other_elsewhere : (p : ℕ) → s.phase i ≡ p → T (backed_off p) → OtherElsewhere
  other_elsewhere p e b =
      let (j, k, n) = z.elsewhere in
      (j, k, ((λ q. no_both (backed_off p) b (subst (λ (y : ℕ). T (not (backed_off y))) (ap s.phase q ∙ e) n)), n))

  -- i goes to phase v
  pub elsewhere_after : (v : ℕ) (φ : ℕ → ℕ) → Column s.phase i v φ → (T (backed_off v) → OtherElsewhere) → Some s (λ j. T (not (backed_off (φ j))))
  elsewhere_after v φ w away =
      ⊎_elim
      (λ b. let (j, k, r) = away b in (j, k, subst (λ (y : ℕ). T (not (backed_off y))) (sym (w.others j r.0)) r.1))
      (λ n. (i, l, subst (λ (y : ℕ). T (not (backed_off y))) (sym w.here) n))
      (decided (backed_off v))

  -- i's busy follows its phase
  pub busy_at_lem : (p : ℕ) → s.phase i ≡ p → s.busy i ≡ busy_in p
  busy_at_lem p e = z.busies i l ∙ ap busy_in e

  fits_after : (v b m g : ℕ) (φ β F : ℕ → ℕ) → v ≤ last_phase → b ≡ busy_in v → Column s.phase i v φ → Column s.busy i b β → All s (λ j. F j ≤ 1)
      → Fits (after s m g φ β F)
  fits_after v b m g φ β F fit e wφ wβ flags =
      record {
        phases = λ j k. put_all (λ x p. p ≤ last_phase) s.phase φ i v wφ fit j (z.phases j k);
        flags = flags;
        busies = λ j k. by j k (same? j i);
      }
    where
      by : (j : ℕ) → j < s.threads → (j ≡ i) ⊎ (j ≡ i → ⊥) → β j ≡ busy_in (φ j)
      by j k (inl q) = ap β q ∙ (wβ.here ∙ (e ∙ ap busy_in (sym (ap φ q ∙ wφ.here))))
      by j k (inr h) = wβ.others j h ∙ (z.busies j k ∙ ap busy_in (sym (wφ.others j h)))

  -- ---- a thread that is not the holder and stays so

  module _ (p v : ℕ) (φ : ℕ → ℕ) (e : s.phase i ≡ p) (w : Column s.phase i v φ) (np : T (not (holds p))) (nv : T (not (holds v))) where
    -- the threads in phases that only the holder can be in are the same
    module _ (f : ℕ → Bool) (only : (q : ℕ) → T (f q) → T (holds q)) where
      back : (x : ℕ) → T (f (φ x)) → T (f (s.phase x))
      back x t = (put_back_lem (λ q. T (f q)) s.phase φ i v w (λ u. no_both (holds v) (only v u) nv) x t).1

      forth : ((x : ℕ) → x < s.threads → T (f (φ x)) → ⊥) → All s (λ x. T (f (s.phase x)) → ⊥)
      forth none x k t = by (same? x i)
        where
          by : (x ≡ i) ⊎ (x ≡ i → ⊥) → ⊥
          by (inl q) = no_both (holds p) (only p (subst (λ (y : ℕ). T (f y)) (ap s.phase q ∙ e) t)) np
          by (inr h) = none x k (subst (λ (y : ℕ). T (f y)) (sym (w.others x h)) t)

    -- a thread in 5 to 7 was there before, or its forbidden is 0
    read : (T (reading v) → T (reading p) ⊎ (s.forbidden i ≡ 0)) → (j : ℕ) → T (reading (φ j)) → Reads s j ⊎ (s.forbidden j ≡ 0)
    read reads j t = by (same? j i)
      where
        by : (j ≡ i) ⊎ (j ≡ i → ⊥) → Reads s j ⊎ (s.forbidden j ≡ 0)
        by (inl q) =
            ⊎_elim (λ u. inl (subst (λ (y : ℕ). T (reading y)) (sym (ap s.phase q ∙ e)) u)) (λ f. inr (ap s.forbidden q ∙ f))
            (reads (subst (λ (y : ℕ). T (reading y)) (ap φ q ∙ w.here) t))
        by (inr h) = inl (subst (λ (y : ℕ). T (reading y)) (w.others j h) t)

    outside_sound : (b : ℕ) (β : ℕ → ℕ) → (T (reading v) → T (reading p) ⊎ (s.forbidden i ≡ 0)) → (T (backed_off v) → OtherElsewhere) → v ≤ last_phase → b ≡ busy_in v
        → Column s.busy i b β → T (sound (after s s.mutex s.target φ β s.forbidden))
    outside_sound b β reads away fit eb wβ =
        let fits = fits_after v b s.mutex s.target φ β s.forbidden fit eb w wβ z.flags in
        sound_i (after s s.mutex s.target φ β s.forbidden)
        record {
          phases = fits.phases;
          flags = fits.flags;
          busies = fits.busies;
          one_holder = λ x k y m t u. z.one_holder x k y m (back holds (λ q u. u) x t) (back holds (λ q u. u) y u);
          held = λ x k t. z.held x k (back holds (λ q u. u) x t);
          free = λ none. z.free (forth holds (λ q u. u) none);
          has_target = λ x k t. z.has_target x k (back (between 11 12) (range_holds 11 12 (omega arith) (omega arith)) x t);
          no_target_lem = λ none. z.no_target_lem (forth (between 11 12) (range_holds 11 12 (omega arith) (omega arith)) none);
          open_free = λ none. z.open_free (forth holds (λ q u. u) none);
          open_held = λ x k t. z.open_held x k (back opened opened-holds x t);
          some_clear = λ x k t. z.some_clear x k (back (between 10 10) (range_holds 10 10 (omega arith) (omega arith)) x t);
          guarded_10 = λ x k t j n f r. ⊎_elim (z.guarded_10 x k (back (between 10 10) (range_holds 10 10 (omega arith) (omega arith)) x t) j n f) (λ c. clear j c f) (read reads j r);
          guarded_11 = λ x k t j n h f r. ⊎_elim (z.guarded_11 x k (back (between 11 12) (range_holds 11 12 (omega arith) (omega arith)) x t) j n h f) (λ c. clear j c f) (read reads j r);
          all-forbidden = λ x k t. z.all-forbidden x k (back (between 13 14) (range_holds 13 14 (omega arith) (omega arith)) x t);
          no_reader = λ x k t j n r.
              let stage = back (between 13 14) (range_holds 13 14 (omega arith) (omega arith)) x t in
              ⊎_elim (z.no_reader x k stage j n) (λ c. clear j c (z.all-forbidden x k stage j n)) (read reads j r);
          some-forbidden = λ x k t. z.some-forbidden x k (back (between 15 15) (range_holds 15 15 (omega arith) (omega arith)) x t);
          elsewhere = elsewhere_after v φ w away;
        }
      where
        clear : (j : ℕ) → s.forbidden j ≡ 0 → s.forbidden j ≡ 1 → ⊥
        clear j a b = omega arith

  -- one that writes its phase alone, and one that writes its busy too
  pub phase-moves : (p v : ℕ) → s.phase i ≡ p → T (not (holds p)) → T (not (holds v)) → (T (reading v) → T (reading p) ⊎ (s.forbidden i ≡ 0)) → (T (backed_off v) → OtherElsewhere)
      → v ≤ last_phase → busy_in p ≡ busy_in v → T (sound (applied s (phase≔ i v ∷ [])))
  phase-moves p v e np nv reads away fit eb =
      outside_sound p v (update s.phase i v) e (put s.phase i v) np nv (s.busy i) s.busy reads away fit (busy_at_lem p e ∙ eb) (keep s.busy i (s.busy i) refl)

  pub busy-moves : (p v b : ℕ) → s.phase i ≡ p → T (not (holds p)) → T (not (holds v)) → (T (reading v) → T (reading p) ⊎ (s.forbidden i ≡ 0)) → (T (backed_off v) → OtherElsewhere)
      → v ≤ last_phase → b ≡ busy_in v → T (sound (applied s (phase≔ i v ∷ busy≔ i b ∷ [])))
  busy-moves p v b e np nv reads away fit eb =
      outside_sound p v (update s.phase i v) e (put s.phase i v) np nv b (update s.busy i b) reads away fit eb (put s.busy i b)

  -- ---- the holder

  -- thread i, the holder if anyone is, goes to a phase v of the holder
  pub goes_to : (p v m g : ℕ) (φ F : ℕ → ℕ) → s.phase i ≡ p → All s (λ j. Holds s j → j ≡ i) → Column s.phase i v φ
      → T (holds v) → busy_in p ≡ busy_in v → m ≡ 1 → All s (λ j. F j ≤ 1)
      → Stage (after s m g φ s.busy F) v → T (sound (after s m g φ s.busy F))
  goes_to p v m g φ F e alone w t eb em flags stage =
      held-sound (after s m g φ s.busy F) i v
      record { is_thread = l; phase_is = w.here; holding = t; alone = λ j k u. by j k u (same? j i); locked = em }
      (fits_after v (s.busy i) m g φ s.busy F (holder-phase v t) (busy_at_lem p e ∙ eb) w (keep s.busy i (s.busy i) refl) flags)
      stage
    where
      by : (j : ℕ) → j < s.threads → T (holds (φ j)) → (j ≡ i) ⊎ (j ≡ i → ⊥) → j ≡ i
      by j k u (inl q) = q
      by j k u (inr h) = alone j k (subst (λ (y : ℕ). T (holds y)) (w.others j h) u)

  -- writing a flag keeps the flags 0 or 1
  pub flags_after : (t v : ℕ) → v ≤ 1 → All s (λ j. update s.forbidden t v j ≤ 1)
  flags_after t v fit j k =
      put_all (λ x f. f ≤ 1) s.forbidden (update s.forbidden t v) t v (put s.forbidden t v) fit j (z.flags j k)

  -- a thread in 5 to 7 was there before
  pub read-before : (v : ℕ) → T (not (reading v)) → (j : ℕ) → T (reading (update s.phase i v j)) → Reads s j
  read-before v nv j t =
      (put_back_lem (λ q. T (reading q)) s.phase (update s.phase i v) i v (put s.phase i v) (λ u. no_both (reading v) u nv) j t).1

  module _ (p : ℕ) (e : s.phase i ≡ p) (hp : T (holds p)) where
    pub in_phase_lem : (a b : ℕ) → T (between a b p) → In a b s i
    in_phase_lem a b t = subst (λ (y : ℕ). T (between a b y)) (sym e) t

    at_mutex_lem : Holds s i
    at_mutex_lem = subst (λ (y : ℕ). T (holds y)) (sym e) hp

    pub holder_alone : All s (λ j. Holds s j → j ≡ i)
    holder_alone j k u = z.one_holder j k i l u at_mutex_lem

    pub holder_locked : s.mutex ≡ 1
    holder_locked = z.held i l at_mutex_lem

    -- outside 11 and 12 there is no target
    pub idle_target : T (not (between 11 12 p)) → s.target ≡ no_target
    idle_target np =
        z.no_target_lem (λ j k t.
        let own = holder_alone j k (range_holds 11 12 (omega arith) (omega arith) (s.phase j) t) in
        no_both (between 11 12 p) (subst (λ (y : ℕ). T (between 11 12 y)) (ap s.phase own ∙ e) t) np)

    -- the holder's move that writes phase v, a column of flags and the target
    pub holds_on : (v g : ℕ) (φ F : ℕ → ℕ) → Column s.phase i v φ → T (holds v) → busy_in p ≡ busy_in v → All s (λ j. F j ≤ 1)
        → Stage (after s s.mutex g φ s.busy F) v → T (sound (after s s.mutex g φ s.busy F))
    holds_on v g φ F w t eb flags stage = goes_to p v s.mutex g φ F e holder_alone w t eb holder_locked flags stage

  -- the mutex isn't 1: nobody holds it, and no thread is kept out
  module _ (f : s.mutex ≡ 1 → ⊥) where
    pub nobody_holds : All s (λ j. Holds s j → ⊥)
    nobody_holds j k u = f (z.held j k u)

    pub idle : s.target ≡ no_target
    idle = z.no_target_lem (λ j k u. nobody_holds j k (range_holds 11 12 (omega arith) (omega arith) (s.phase j) u))

    -- a thread in phase p takes it and goes to phase v
    pub takes-mutex : (p v : ℕ) → s.phase i ≡ p → T (holds v) → busy_in p ≡ busy_in v → Stage (applied s (phase≔ i v ∷ mutex≔ 1 ∷ [])) v
        → T (sound (applied s (phase≔ i v ∷ mutex≔ 1 ∷ [])))
    takes-mutex p v e t eb stage =
        goes_to p v 1 s.target (update s.phase i v) s.forbidden e (λ j k u. absurd (nobody_holds j k u)) (put s.phase i v) t eb refl z.flags stage

  -- a holder lets the mutex go, with no thread kept out, and goes to a phase v that doesn't hold it
  pub lets_go : (p v : ℕ) → s.phase i ≡ p → T (holds p) → T (not (between 11 12 p)) → All s (λ j. s.forbidden j ≡ 0) → T (not (holds v)) → (T (backed_off v) → OtherElsewhere)
      → v ≤ last_phase → busy_in p ≡ busy_in v → T (sound (applied s (phase≔ i v ∷ mutex≔ 0 ∷ [])))
  lets_go p v e hp untargeted clear nv away fit eb =
      let w = put s.phase i v in
      nobody_sound (applied s (phase≔ i v ∷ mutex≔ 0 ∷ []))
      (fits_after v (s.busy i) 0 s.target (update s.phase i v) s.busy s.forbidden fit (busy_at_lem p e ∙ eb) w (keep s.busy i (s.busy i) refl) z.flags)
      (λ j k u. let b = put_back_lem (λ q. T (holds q)) s.phase (update s.phase i v) i v w (λ h. no_both (holds v) h nv) j u in b.0 (holder_alone p e hp j k b.1))
      refl
      (idle_target p e hp untargeted)
      clear
      (elsewhere_after v (update s.phase i v) w away)
