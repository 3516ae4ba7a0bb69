-- The steps back where no thread's own last move can be undone: by the holder's phase, and where there is no holder.
-- The holder goes back from 18 to 4 and from 16 to 9, with the flags set in 15 and cleared in 11; a thread in 17 goes back to 16; and where only threads in 0 and 3 are left, one in 0 to 17.
-- There the rule is used that not every thread is in 3, 4 and 18; in the other steps it is only kept.
use Prim.Native.Nat.{ℕ, suc, ◌+◌, ◌*◌, ◌≤◌, ◌<◌}
use native.Mathlib.Omega.{arith}
use mathlib.Core.Bool.{Bool, true, false, cond, not, ◌&&◌, ◌||◌}
use mathlib.Core.List.{[], ◌∷◌}
use mathlib.Core.Logic.{◌⊎◌, inl, inr, ⊎_elim}
use mathlib.Core.Path.{◌≡◌, refl, sym, subst, ap, ◌∙◌}
use lib.Dec.{T, leb, eqb, leb→le, lt→ltb, eqb→eq}
use Rattle.definitions.specs.Bounds.{last_phase, last_move, no_target}
use Rattle.definitions.specs.Codes.{go, set_move, clear_move, relent, hold}
use Rattle.definitions.specs.Moves.{ask, Effect, quietly, showing, all_forbidden, none_forbidden_but, go_effect, set_effect, clear_effect, effect, target_fits, must_wait}
use Rattle.definitions.specs.Phases.{rows, busy_in, holds, reading, has_move}
use Rattle.definitions.specs.Sound.{backed_off}
use Rattle.definitions.specs.Table.{Table, mutex≔, target≔, phase≔, forbidden≔, update, applied}
use Rattle.definitions.specs.Threads.{every, list_of, among, between, implies}
use Rattle.basics.proofs.Cases.{or_at, none_of, among_range}
use Rattle.basics.proofs.Columns.{update-kept, update_twice, update_same, update_other}
use Rattle.basics.proofs.FlagCounts.{flags_set, one_more, one_fewer}
use Rattle.basics.proofs.Quantifiers.{every_at, every_i, how_many-most}
use Rattle.basics.proofs.Tests.{and_i, T_true, T_false, not_i, or_e, or_l, or_r, eq_T, same?, implies_e}
use Rattle.theory.proofs.SoundChanges.{Column, put, keep, put_all, after, other_elsewhere, phase-moves, flags_after, read-before, in_phase_lem}
use Rattle.theory.proofs.SoundChanges.{holder_alone, holder_locked, idle_target, holds_on, idle, takes-mutex, lets_go}
use Rattle.theory.proofs.SoundSteps.{sets_again, clears}
use Rattle.theory.proofs.Soundness.{All, Holds, Reads, Sound}
use Rattle.theory.proofs.Stages.{Stage, stage_10, stage_11, stage_13, stage_15, stage_opened}
use Rattle.theory.proofs.Writes.{same-table}
use Rattle.completeness.proofs.Before.{Before, undoable, step_back}
use Rattle.completeness.proofs.Rank.{base, weight, holder_weight, weights, rank_at, Below, weights_phase, weights_flag}
use Rattle.completeness.proofs.Rank.{with_writer, none_backed_off, without_writer, writerless_kept, falls_held, falls_free}

-- ---- phases and flags, by trying them all

pub tried : (P : ℕ → ℕ → Bool) → T (every (suc last_phase) (λ p. every 2 (P p))) → (p f : ℕ) → p ≤ last_phase → f ≤ 1 → T (P p f)
tried P t p f k l = every_at (P p) 2 (every_at (λ q. every 2 (P q)) (suc last_phase) t p (omega arith)) f (omega arith)

-- a holder in 10 to 16 adds nothing as a thread
writer_weight : (n p f : ℕ) → T (between 10 16 p) → weight n p f ≡ 0
unfolding weight base list_of
writer_weight n p f t =
    or_at p 10 _ (λ e. rw e) (or_at p 11 _ (λ e. rw e) (or_at p 12 _ (λ e. rw e) (or_at p 13 _ (λ e. rw e)
    (or_at p 14 _ (λ e. rw e) (or_at p 15 _ (λ e. rw e) (or_at p 16 _ (λ e. rw e) (none_of p)))))))
    (among_range p 10 16 t)

-- where no own move can be undone, another flag doesn't add to its thread's weight
other_flag : (n p x y : ℕ) → p ≤ last_phase → x ≤ 1 → y ≤ 1 → T (not (undoable p x)) → weight n p y ≤ weight n p x
unfolding base weight every among
other_flag n p x y fit bit bit' t = by (eqb p 17)
  where
    least : T (every 2 (λ g. leb (base p g) (base p x)))
    least =
        implies_e (not (undoable p x)) (every 2 (λ g. leb (base p g) (base p x)))
        (tried (λ q f. implies (not (undoable q f)) (every 2 (λ g. leb (base q g) (base q f)))) tt p x fit bit) t

    by : (b : Bool) → cond b (3 * n + 6) (base p y) ≤ cond b (3 * n + 6) (base p x)
    by true = omega arith
    by false = leb→le (base p y) (base p x) (every_at (λ g. leb (base p g) (base p x)) 2 least y (omega arith))

-- no thread's own last move can be undone
abbrev pub Rest : Table → Type 0
Rest s = All s (λ j. T (not (undoable (s.phase j) (s.forbidden j))))

-- then what holds of every phase and forbidden that isn't undoable holds of every thread
pub at_rest : (s : Table) → Sound s → Rest s → (A B : ℕ → ℕ → Bool) → T (every (suc last_phase) (λ p. every 2 (λ f. implies (not (undoable p f)) (implies (A p f) (B p f)))))
    → All s (λ j. T (A (s.phase j) (s.forbidden j)) → T (B (s.phase j) (s.forbidden j)))
at_rest s z rest A B t j k a =
    let p = s.phase j in
    let f = s.forbidden j in
    let each = tried (λ p f. implies (not (undoable p f)) (implies (A p f) (B p f))) t p f (z.phases j k) (z.flags j k) in
    implies_e (A p f) (B p f) (implies_e (not (undoable p f)) (implies (A p f) (B p f)) each (rest j k)) a

-- ---- the holder

module _ (s : Table) (z : Sound s) (h : ℕ) (l : h < s.threads) (rest : Rest s) where
  abbrev n : ℕ
  n = s.threads

  abbrev F : ℕ → ℕ
  F = s.forbidden

  most : flags_set n F ≤ n
  most = how_many-most (λ x. eqb (F x) 1) n

  -- the holder, in phase p of 10 to 16, was in phase v of them
  module _ (p v : ℕ) (e : s.phase h ≡ p) (hp : T (holds p)) (from : T (between 10 16 p)) (to : T (between 10 16 v)) (φ : ℕ → ℕ) (w : Column s.phase h v φ) where
    others_out : All s (λ j. (j ≡ h → ⊥) → T (not (holds (φ j))))
    others_out j k o = not_i (holds (φ j)) (λ t. o (holder_alone s z h l p e hp j k (subst (λ (q : ℕ). T (holds q)) (w.others j o) t)))

    same_weights : weights n φ F ≡ weights n s.phase F
    same_weights =
        let sum = weights_phase n s.phase φ F h v l w in
        let before = ap (λ (q : ℕ). weight n q (F h)) e ∙ writer_weight n p (F h) from in
        let now = writer_weight n v (F h) to in
        omega arith

    -- the number falls with the flags as they were, or with one changed that adds no weight
    writer_falls : (m g : ℕ) (β G : ℕ → ℕ) → weights n φ G + holder_weight n (flags_set n G) v < weights n φ F + holder_weight n (flags_set n F) p → (b : ℕ) → Below s (suc b) → Below (after s m g φ β G) b
    unfolding rank_at
    writer_falls m g β G less =
        let here = ap (holder_weight n (flags_set n F)) e in
        falls_held s h v m g φ β G l w.here to others_out (omega (arith, same_weights))

    -- a flag changed doesn't add to its thread's weight
    flag_weight : (t x y : ℕ) → t < n → F t ≡ x → x ≤ 1 → y ≤ 1 → weight n (φ t) y ≤ weight n (φ t) x
    flag_weight t x y k e' bit bit' = by (same? t h)
      where
        by : (t ≡ h) ⊎ (t ≡ h → ⊥) → weight n (φ t) y ≤ weight n (φ t) x
        by (inl q) =
            let none : (f : ℕ) → weight n (φ t) f ≡ 0 = λ f. ap (λ (k : ℕ). weight n k f) (ap φ q ∙ w.here) ∙ writer_weight n v f to in
            omega (arith, none x, none y)
        by (inr o) =
            subst (λ (q : ℕ). weight n q y ≤ weight n q x) (sym (w.others t o))
            (other_flag n (s.phase t) x y (z.phases t k) bit bit' (subst (λ (f : ℕ). T (not (undoable (s.phase t) f))) e' (rest t k)))

    -- thread t's flag was set, or cleared
    set_falls : (t m g : ℕ) (β : ℕ → ℕ) → t < n → F t ≡ 0 → holder_weight n (flags_set n F + 1) v < holder_weight n (flags_set n F) p
        → (b : ℕ) → Below s (suc b) → Below (after s m g φ β (update F t 1)) b
    set_falls t m g β k down less =
        let count = ap (λ (x : ℕ). holder_weight n x v) (one_more n F t k down) in
        let before = ap (weight n (φ t)) down in
        writer_falls m g β (update F t 1) (omega (arith, weights_flag n φ F t 1 k, flag_weight t 0 1 k down (omega arith) (omega arith)))

    clear_falls : (t m g : ℕ) (β : ℕ → ℕ) → t < n → F t ≡ 1 → ((k : ℕ) → k + 1 ≡ flags_set n F → holder_weight n k v < holder_weight n (flags_set n F) p)
        → (b : ℕ) → Below s (suc b) → Below (after s m g φ β (update F t 0)) b
    clear_falls t m g β k up less =
        let before = ap (weight n (φ t)) up in
        let down = less (flags_set n (update F t 0)) (one_fewer n F t k up) in
        writer_falls m g β (update F t 0) (omega (arith, weights_flag n φ F t 0 k, flag_weight t 1 0 k up (omega arith) (omega arith)))

  -- ---- a flag changed in 16 and 15

  pub back_16 : s.phase h ≡ 16 → Before s
  unfolding rows among effect clear_effect holder_weight
  back_16 e =
      let t = applied s (phase≔ h 15 ∷ forbidden≔ h 1 ∷ []) in
      let clear = z.open_held h l (rw e tt) in
      let at : t.phase h ≡ 15 = update_same s.phase h 15 h refl in
      let none : T (none_forbidden_but h t) =
      every_i (λ j. eqb j h || eqb (update F h 1 j) 0) n (λ j k.
      ⊎_elim (λ q. or_l (eqb j h) _ (eq_T j h q)) (λ o. or_r (eqb j h) _ (eq_T (update F h 1 j) 0 (update_other F h 1 j o ∙ clear j k))) (same? j h)) in
      step_back s (phase≔ h 15 ∷ forbidden≔ h 1 ∷ []) h clear_move h 15 (quietly (forbidden≔ h 0 ∷ phase≔ h 16 ∷ [])) (l, (l, tt))
      (holds_on s z h l 16 e tt 15 s.target (update s.phase h 15) (update F h 1) (put s.phase h 15) tt refl (flags_after s z h l h 1 (omega arith))
      (stage_15 t (idle_target s z h l 16 e tt tt) (h, l, update_same F h 1 h refl)))
      l at (omega arith) (lt→ltb h n l) tt tt (rw (T_true (none_forbidden_but h t) none))
      (same-table _ s refl refl refl (update_twice s.phase h 15 16 ∙ update-kept s.phase h 16 e) refl (update_twice F h 1 0 ∙ update-kept F h 0 (clear h l)))
      (set_falls 16 15 e tt tt tt (update s.phase h 15) (put s.phase h 15) h s.mutex s.target s.busy l (clear h l) (omega arith))

  -- a thread's forbidden is 0: it was cleared
  pub back_15_clear : s.phase h ≡ 15 → (u : ℕ) → u < n → F u ≡ 0 → Before s
  unfolding rows among effect clear_effect holder_weight
  back_15_clear e u k down =
      let t = applied s (forbidden≔ u 1 ∷ []) in
      let (j, m, up) = z.some-forbidden h l (in_phase_lem s z h l 15 e tt 15 15 tt) in
      let other : j ≡ u → ⊥ = λ q. let same = ap F q in omega arith in
      let left : T (not (none_forbidden_but u t)) =
      not_i (none_forbidden_but u t) (λ all.
      ⊎_elim (λ q. other (eqb→eq j u q)) (λ q. let zero = sym (update_other F u 1 j other) ∙ eqb→eq (update F u 1 j) 0 q in omega arith)
      (or_e (eqb j u) (eqb (update F u 1 j) 0) (every_at (λ x. eqb x u || eqb (update F u 1 x) 0) n all j m))) in
      step_back s (forbidden≔ u 1 ∷ []) h clear_move u 15 (quietly (forbidden≔ u 0 ∷ [])) (k, tt)
      (sets_again s z h l u e k)
      l e (omega arith) (lt→ltb u n k) tt tt (rw (T_false (none_forbidden_but u t) left))
      (same-table _ s refl refl refl refl refl (update_twice F u 1 0 ∙ update-kept F u 0 down))
      (set_falls 15 15 e tt tt tt s.phase (keep s.phase h 15 e) u s.mutex s.target s.busy k down (omega (arith, most)))

  -- every forbidden is 1, and a thread is in 5: its flag was set again
  pub back_15_set : s.phase h ≡ 15 → All s (λ j. F j ≡ 1) → (t : ℕ) → t < n → s.phase t ≡ 5 → Before s
  unfolding rows among effect set_effect holder_weight weight base
  back_15_set e up t k at_5 =
      let apart : h ≡ t → ⊥ = λ q. let same = sym e ∙ (ap s.phase q ∙ at_5) in omega arith in
      let left : T (not (none_forbidden_but t s)) =
      not_i (none_forbidden_but t s) (λ all.
      ⊎_elim (λ q. apart (eqb→eq h t q)) (λ q. let zero = eqb→eq (F h) 0 q in let one = up h l in omega arith)
      (or_e (eqb h t) (eqb (F h) 0) (every_at (λ x. eqb x t || eqb (F x) 0) n all h l))) in
      step_back s (forbidden≔ t 0 ∷ []) h set_move t 15 (quietly (forbidden≔ t 1 ∷ [])) (k, tt)
      (clears s z h l t e k left)
      l e (omega arith) (lt→ltb t n k) tt tt (rw e)
      (same-table _ s refl refl refl refl refl (update_twice F t 0 1 ∙ update-kept F t 1 (up t k)))
      (writer_falls 15 15 e tt tt tt s.phase (keep s.phase h 15 e) s.mutex s.target s.busy (update F t 0)
      (let sum = rw (at_5, up t k) at (weights_flag n s.phase F t 0 k) in
      omega (arith, most, one_fewer n F t k (up t k))))

  -- ---- the flags as they are

  -- the holder, in phase p, was in phase v with target g
  module _ (p v g : ℕ) (e : s.phase h ≡ p) (hp : T (holds p)) (from : T (between 10 16 p)) (hv : T (holds v)) (to : T (between 10 16 v)) where
    abbrev earlier : Table
    earlier = applied s (phase≔ h v ∷ target≔ g ∷ [])

    phase_back : (mv : ℕ) (x : Effect) → mv ≤ last_move → T (target_fits n mv 0) → T (has_move mv v) → T (not (must_wait v s.mutex mv)) → (earlier.phase h ≡ v → effect earlier (ask h mv 0) ≡ x)
        → applied earlier x.writes ≡ s → busy_in p ≡ busy_in v → Stage earlier v → holder_weight n (flags_set n F) v < holder_weight n (flags_set n F) p → Before s
    phase_back mv x known target has free effects again same stage less =
        let at : earlier.phase h ≡ v = update_same s.phase h v h refl in
        step_back s (phase≔ h v ∷ target≔ g ∷ []) h mv 0 v x (l, (tt, tt))
        (holds_on s z h l p e hp v g (update s.phase h v) F (put s.phase h v) hv same z.flags stage)
        l at known target has free (effects at) again
        (writer_falls p v e hp from to (update s.phase h v) (put s.phase h v) s.mutex g s.busy F (omega arith))

    -- the move back to p writes its phase, and the target if it was another
    again : g ≡ s.target → applied earlier (phase≔ h p ∷ []) ≡ s
    again same = same-table _ s refl refl same (update_twice s.phase h v p ∙ update-kept s.phase h p e) refl refl

    again_untargeted : T (not (between 11 12 p)) → applied earlier (phase≔ h p ∷ target≔ no_target ∷ []) ≡ s
    again_untargeted np = same-table _ s refl refl (sym (idle_target s z h l p e hp np)) (update_twice s.phase h v p ∙ update-kept s.phase h p e) refl refl

  -- every forbidden is 1 and nobody in 5 to 7
  pub back_15 : s.phase h ≡ 15 → All s (λ j. F j ≡ 1) → All s (λ j. Reads s j → ⊥) → Before s
  unfolding rows among effect go_effect holder_weight
  back_15 e up none =
      phase_back 15 14 s.target e tt tt tt tt go (showing 7 (phase≔ h 15 ∷ [])) (omega arith) tt tt tt (λ at. rw at) (again 15 14 s.target e tt tt tt tt refl) refl
      (stage_13 _ 14 tt (idle_target s z h l 15 e tt tt) up (λ j k u. none j k (read-before s z h l 14 tt j u)))
      (omega (arith, most))

  pub back_14 : s.phase h ≡ 14 → Before s
  unfolding rows among effect go_effect holder_weight
  back_14 e =
      let here = in_phase_lem s z h l 14 e tt 13 14 tt in
      phase_back 14 13 s.target e tt tt tt tt go (showing 6 (phase≔ h 14 ∷ [])) (omega arith) tt tt tt (λ at. rw at) (again 14 13 s.target e tt tt tt tt refl) refl
      (stage_13 _ 13 tt (idle_target s z h l 14 e tt tt) (z.all-forbidden h l here) (λ j k u. z.no_reader h l here j k (read-before s z h l 13 tt j u)))
      (omega arith)

  -- the last target was the holder itself
  pub back_13 : s.phase h ≡ 13 → Before s
  unfolding rows among effect go_effect holder_weight
  back_13 e =
      let here = in_phase_lem s z h l 13 e tt 13 14 tt in
      let up = z.all-forbidden h l here in
      let quiet : s.busy h ≡ 0 = z.busies h l ∙ ap busy_in e in
      let all = T_true (all_forbidden s) (every_i (λ j. eqb (F j) 1) n (λ j k. eq_T (F j) 1 (up j k))) in
      phase_back 13 11 h e tt tt tt tt go (quietly (phase≔ h 13 ∷ target≔ no_target ∷ [])) (omega arith) tt tt tt (λ at. rw (at, quiet, all)) (again_untargeted 13 11 h e tt tt tt tt tt) refl
      (stage_11 _ 11 tt l (up h l) (λ j k o f u. z.no_reader h l here j k (read-before s z h l 11 tt j u)))
      (omega (arith, most))

  pub back_12 : s.phase h ≡ 12 → Before s
  unfolding rows among effect holder_weight
  back_12 e =
      let here = in_phase_lem s z h l 12 e tt 11 12 tt in
      let aim = z.has_target h l here in
      phase_back 12 11 s.target e tt tt tt tt relent (quietly (phase≔ h 12 ∷ [])) (omega arith) tt tt tt (λ at. refl) (again 12 11 s.target e tt tt tt tt refl) refl
      (stage_11 _ 11 tt aim.0 aim.1 (λ j k o f u. z.guarded_11 h l here j k o f (read-before s z h l 11 tt j u)))
      (omega arith)

  -- a thread's forbidden is 1: it was the last target, and its busy 0
  pub back_10_next : s.phase h ≡ 10 → (t : ℕ) → t < n → F t ≡ 1 → Before s
  unfolding rows among every effect go_effect holder_weight
  back_10_next e t k up =
      let here = in_phase_lem s z h l 10 e tt 10 10 tt in
      let out : T (not (reading (s.phase t))) = not_i (reading (s.phase t)) (z.guarded_10 h l here t k up) in
      let idle = at_rest s z rest (λ p f. eqb f 1 && not (reading p)) (λ p f. eqb (busy_in p) 0) tt t k (and_i (eqb (F t) 1) _ (eq_T (F t) 1 up) out) in
      let quiet : s.busy t ≡ 0 = z.busies t k ∙ eqb→eq (busy_in (s.phase t)) 0 idle in
      let (j, m, down) = z.some_clear h l here in
      let left = T_false (all_forbidden s) (not_i (all_forbidden s) (λ all. let one = eqb→eq (F j) 1 (every_at (λ x. eqb (F x) 1) n all j m) in omega arith)) in
      phase_back 10 11 t e tt tt tt tt go (quietly (phase≔ h 10 ∷ target≔ no_target ∷ [])) (omega arith) tt tt tt (λ at. rw (at, quiet, left)) (again_untargeted 10 11 t e tt tt tt tt tt) refl
      (stage_11 _ 11 tt k up (λ j m o f r. z.guarded_10 h l here j m f (read-before s z h l 11 tt j r)))
      (omega arith)

  -- ---- a flag changed in 11 and 10

  -- the target's flag was set
  pub back_11 : s.phase h ≡ 11 → Before s
  unfolding rows among effect set_effect holder_weight
  back_11 e =
      let q = s.target in
      let t = applied s (phase≔ h 10 ∷ forbidden≔ q 0 ∷ target≔ no_target ∷ []) in
      let at : t.phase h ≡ 10 = update_same s.phase h 10 h refl in
      let here = in_phase_lem s z h l 11 e tt 11 12 tt in
      let (k, up) = z.has_target h l here in
      step_back s (phase≔ h 10 ∷ forbidden≔ q 0 ∷ target≔ no_target ∷ []) h set_move q 10 (quietly (phase≔ h 11 ∷ forbidden≔ q 1 ∷ target≔ q ∷ [])) (l, (k, (tt, tt)))
      (holds_on s z h l 11 e tt 10 no_target (update s.phase h 10) (update F q 0) (put s.phase h 10) tt refl (flags_after s z h l q 0 (omega arith))
      (stage_10 t refl (q, k, update_same F q 0 q refl) (λ j m f u. guarded j m f (read-before s z h l 10 tt j u) (same? j q))))
      l at (omega arith) (lt→ltb q n k) tt tt (rw at)
      (same-table _ s refl refl refl (update_twice s.phase h 10 11 ∙ update-kept s.phase h 11 e) refl (update_twice F q 0 1 ∙ update-kept F q 1 up))
      (clear_falls 11 10 e tt tt tt (update s.phase h 10) (put s.phase h 10) q s.mutex no_target s.busy k up (λ x c. omega arith))
    where
      guarded : (j : ℕ) → j < n → update F s.target 0 j ≡ 1 → Reads s j → (j ≡ s.target) ⊎ (j ≡ s.target → ⊥) → ⊥
      guarded j m f r (inl q) = let zero = update_same F s.target 0 j q in omega arith
      guarded j m f r (inr o) = z.guarded_11 h l (in_phase_lem s z h l 11 e tt 11 12 tt) j m o (sym (update_other F s.target 0 j o) ∙ f) r

  -- every forbidden is 0, and a thread is in 3: it was the last target, and given up
  pub back_10_given_up : s.phase h ≡ 10 → All s (λ j. F j ≡ 0) → (t : ℕ) → t < n → s.phase t ≡ 3 → Before s
  unfolding rows among effect go_effect holder_weight weight base
  back_10_given_up e clear t k at-3 =
      let u = applied s (phase≔ h 12 ∷ forbidden≔ t 1 ∷ target≔ t ∷ []) in
      let at : u.phase h ≡ 12 = update_same s.phase h 12 h refl in
      let apart : t ≡ h → ⊥ = λ q. let same = sym at-3 ∙ (ap s.phase q ∙ e) in omega arith in
      step_back s (phase≔ h 12 ∷ forbidden≔ t 1 ∷ target≔ t ∷ []) h go 0 12 (quietly (phase≔ h 10 ∷ forbidden≔ t 0 ∷ target≔ no_target ∷ [])) (l, (k, (tt, tt)))
      (holds_on s z h l 10 e tt 12 t (update s.phase h 12) (update F t 1) (put s.phase h 12) tt refl (flags_after s z h l t 1 (omega arith))
      (stage_11 u 12 tt k (update_same F t 1 t refl) (λ j m o f r. let zero = update_other F t 1 j o ∙ clear j m in omega arith)))
      l at (omega arith) tt tt tt (rw at)
      (same-table _ s refl refl (sym (idle_target s z h l 10 e tt tt)) (update_twice s.phase h 12 10 ∙ update-kept s.phase h 10 e) refl (update_twice F t 1 0 ∙ update-kept F t 0 (clear t k)))
      (writer_falls 10 12 e tt tt tt (update s.phase h 12) (put s.phase h 12) s.mutex t s.busy (update F t 1)
      (let still = update_other s.phase h 12 t apart ∙ at-3 in
      let sum = rw (still, clear t k) at (weights_flag n (update s.phase h 12) F t 1 k) in
      let count = one_more n F t k (clear t k) in
      omega arith))

  -- the holder, in phase p, goes back to a phase v in which it isn't, with the mutex free
  module _ (p v : ℕ) (e : s.phase h ≡ p) (hp : T (holds p)) (nv : T (not (holds v))) where
    nobody_left : All s (λ j. T (not (holds (update s.phase h v j))))
    nobody_left j k = by (same? j h)
      where
        by : (j ≡ h) ⊎ (j ≡ h → ⊥) → T (not (holds (update s.phase h v j)))
        by (inl q) = subst (λ (x : ℕ). T (not (holds x))) (sym (update_same s.phase h v j q)) nv
        by (inr o) =
            subst (λ (x : ℕ). T (not (holds x))) (sym (update_other s.phase h v j o)) (not_i (holds (s.phase j)) (λ u. o (holder_alone s z h l p e hp j k u)))

  -- every forbidden is 0, and nobody is in 3
  pub back_10 : s.phase h ≡ 10 → All s (λ j. F j ≡ 0) → All s (λ j. s.phase j ≡ 3 → ⊥) → Before s
  unfolding rows among every effect go_effect holder_weight weight base rank_at
  back_10 e clear none =
      let t = applied s (phase≔ h 9 ∷ mutex≔ 0 ∷ []) in
      let at : t.phase h ≡ 9 = update_same s.phase h 9 h refl in
      step_back s (phase≔ h 9 ∷ mutex≔ 0 ∷ []) h go 0 9 (quietly (phase≔ h 10 ∷ mutex≔ 1 ∷ [])) (l, (tt, tt))
      (lets_go s z h l 10 9 e tt tt clear tt (λ b. absurd b) (omega arith) refl)
      l at (omega arith) tt tt tt (rw at)
      (same-table _ s refl (sym (holder_locked s z h l 10 e tt)) refl (update_twice s.phase h 9 10 ∙ update-kept s.phase h 10 e) refl refl)
      (falls_free s h 0 s.target (update s.phase h 9) s.busy F l (nobody_left 10 9 e tt tt)
      (let sum = rw e at (weights_phase n s.phase (update s.phase h 9) F h 9 l (put s.phase h 9)) in
      let here = ap (holder_weight n (flags_set n F)) e in
      let extra = none_backed_off n (update s.phase h 9) (λ j k b. away j k b (same? j h)) in
      omega arith))
    where
      away : (j : ℕ) → j < n → T (backed_off (update s.phase h 9 j)) → (j ≡ h) ⊎ (j ≡ h → ⊥) → ⊥
      away j k b (inl q) = subst (λ (x : ℕ). T (backed_off x)) (update_same s.phase h 9 j q) b
      away j k b (inr o) =
          let was = subst (λ (x : ℕ). T (backed_off x)) (update_other s.phase h 9 j o) b in
          let left = at_rest s z rest (λ p f. eqb f 0 && backed_off p) (λ p f. eqb p 3 || holds p) tt j k (and_i (eqb (F j) 0) _ (eq_T (F j) 0 (clear j k)) was) in
          ⊎_elim (λ u. none j k (eqb→eq (s.phase j) 3 u)) (λ u. o (holder_alone s z h l 10 e tt j k u)) (or_e (eqb (s.phase j) 3) (holds (s.phase j)) left)

  -- a reader at the mutex
  pub back_18 : s.phase h ≡ 18 → Before s
  unfolding rows among effect holder_weight weight base rank_at
  back_18 e =
      let t = applied s (phase≔ h 4 ∷ mutex≔ 0 ∷ []) in
      let at : t.phase h ≡ 4 = update_same s.phase h 4 h refl in
      let clear = z.open_held h l (rw e tt) in
      step_back s (phase≔ h 4 ∷ mutex≔ 0 ∷ []) h hold 0 4 (quietly (phase≔ h 18 ∷ mutex≔ 1 ∷ [])) (l, (tt, tt))
      (lets_go s z h l 18 4 e tt tt clear tt (λ b. other_elsewhere s z h l 18 e tt) (omega arith) refl)
      l at (omega arith) tt tt tt refl
      (same-table _ s refl (sym (holder_locked s z h l 18 e tt)) refl (update_twice s.phase h 4 18 ∙ update-kept s.phase h 18 e) refl refl)
      (falls_free s h 0 s.target (update s.phase h 4) s.busy F l (nobody_left 18 4 e tt tt)
      (let sum = rw (e, clear h l) at (weights_phase n s.phase (update s.phase h 4) F h 4 l (put s.phase h 4)) in
      let extra = writerless_kept n s.phase (update s.phase h 4) h 18 4 l e (put s.phase h 4) tt (λ b. tt) in
      omega arith))

-- ---- no holder

module _ (s : Table) (z : Sound s) (none : All s (λ j. Holds s j → ⊥)) (i : ℕ) (l : i < s.threads) where
  abbrev clear : All s (λ j. s.forbidden j ≡ 0)
  clear = z.open_free none

  abbrev unlocked : s.mutex ≡ 0
  unlocked = z.free none

  -- a writer that has let the mutex go
  pub back_17 : s.phase i ≡ 17 → Before s
  unfolding rows among effect go_effect holder_weight weight base rank_at
  back_17 e =
      let n = s.threads in
      let t = applied s (phase≔ i 16 ∷ mutex≔ 1 ∷ []) in
      let at : t.phase i ≡ 16 = update_same s.phase i 16 i refl in
      let not-1 : s.mutex ≡ 1 → ⊥ = λ q. let zero = unlocked in omega arith in
      step_back s (phase≔ i 16 ∷ mutex≔ 1 ∷ []) i go 0 16 (quietly (phase≔ i 17 ∷ mutex≔ 0 ∷ [])) (l, (tt, tt))
      (takes-mutex s z i l not-1 17 16 e tt refl (stage_opened t 16 tt (idle s z i l not-1) clear (λ b. absurd b)))
      l at (omega arith) tt tt tt (rw at)
      (same-table _ s refl (sym unlocked) refl (update_twice s.phase i 16 17 ∙ update-kept s.phase i 17 e) refl refl)
      (falls_held s i 16 1 s.target (update s.phase i 16) s.busy s.forbidden l at tt
      (λ j k o. subst (λ (x : ℕ). T (not (holds x))) (sym (update_other s.phase i 16 j o)) (not_i (holds (s.phase j)) (none j k)))
      (let sum = rw e at (weights_phase n s.phase (update s.phase i 16) s.forbidden i 16 l (put s.phase i 16)) in omega arith))

  -- a thread is in 3, and nobody in 17: this one, in 0, was in 17
  pub back_0 : s.phase i ≡ 0 → (t : ℕ) → t < s.threads → s.phase t ≡ 3 → All s (λ j. s.phase j ≡ 17 → ⊥) → Before s
  unfolding rows among every effect go_effect holder_weight weight base rank_at
  back_0 e t k at-3 no-17 =
      let n = s.threads in
      let u = applied s (phase≔ i 17 ∷ []) in
      let at : u.phase i ≡ 17 = update_same s.phase i 17 i refl in
      step_back s (phase≔ i 17 ∷ []) i go 0 17 (showing 8 (phase≔ i 0 ∷ [])) (l, tt)
      (phase-moves s z i l 0 17 e tt tt (λ r. absurd r) (λ b. absurd b) (omega arith) refl)
      l at (omega arith) tt tt tt (rw at)
      (same-table _ s refl refl refl (update_twice s.phase i 17 0 ∙ update-kept s.phase i 0 e) refl refl)
      (falls_free s i s.mutex s.target (update s.phase i 17) s.busy s.forbidden l nobody
      (let sum = rw e at (weights_phase n s.phase (update s.phase i 17) s.forbidden i 17 l (put s.phase i 17)) in
      let before = without_writer n s.phase t k (rw at-3 tt) no_writer in
      let after = with_writer n (update s.phase i 17) i l (rw at tt) in
      omega arith))
    where
      nobody : All s (λ j. T (not (holds (update s.phase i 17 j))))
      nobody j m =
          put_all (λ x q. T (not (holds q))) s.phase (update s.phase i 17) i 17 (put s.phase i 17) tt j (not_i (holds (s.phase j)) (none j m))

      no_writer : (j : ℕ) → j < s.threads → T (between 10 17 (s.phase j)) → ⊥
      no_writer j m b =
          ⊎_elim (λ u. no-17 j m (eqb→eq (s.phase j) 17 u)) (λ u. none j m u)
          (or_e (eqb (s.phase j) 17) (holds (s.phase j))
          (implies_e (between 10 17 (s.phase j)) _
          (tried (λ p f. implies (between 10 17 p) (eqb p 17 || holds p)) tt (s.phase j) 0 (z.phases j m) (omega arith)) b))
