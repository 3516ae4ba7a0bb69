-- Where an accepted move writes, write by write: `may_make`, with a line for each way. What a storage, the discipline and the rules ask of a move's writes follows from it.
use Prim.Native.Nat.{ℕ, ◌<◌}
use mathlib.Core.Bool.{Bool, true, false, cond}
use mathlib.Core.List.{List, [], ◌∷◌}
use mathlib.Core.Path.{◌≡◌, refl, sym, subst, subst⁻¹, ap, ◌∙◌}
use lib.Dec.{T, ltb, eqb, ltb→lt}
use Rattle.definitions.specs.Codes.{go, set_move, clear_move}
use Rattle.definitions.specs.Moves.{Effect, names_thread, effect, accepts}
use Rattle.definitions.specs.Phases.{rows, has_move}
use Rattle.definitions.specs.Table.{Table, Write, mutex≔, target≔, phase≔, busy≔, forbidden≔}
use Rattle.definitions.specs.Threads.{between}
use Rattle.definitions.specs.declared.Request.{Request}
use Rattle.theory.specs.Statements.{subject_by, subject_of, MayMake, MayMakeAll}
use Rattle.theory.specs.Tables.{WriteFits, WritesFit}
use Rattle.basics.proofs.Cases.{or_at, none_of}
use Rattle.theory.proofs.Soundness.{sound_e}
use Rattle.theory.proofs.Ways.{Accepted, accepted_e, Way, way}
use Rattle.theory.proofs.Ways.{call_shared_lem, raise_busy, find_open, find-forbidden, back_off, try_again, hold-mutex, give_back, enter-shared, leave_shared, lower_busy, return_shared}
use Rattle.theory.proofs.Ways.{call_exclusive_lem, take-mutex, set-flag, find-busy, last-flag, next-flag, relents, give_up, enter-exclusive, leave_exclusive}
use Rattle.theory.proofs.Ways.{set_again, clear_flag, clear_last, release_mutex, return_exclusive}

-- ---- the subject

-- by the move and the mover's phase
pub subject-by : (s : Table) (r : Request) (mv k : ℕ) → r.mv ≡ mv → s.phase r.thread ≡ k
    → subject_of s r ≡ cond (names_thread mv) r.target (cond (between 11 12 k) s.target r.thread)
unfolding subject_by
subject-by s r mv k e p =
    ap (λ (m : ℕ). cond (names_thread m) r.target (cond (between 11 12 (s.phase r.thread)) s.target r.thread)) e
    ∙ ap (λ (x : ℕ). cond (names_thread mv) r.target (cond (between 11 12 x) s.target r.thread)) p

-- it is a thread
chosen : (names waits : Bool) (n t m i : ℕ) → T (cond names (ltb t n) (eqb t 0)) → i < n → (T waits → m < n) → cond names t (cond waits m i) < n
chosen true waits n t m i fits l h = ltb→lt t n fits
chosen false true n t m i fits l h = h tt
chosen false false n t m i fits l h = l

pub subject-thread : (s : Table) (r : Request) → T (accepts s r) → subject_of s r < s.threads
unfolding subject_by
subject-thread s r t =
    let a = accepted_e s r t in
    chosen (names_thread r.mv) (between 11 12 (s.phase r.thread)) s.threads r.target s.target r.thread a.target_fits_lem a.thread-fits
    (λ w. ((sound_e s a.is_sound).has_target r.thread a.thread-fits w).0)

-- ---- the writes

module _ (s : Table) (r : Request) (a : Accepted s r) where
  -- the move is one of those of the phase
  has : (k : ℕ) → s.phase r.thread ≡ k → T (has_move r.mv k)
  has k e = subst (λ (p : ℕ). T (has_move r.mv p)) e a.has_move_lem

  -- in phase 12 it is the table's target
  of_table : s.phase r.thread ≡ 12 → s.target ≡ subject_of s r
  unfolding rows
  of_table e = or_at r.mv go [] (λ m. sym (subject-by s r go 12 m e)) (none_of r.mv) (has 12 e)

  -- in 10 and 15 it is the request's
  of_request_10 : s.phase r.thread ≡ 10 → r.target ≡ subject_of s r
  unfolding rows
  of_request_10 e = or_at r.mv set_move [] (λ m. sym (subject-by s r set_move 10 m e)) (none_of r.mv) (has 10 e)

  of_request_15 : s.phase r.thread ≡ 15 → r.target ≡ subject_of s r
  unfolding rows
  of_request_15 e =
      or_at r.mv set_move _ (λ m. sym (subject-by s r set_move 15 m e)) (or_at r.mv clear_move [] (λ m. sym (subject-by s r clear_move 15 m e)) (none_of r.mv)) (has 15 e)

  makes : {e : Effect} → Way s r.thread r.mv r.target e → MayMakeAll s r e.writes
  makes (call_shared_lem e) = (refl, tt)
  makes (call_exclusive_lem e) = (refl, tt)
  makes (raise_busy e) = (refl, (refl, tt))
  makes (find_open e f) = (refl, tt)
  makes (find-forbidden e f) = (refl, tt)
  makes (back_off e) = (refl, (refl, tt))
  makes (try_again e) = (refl, tt)
  makes (hold-mutex m e f) = (refl, (rw (m, e) tt, tt))
  makes (give_back m e) = (refl, (rw (m, e) tt, tt))
  makes (enter-shared e) = (refl, tt)
  makes (leave_shared e) = (refl, tt)
  makes (lower_busy e) = (refl, (refl, tt))
  makes (return_shared e) = (refl, tt)
  makes (take-mutex m e f) = (refl, (rw (m, e) tt, tt))
  makes (find-busy e f) = (refl, tt)
  makes (last-flag e f g) = (refl, (rw e tt, tt))
  makes (next-flag e f g) = (refl, (rw e tt, tt))
  makes (give_up e) = (refl, ((of_table e, rw e tt), (rw e tt, tt)))
  makes (enter-exclusive e) = (refl, tt)
  makes (leave_exclusive e) = (refl, tt)
  makes (release_mutex m e) = (refl, (rw (m, e) tt, tt))
  makes (return_exclusive e) = (refl, tt)
  makes (set-flag e f) = (refl, ((of_request_10 e, rw e tt), (rw e tt, tt)))
  makes (set_again e f) = ((of_request_15 e, rw e tt), tt)
  makes (clear_last e f g) = ((of_request_15 e, rw e tt), (refl, tt))
  makes (clear_flag e f g) = ((of_request_15 e, rw e tt), tt)
  makes (relents e) = (refl, tt)

pub may_make : (s : Table) (r : Request) → T (accepts s r) → MayMakeAll s r (effect s r).writes
may_make s r t = let a = accepted_e s r t in makes s r a (way s r a)

-- so a move writes only to threads below N
fits_one : (s : Table) (r : Request) → r.thread < s.threads → subject_of s r < s.threads → (w : Write) → MayMake s r w → WriteFits s.threads w
fits_one s r i t (mutex≔ v) m = tt
fits_one s r i t (target≔ v) m = tt
fits_one s r i t (phase≔ j v) m = subst⁻¹ (λ (k : ℕ). k < s.threads) m i
fits_one s r i t (busy≔ j v) m = subst⁻¹ (λ (k : ℕ). k < s.threads) m i
fits_one s r i t (forbidden≔ j v) m = subst⁻¹ (λ (k : ℕ). k < s.threads) m.0 t

fits_all : (s : Table) (r : Request) → r.thread < s.threads → subject_of s r < s.threads → (ws : List Write) → MayMakeAll s r ws → WritesFit s.threads ws
fits_all s r i t [] m = tt
fits_all s r i t (w ∷ ws) m = (fits_one s r i t w m.0, fits_all s r i t ws m.1)

pub writes_fit : (s : Table) (r : Request) → T (accepts s r) → WritesFit s.threads (effect s r).writes
writes_fit s r t = fits_all s r (accepted_e s r t).thread-fits (subject-thread s r t) (effect s r).writes (may_make s r t)

-- ---- the writes as the code makes them: the few bytes of mover and subject, loaded and stored

-- a write of mover i with subject t
abbrev pub WithinOne : ℕ → ℕ → Write → Type 0
WithinOne i t (mutex≔ v) = Unit {0}
WithinOne i t (target≔ v) = Unit {0}
WithinOne i t (phase≔ j v) = j ≡ i
WithinOne i t (busy≔ j v) = j ≡ i
WithinOne i t (forbidden≔ j v) = j ≡ t

abbrev pub Within : ℕ → ℕ → List Write → Type 0
Within i t [] = Unit {0}
Within i t (w ∷ ws) = WithinOne i t w × Within i t ws

module _ (s : Table) (r : Request) where
  within_one : (w : Write) → MayMake s r w → WithinOne r.thread (subject_of s r) w
  within_one (mutex≔ v) m = tt
  within_one (target≔ v) m = tt
  within_one (phase≔ j v) m = m
  within_one (busy≔ j v) m = m
  within_one (forbidden≔ j v) m = m.0

  within : (ws : List Write) → MayMakeAll s r ws → Within r.thread (subject_of s r) ws
  within [] m = tt
  within (w ∷ ws) m = (within_one w m.0, within ws m.1)

pub effect-within : (s : Table) (r : Request) → T (accepts s r) → Within r.thread (subject_of s r) (effect s r).writes
effect-within s r t = within s r (effect s r).writes (may_make s r t)
