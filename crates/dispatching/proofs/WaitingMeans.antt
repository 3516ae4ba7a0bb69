-- What waiting means (02 §8): in a sound table in which no thread has a turn, a writer in 11 has a target in Shared, a thread in EE finds the mutex taken,
-- and every thread is in 0, 4, 6, 9, 11 or 14 (`no_turn_means`). So a mutex that is taken is held by a writer in 11 or 14 (`no_turn_holder`),
-- and where some thread isn't Free the host has a move that is no call (`no_turn_host`).
-- A table for which the dispatcher answers waiting is such a table (`waiting_means`, `waiting-holder`, `waiting_host`).
use Prim.Native.Nat.{ℕ, suc, ◌≤◌, ◌<◌}
use native.Mathlib.Omega.{arith}
use mathlib.Core.Bool.{not, ◌&&◌}
use mathlib.Core.List.{List, [], ◌∷◌}
use mathlib.Core.Logic.{◌⊎◌, inl, inr, ⊎_elim}
use mathlib.Core.Path.{◌≡◌, sym, ◌∙◌}
use lib.Dec.{T, eqb, eqb→eq}
use Rattle.definitions.specs.Answers.{accepted}
use Rattle.definitions.specs.Bounds.{last_phase}
use Rattle.definitions.specs.Codes.{Free, Shared, EE}
use Rattle.definitions.specs.Dispatch.{is_waiting, waiting, dispatch_reply}
use Rattle.definitions.specs.Phases.{rows, node_of, busy_in, holds}
use Rattle.definitions.specs.Sound.{any_holder}
use Rattle.definitions.specs.Table.{Table, table_of}
use Rattle.definitions.specs.Threads.{every, among}
use Rattle.basics.proofs.Cases.{or_at, among_here}
use Rattle.basics.proofs.Quantifiers.{implied}
use Rattle.basics.proofs.Tests.{and_i, or_e, or_r, eq_T, ne_T, decided, no_both, same?}
use Rattle.theory.proofs.SoundChanges.{in_phase_lem}
use Rattle.theory.proofs.Soundness.{All, Some, Sound, some_in, none_in, sound_e}
use Rattle.dispatching.specs.Ready.{ready_by, ready}
use Rattle.dispatching.specs.Turns.{WaitsThere, host_phases, HostMoves}
use Rattle.dispatching.proofs.Choice.{waiting_none}
use Rattle.dispatching.proofs.TurnKinds.{mutex_free, target_calm}
use Rattle.dispatching.proofs.WaitingExactly.{waiting-says}

-- the phases of waiting threads
abbrev waiting_phases : List ℕ
waiting_phases = 0 ∷ 4 ∷ 6 ∷ 9 ∷ 11 ∷ 14 ∷ []

-- by trying the phases: in the others a thread is ready; of these a thread is busy in Shared alone; and EE is 9
else_ready : (mutex busy p : ℕ) → p ≤ last_phase → T (not (among p waiting_phases)) → T (ready_by mutex busy p)
unfolding ready_by every among
else_ready mutex busy p l = implied (λ q. not (among q waiting_phases)) (ready_by mutex busy) (suc last_phase) tt p (omega arith)

busy-shared : (p : ℕ) → p ≤ last_phase → T (among p waiting_phases) → busy_in p ≡ 1 → node_of p ≡ Shared
unfolding rows every among
busy-shared p l t b =
    eqb→eq (node_of p) Shared
    (implied (λ q. among q waiting_phases && eqb (busy_in q) 1) (λ q. eqb (node_of q) Shared) (suc last_phase) tt p (omega arith)
    (and_i (among p waiting_phases) (eqb (busy_in p) 1) t (eq_T (busy_in p) 1 b)))

in_9 : (p : ℕ) → p ≤ last_phase → node_of p ≡ EE → p ≡ 9
unfolding rows every
in_9 p l e = eqb→eq p 9 (implied (λ q. eqb (node_of q) EE) (λ q. eqb q 9) (suc last_phase) tt p (omega arith) (eq_T (node_of p) EE e))

-- a sound table in which no thread has a turn
module _ (s : Table) (z : Sound s) (none : T (is_waiting s)) where
  there : All s (λ j. T (among (s.phase j) waiting_phases))
  there j k =
      ⊎_elim (λ t. t) (λ t. absurd (no_both (ready s j) (else_ready s.mutex (s.busy s.target) (s.phase j) (z.phases j k) t) (waiting_none s z none j k)))
      (decided (among (s.phase j) waiting_phases))

  waits_in_11 : All s (λ i. s.phase i ≡ 11 → (s.target < s.threads) × (node_of (s.phase s.target) ≡ Shared))
  unfolding rows ready_by
  waits_in_11 i l e =
      let k = (z.has_target i l (in_phase_lem s z i l 11 e tt 11 12 tt)).0 in
      let busy : (s.busy s.target ≡ 1 → ⊥) → ⊥ = λ h. no_both (ready s i) (rw (e, target_calm s z i l e h) tt) (waiting_none s z none i l) in
      (k, busy-shared (s.phase s.target) (z.phases s.target k) (there s.target k) (sym (z.busies s.target k) ∙ ⊎_elim (λ b. b) (λ h. absurd (busy h)) (same? (s.busy s.target) 1)))

  waits_in_9 : All s (λ i. s.phase i ≡ 9 → s.mutex ≡ 1)
  unfolding ready_by
  waits_in_9 i l e = ⊎_elim (λ m. m) (λ h. absurd (no_both (ready s i) (rw (e, mutex_free s z h) tt) (waiting_none s z none i l))) (same? s.mutex 1)

  pub no_turn_means : All s (WaitsThere s)
  no_turn_means i l = record { in_11 = waits_in_11 i l; in_EE = λ e. waits_in_9 i l (in_9 (s.phase i) (z.phases i l) e); phases = there i l }

-- ---- where the mutex is, and where the host has a move

-- by trying the phases: of these the holder is in 11 or 14; a thread that isn't Free is before the mutex, in 11, or where the host has a move; Shared is one of the latter
holder_late : (p : ℕ) → p ≤ last_phase → T (among p waiting_phases) → T (holds p) → T (among p (11 ∷ 14 ∷ []))
unfolding rows every among
holder_late p l t u =
    implied (λ q. among q waiting_phases && holds q) (λ q. among q (11 ∷ 14 ∷ [])) (suc last_phase) tt p (omega arith) (and_i (among p waiting_phases) (holds p) t u)

not_free : (p : ℕ) → p ≤ last_phase → T (among p waiting_phases) → (node_of p ≡ Free → ⊥) → T (among p (9 ∷ 11 ∷ host_phases))
unfolding rows every among
not_free p l t other =
    implied (λ q. among q waiting_phases && not (eqb (node_of q) Free)) (λ q. among q (9 ∷ 11 ∷ host_phases)) (suc last_phase) tt p (omega arith)
    (and_i (among p waiting_phases) (not (eqb (node_of p) Free)) t (ne_T (node_of p) Free other))

shared_host : (p : ℕ) → p ≤ last_phase → node_of p ≡ Shared → T (among p host_phases)
unfolding rows every among
shared_host p l e = implied (λ q. eqb (node_of q) Shared) (λ q. among q host_phases) (suc last_phase) tt p (omega arith) (eq_T (node_of p) Shared e)

module _ (s : Table) (z : Sound s) (none : T (is_waiting s)) where
  all : All s (WaitsThere s)
  all = no_turn_means s z none

  -- the mutex is taken by a writer
  pub no_turn_holder : s.mutex ≡ 1 → Some s (λ h. T (among (s.phase h) (11 ∷ 14 ∷ [])))
  no_turn_holder m = by (decided (any_holder s))
    where
      by : T (any_holder s) ⊎ T (not (any_holder s)) → Some s (λ h. T (among (s.phase h) (11 ∷ 14 ∷ [])))
      by (inl t) = let (h, k, u) = some_in s holds t in (h, k, holder_late (s.phase h) (z.phases h k) (all h k).phases u)
      by (inr t) = let free = z.free (none_in s holds t) in absurd (omega arith)

  -- that writer in 11 has a target in Shared, and in 14 the host can leave
  by-writer : (h : ℕ) → h < s.threads → T (among (s.phase h) (11 ∷ 14 ∷ [])) → Some s (HostMoves s)
  unfolding among
  by-writer h k t =
      ⊎_elim
      (λ u. let (l, shared) = (all h k).in_11 (eqb→eq (s.phase h) 11 u) in (s.target, l, shared_host (s.phase s.target) (z.phases s.target l) shared))
      (λ u. (h, k, or_r (eqb (s.phase h) 4) (among (s.phase h) (6 ∷ 14 ∷ [])) (or_r (eqb (s.phase h) 6) (among (s.phase h) (14 ∷ [])) u)))
      (or_e (eqb (s.phase h) 11) (among (s.phase h) (14 ∷ [])) t)

  pub no_turn_host : (i : ℕ) → i < s.threads → (node_of (s.phase i) ≡ Free → ⊥) → Some s (HostMoves s)
  unfolding rows
  no_turn_host i l other =
      or_at (s.phase i) 9 _ (λ e. let (h, k, t) = no_turn_holder ((all i l).in_EE (rw e)) in by-writer h k t)
      (or_at (s.phase i) 11 _ (λ e. by-writer i l (among_here (s.phase i) 11 (14 ∷ []) e)) (λ t. (i, l, t)))
      (not_free (s.phase i) (z.phases i l) (all i l).phases other)

-- ---- a table for which the dispatcher answers waiting is such a table

module _ (table : List ℕ) (e : dispatch_reply table ≡ accepted waiting) where
  abbrev s : Table
  s = table_of table

  z : Sound s
  z = sound_e s (waiting-says table e).0.is_sound

  pub waiting_means : (i : ℕ) → i < s.threads → WaitsThere s i
  waiting_means = no_turn_means s z (waiting-says table e).1

  -- a mutex that is taken is held by a writer in 11 or 14
  pub waiting-holder : s.mutex ≡ 1 → Some s (λ h. T (among (s.phase h) (11 ∷ 14 ∷ [])))
  waiting-holder = no_turn_holder s z (waiting-says table e).1

  -- and where some thread isn't Free, the host has a move: some thread is in 4, 6 or 14
  pub waiting_host : (i : ℕ) → i < s.threads → (node_of (s.phase i) ≡ Free → ⊥) → Some s (HostMoves s)
  waiting_host = no_turn_host s z (waiting-says table e).1
