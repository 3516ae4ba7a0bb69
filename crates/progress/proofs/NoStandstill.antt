-- No table stands still (02 §7): in every sound table in which some thread isn't Free, some request that is no call is accepted.
-- It is one of the holder if the mutex is 1, and else one of the thread that isn't Free: go, or set where its phase has no go.
use Prim.Native.Nat.{ℕ, suc, ◌<◌}
use native.Mathlib.Omega.{arith}
use mathlib.Core.Bool.{false, not, ◌&&◌, ◌||◌}
use mathlib.Core.List.{List, [], ◌∷◌}
use mathlib.Core.Logic.{◌⊎◌, inl, inr, ⊎_elim}
use mathlib.Core.Path.{◌≡◌}
use lib.Dec.{T, eqb, eqb→eq, lt→ltb}
use Rattle.definitions.specs.Bounds.{last_phase}
use Rattle.definitions.specs.Codes.{Free, go, set_move}
use Rattle.definitions.specs.Moves.{ask, is_call, takes_mutex, must_wait}
use Rattle.definitions.specs.Phases.{rows, node_of, holds, has_move}
use Rattle.definitions.specs.Sound.{any_holder}
use Rattle.definitions.specs.Table.{Table, table_of, byte_table}
use Rattle.definitions.specs.Threads.{every, among, implies}
use Rattle.definitions.specs.declared.Request.{Request}
use Rattle.progress.specs.Progress.{CanMove}
use Rattle.theory.specs.Statements.{NotFree}
use Rattle.theory.specs.Tables.{SoundBytes}
use Rattle.basics.proofs.Quantifiers.{every_at}
use Rattle.basics.proofs.Tests.{and_l, and_r, or_e, not_i, T_ne, decided, implies_e}
use Rattle.theory.proofs.Bytes.{sized_e}
use Rattle.theory.proofs.Chains.{one, all_16}
use Rattle.theory.proofs.Soundness.{Sound, some_in, none_in, sound_e, sound_i}
use Rattle.theory.proofs.Storages.{accepts_i}
use Rattle.theory.proofs.Ways.{Accepted, accepted_i}

-- a phase whose node isn't Free has go or set, by trying the phases
has_one : (q : ℕ) → q < suc last_phase → (node_of q ≡ Free → ⊥) → T (has_move go q) ⊎ T (has_move set_move q)
unfolding rows every among
has_one q l busy =
    ⊎_elim (λ t. absurd (busy (eqb→eq (node_of q) Free t))) (or_e (has_move go q) (has_move set_move q))
    (or_e (eqb (node_of q) Free) (has_move go q || has_move set_move q) (every_at (λ p. eqb (node_of p) Free || (has_move go p || has_move set_move p)) (suc last_phase) tt q l))

-- the holder isn't Free, nor is it in 9, by trying the phases
holder-busy : (q : ℕ) → q < suc last_phase → T (holds q) → (node_of q ≡ Free → ⊥) × (q ≡ 9 → ⊥)
unfolding rows every
holder-busy q l t =
    let busy = not (eqb (node_of q) Free) in
    let apart = not (eqb q 9) in
    let both = implies_e (holds q) (busy && apart) (every_at (λ p. implies (holds p) (not (eqb (node_of p) Free) && not (eqb p 9))) (suc last_phase) tt q l) t in
    (T_ne (node_of q) Free (and_l busy apart both), T_ne q 9 (and_r busy apart both))

module _ (s : Table) (z : Sound s) where
  -- a request that is no call and is accepted
  abbrev Possible : Type 0
  Possible = (r : Request) × T (not (is_call r)) × Accepted s r

  -- thread w isn't Free, and isn't in 9 while the mutex is 1
  moves : (w : ℕ) → w < s.threads → (node_of (s.phase w) ≡ Free → ⊥) → (s.phase w ≡ 9 → s.mutex ≡ 1 → ⊥) → Possible
  moves w l busy free = ⊎_elim by-go by-set (has_one (s.phase w) (let h = z.phases w l in omega arith) busy)
    where
      waits : T (must_wait (s.phase w) s.mutex go) → ⊥
      waits t =
          let taking = takes_mutex (s.phase w) go in
          free (⊎_elim (eqb→eq (s.phase w) 9) (λ no. absurd no) (or_e (eqb (s.phase w) 9) false (and_l taking (eqb s.mutex 1) t))) (eqb→eq s.mutex 1 (and_r taking (eqb s.mutex 1) t))

      by-go : T (has_move go (s.phase w)) → Possible
      by-go has =
          (ask w go 0, tt, record { is_sound = sound_i s z; thread-fits = l; move-fits = omega arith; target_fits_lem = tt; has_move_lem = has; may_go_lem = not_i (must_wait (s.phase w) s.mutex go) waits })

      by-set : T (has_move set_move (s.phase w)) → Possible
      by-set has =
          (ask w set_move 0, tt, record { is_sound = sound_i s z; thread-fits = l; move-fits = omega arith; target_fits_lem = lt→ltb 0 s.threads (omega arith); has_move_lem = has; may_go_lem = tt })

  -- the holder, if there is one; else the mutex is 0, and thread i can go
  someone_moves : (i : ℕ) → i < s.threads → (node_of (s.phase i) ≡ Free → ⊥) → Possible
  someone_moves i l busy = by (decided (any_holder s))
    where
      by : T (any_holder s) ⊎ T (not (any_holder s)) → Possible
      by (inl t) =
          let (h, k, u) = some_in s holds t in
          let b = holder-busy (s.phase h) (let m = z.phases h k in omega arith) u in
          moves h k b.0 (λ e. absurd (b.1 e))
      by (inr t) = moves i l busy (λ e m. let free = z.free (none_in s holds t) in omega arith)

-- on bytes
pub no_standstill : (table : List ℕ) → SoundBytes table → (i : ℕ) → i < (table_of table).threads → NotFree table i → CanMove table
no_standstill table g i l busy =
    let s = table_of table in
    let (r, no_call, a) = someone_moves s (sound_e s g.is_sound) i l busy in
    (r, (all_16 s (r ∷ []) (sized_e table g.is_sized).most (one s r a).all-accepted).0, no_call, accepts_i byte_table table r g.is_sized (accepted_i s r a))
