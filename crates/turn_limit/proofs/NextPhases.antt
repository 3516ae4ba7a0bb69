-- Where an accepted move of a thread leads that is ready for a turn: to a phase behind its own (`next`), and past no flag that is set; the other threads stay in their phases (`next-phase`).
-- One line for each way.
use Prim.Native.Nat.{ℕ, suc, ◌<◌}
use native.Mathlib.Omega.{arith}
use mathlib.Core.Bool.{Bool, not}
use mathlib.Core.List.{List, [], ◌∷◌}
use mathlib.Core.Path.{◌≡◌, sym, subst}
use lib.Dec.{T, eqb, ltb, ltb→lt}
use lib.ListN.{get_or}
use Rattle.definitions.specs.Bounds.{last_phase}
use Rattle.definitions.specs.Moves.{Effect, effect}
use Rattle.definitions.specs.Table.{Table, update, applied}
use Rattle.definitions.specs.Threads.{every, among, implies}
use Rattle.definitions.specs.declared.Request.{Request}
use Rattle.dispatching.specs.Ready.{ready_by, ready}
use Rattle.basics.proofs.Quantifiers.{every_at, implied}
use Rattle.basics.proofs.Tests.{T_ne}
use Rattle.theory.proofs.SoundChanges.{Column, put, keep}
use Rattle.theory.proofs.Ways.{Accepted, Way, way}
use Rattle.theory.proofs.Ways.{call_shared_lem, raise_busy, find_open, find-forbidden, back_off, try_again, hold-mutex, give_back, enter-shared, leave_shared, lower_busy, return_shared}
use Rattle.theory.proofs.Ways.{call_exclusive_lem, take-mutex, set-flag, find-busy, last-flag, next-flag, relents, give_up, enter-exclusive, leave_exclusive}
use Rattle.theory.proofs.Ways.{set_again, clear_flag, clear_last, release_mutex, return_exclusive}

-- the phases behind each phase; in 0, 4, 6 and 14 no thread is ready
unfoldable pub next : ℕ → List ℕ
next phase =
    get_or ([] ∷ (2 ∷ []) ∷ (3 ∷ 5 ∷ []) ∷ (4 ∷ []) ∷ [] ∷ (6 ∷ []) ∷ [] ∷ (8 ∷ []) ∷ (0 ∷ []) ∷ (10 ∷ []) ∷ (11 ∷ []) ∷ (10 ∷ 12 ∷ 13 ∷ []) ∷ (10 ∷ []) ∷ (14 ∷ []) ∷ []
    ∷ (15 ∷ 16 ∷ []) ∷ (17 ∷ []) ∷ (0 ∷ []) ∷ (1 ∷ []) ∷ []) phase []

-- what holds of each phase and those behind it, by trying them
pub tried : (f : ℕ → ℕ → Bool) → T (every (suc last_phase) (λ p. every (suc last_phase) (λ v. implies (among v (next p)) (f p v))))
    → (p v : ℕ) → p < suc last_phase → v < suc last_phase → T (among v (next p)) → T (f p v)
tried f all p v l = implied (λ y. among y (next p)) (f p) (suc last_phase) (every_at (λ x. every (suc last_phase) (λ y. implies (among y (next x)) (f x y))) (suc last_phase) all p l) v

-- the phases φ after a move of thread i
pub record Next (s : Table) (i : ℕ) (φ : ℕ → ℕ) : Type 0 where
  pub to : ℕ
  pub column : Column s.phase i to φ
  pub is_phase : to < suc last_phase
  pub behind : T (among to (next (s.phase i)))
  pub kept_out : s.forbidden i ≡ 1 → to ≡ 5 → ⊥

module _ (s : Table) (r : Request) (can : T (ready s r.thread)) where
  abbrev i : ℕ
  i = r.thread

  -- from p to v
  goes : (p v : ℕ) (φ : ℕ → ℕ) → s.phase i ≡ p → Column s.phase i v φ → T (ltb v (suc last_phase)) → T (among v (next p)) → T (not (eqb v 5)) → Next s i φ
  goes p v φ e w fits behind no-5 =
      record {
        to = v;
        column = w;
        is_phase = ltb→lt v (suc last_phase) fits;
        behind = subst (λ (q : ℕ). T (among v (next q))) (sym e) behind;
        kept_out = λ f. T_ne v 5 no-5;
      }

  puts : (p v : ℕ) → s.phase i ≡ p → T (ltb v (suc last_phase)) → T (among v (next p)) → T (not (eqb v 5)) → Next s i (update s.phase i v)
  puts p v e = goes p v (update s.phase i v) e (put s.phase i v)

  not-ready : {A : Type 0} (p : ℕ) → s.phase i ≡ p → (T (ready_by s.mutex (s.busy s.target) p) → ⊥) → A
  not-ready p e none = absurd (none (subst (λ (q : ℕ). T (ready_by s.mutex (s.busy s.target) q)) e can))

  by_way : {x : Effect} → Way s i r.mv r.target x → Next s i (applied s x.writes).phase
  unfolding ready_by next among
  by_way (call_shared_lem e) = not-ready 0 e (λ t. t)
  by_way (call_exclusive_lem e) = not-ready 0 e (λ t. t)
  by_way (raise_busy e) = puts 1 2 e tt tt tt
  by_way (find_open e f) =
      record { to = 5; column = put s.phase i 5; is_phase = omega arith; behind = subst (λ (q : ℕ). T (among 5 (next q))) (sym e) tt; kept_out = λ u q. omega arith }
  by_way (find-forbidden e f) = puts 2 3 e tt tt tt
  by_way (back_off e) = puts 3 4 e tt tt tt
  by_way (try_again e) = not-ready 4 e (λ t. t)
  by_way (hold-mutex m e f) = not-ready 4 e (λ t. t)
  by_way (give_back m e) = puts 18 1 e tt tt tt
  by_way (enter-shared e) = puts 5 6 e tt tt tt
  by_way (leave_shared e) = not-ready 6 e (λ t. t)
  by_way (lower_busy e) = puts 7 8 e tt tt tt
  by_way (return_shared e) = puts 8 0 e tt tt tt
  by_way (take-mutex m e f) = puts 9 10 e tt tt tt
  by_way (set-flag e l) = puts 10 11 e tt tt tt
  by_way (find-busy e f) = puts 11 12 e tt tt tt
  by_way (relents e) = puts 11 12 e tt tt tt
  by_way (last-flag e f all) = puts 11 13 e tt tt tt
  by_way (next-flag e f some) = puts 11 10 e tt tt tt
  by_way (give_up e) = puts 12 10 e tt tt tt
  by_way (enter-exclusive e) = puts 13 14 e tt tt tt
  by_way (leave_exclusive e) = not-ready 14 e (λ t. t)
  by_way (set_again e l) = goes 15 15 s.phase e (keep s.phase i 15 e) tt tt tt
  by_way (clear_flag e l some) = goes 15 15 s.phase e (keep s.phase i 15 e) tt tt tt
  by_way (clear_last e l none) = puts 15 16 e tt tt tt
  by_way (release_mutex m e) = puts 16 17 e tt tt tt
  by_way (return_exclusive e) = puts 17 0 e tt tt tt

  pub next-phase : Accepted s r → Next s i (applied s (effect s r).writes).phase
  next-phase a = by_way (way s r a)
