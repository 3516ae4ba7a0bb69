-- The threads that have a turn in a sound table, and the choice among them: each of them is ready, and its request may be made (`turn_may`), that of the lowest, which is chosen, too (`chosen_may`).
-- No thread has one exactly if no request may be made (`none_may`, `none_waits`).
use Prim.Native.Nat.{ℕ, suc, ◌<◌}
use mathlib.Core.Bool.{Bool, not, not-not}
use mathlib.Core.Logic.{⊎_elim}
use mathlib.Core.Path.{◌≡◌, sym, subst}
use lib.Dec.{T}
use Rattle.definitions.specs.Bounds.{last_move}
use Rattle.definitions.specs.Dispatch.{may_dispatch, has_turn_by, has_turn, mover_in, move_for, target_for, request_of, chosen, is_waiting}
use Rattle.definitions.specs.Moves.{ask}
use Rattle.definitions.specs.Table.{Table}
use Rattle.definitions.specs.Threads.{some, lowest}
use Rattle.definitions.specs.declared.Request.{Request}
use Rattle.basics.proofs.Lowest.{lowest-some, lowest_below, lowest-same}
use Rattle.basics.proofs.Quantifiers.{some_i, some_e, none_at}
use Rattle.basics.proofs.Tests.{decided, no_both}
use Rattle.theory.proofs.Soundness.{Sound}
use Rattle.theory.proofs.Ways.{accepted_e}
use Rattle.dispatching.specs.Ready.{ready, move_by}
use Rattle.dispatching.proofs.TurnKinds.{may_e, kind, ready_may, turn_is, move_is}

module _ (s : Table) (z : Sound s) where
  -- a request that may be made is of a thread that has a turn
  pub may_turn : (r : Request) → T (may_dispatch s r) → (r.thread < s.threads) × T (has_turn s r.thread)
  may_turn r t =
      let m = may_e s r t in
      let l = (accepted_e s r m.accepted).thread-fits in
      (l, subst T (sym (turn_is s z r.thread l)) (kind s z r m).is_ready_lem)

  -- any thread that has a turn: it is ready, and its request, by the move of its phase, may be made
  module _ (i : ℕ) (t : T (has_turn s i)) where
    pub turn-fits : i < s.threads
    unfolding has_turn has_turn_by
    turn-fits =
        let (mv, k, u) = some_e (has_turn_by s i) (suc last_move) t in
        let (x, m, v) = some_e (λ x. may_dispatch s (ask i mv x)) s.threads u in
        (accepted_e s (ask i mv x) (may_e s (ask i mv x) v).accepted).thread-fits

    pub turn-ready : T (ready s i)
    turn-ready = subst T (turn_is s z i turn-fits) t

    pub turn-move : move_for s i ≡ move_by (s.phase i)
    turn-move = move_is s z i turn-fits turn-ready

    pub turn_may : T (may_dispatch s (request_of s i))
    turn_may = subst (λ (mv : ℕ). T (may_dispatch s (ask i mv (target_for s i)))) (sym turn-move) (ready_may s z i turn-fits turn-ready)

  -- the lowest of them is the mover, where somebody has a turn
  module _ (t : T (not (is_waiting s))) where
    pub mover-turn : T (has_turn s (mover_in s))
    unfolding is_waiting mover_in
    mover-turn = (lowest-some (has_turn s) s.threads (subst T (not-not (some s.threads (has_turn s))) t)).1

    pub mover-fits : mover_in s < s.threads
    mover-fits = turn-fits (mover_in s) mover-turn

    pub chosen-move : move_for s (mover_in s) ≡ move_by (s.phase (mover_in s))
    chosen-move = turn-move (mover_in s) mover-turn

    pub chosen_may : T (may_dispatch s (chosen s))
    chosen_may = turn_may (mover_in s) mover-turn

  -- the threads below the mover have no turn
  pub lower_none : (r : Request) → r.thread < mover_in s → T (may_dispatch s r) → ⊥
  unfolding mover_in
  lower_none r l t = no_both (has_turn s r.thread) (may_turn r t).1 (lowest_below (has_turn s) s.threads r.thread l)

  -- nobody has one exactly if no request may be made
  pub none_may : T (is_waiting s) → (r : Request) → T (may_dispatch s r) → ⊥
  unfolding is_waiting
  none_may t r u = let (l, v) = may_turn r u in no_both (some s.threads (has_turn s)) (some_i (has_turn s) s.threads r.thread l v) t

  pub none_waits : ((r : Request) → T (may_dispatch s r) → ⊥) → T (is_waiting s)
  none_waits none = ⊎_elim (λ t. t) (λ t. absurd (none (chosen s) (chosen_may t))) (decided (is_waiting s))

  -- then no thread is ready
  pub waiting_none : T (is_waiting s) → (i : ℕ) → i < s.threads → T (not (ready s i))
  unfolding is_waiting
  waiting_none t i l = subst (λ (b : Bool). T (not b)) (turn_is s z i l) (none_at (has_turn s) s.threads t i l)

  -- the mover is the lowest thread that is ready
  pub mover_is : mover_in s ≡ lowest s.threads (ready s)
  unfolding mover_in
  mover_is = lowest-same s.threads (has_turn s) (ready s) (turn_is s z)
