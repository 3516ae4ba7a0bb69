-- The case analysis that every theorem on moves uses.
-- An accepted request passed all its tests (`Accepted`), and goes one of 27 ways (`Way`), each with what is known of the mover's phase and with the move's whole effect.
-- Table 1 of the source paper, by phase. A reader raises busy (1), reads forbidden (2), goes in (5, 6), leaves (7, 8), or lowers busy (3) and
-- tries again (4), at once or after it has held the mutex (18).
-- A writer takes the mutex (9), sets flag by flag (10) and reads the target's busy (11), gives a flag up (12), goes in (13, 14), clears flag by flag (15), lets the mutex go (16) and is done (17).
use Prim.Native.Nat.{ℕ, suc, ◌≤◌, ◌<◌}
use native.Mathlib.Omega.{arith}
use mathlib.Core.Bool.{cond, not, ◌&&◌}
use mathlib.Core.List.{List, [], ◌∷◌}
use mathlib.Core.Logic.{◌⊎◌, inl, inr}
use mathlib.Core.Path.{◌≡◌, refl, sym, subst}
use lib.Dec.{T, eqb, leb→le, le→leb, ltb→lt, lt→ltb, eqb→eq}
use Rattle.definitions.specs.Bounds.{last_move, no_target}
use Rattle.definitions.specs.Codes.{go, hold}
use Rattle.definitions.specs.Moves.{Effect, quietly, showing, all_forbidden, none_forbidden_but, go_effect, set_effect, clear_effect, effect}
use Rattle.definitions.specs.Moves.{target_fits, takes_mutex, must_wait, move_tests, move_answer, step_reply, accepts}
use Rattle.definitions.specs.Phases.{rows, has_move}
use Rattle.definitions.specs.Sound.{sound}
use Rattle.definitions.specs.Table.{Table, mutex≔, target≔, phase≔, busy≔, forbidden≔}
use Rattle.definitions.specs.Threads.{list_of, gather, among}
use Rattle.definitions.specs.declared.Request.{Request}
use Rattle.basics.proofs.Cases.{or_at, none_of, among_list}
use Rattle.theory.proofs.PhaseCases.{phases_where, has_phase}
use Rattle.basics.proofs.Replies.{accepted_is, peel, pass, no_test}
use Rattle.basics.proofs.Tests.{T_true, T_false, and_i, eq_T, decided, no_both}

-- ---- the tests of a request

-- what the tests 2 to 7 say of a request that passes them all
pub record Accepted (s : Table) (r : Request) : Type 0 where
  pub is_sound : T (sound s)
  pub thread-fits : r.thread < s.threads
  pub move-fits : r.mv ≤ last_move
  pub target_fits_lem : T (target_fits s.threads r.mv r.target)
  pub has_move_lem : T (has_move r.mv (s.phase r.thread))
  pub may_go_lem : T (not (must_wait (s.phase r.thread) s.mutex r.mv))

pub accepted_e : (s : Table) (r : Request) → T (accepts s r) → Accepted s r
unfolding step_reply
accepted_e s r t =
    let a = peel _ _ (subst T (accepted_is (move_answer s r) (move_tests s r)) t) in
    let b = peel _ _ a.1 in
    let c = peel _ _ b.1 in
    let d = peel _ _ c.1 in
    let e = peel _ _ d.1 in
    let f = peel _ _ e.1 in
    record {
      is_sound = a.0;
      thread-fits = ltb→lt r.thread s.threads b.0;
      move-fits = leb→le r.mv last_move c.0;
      target_fits_lem = d.0;
      has_move_lem = e.0;
      may_go_lem = f.0;
    }

pub accepted_i : (s : Table) (r : Request) → Accepted s r → T (accepts s r)
unfolding step_reply
accepted_i s r a =
    subst T (sym (accepted_is (move_answer s r) (move_tests s r)))
    (pass _ _ a.is_sound
    (pass _ _ (lt→ltb r.thread s.threads a.thread-fits)
    (pass _ _ (le→leb r.mv last_move a.move-fits)
    (pass _ _ a.target_fits_lem (pass _ _ a.has_move_lem (pass _ _ a.may_go_lem no_test))))))

-- ---- the ways

-- the ways in which thread i of table s can go, mv and t being the request's move and target, each with its effect
pub data Way (s : Table) (i mv t : ℕ) : Effect → Type 0 where
  call_shared_lem : s.phase i ≡ 0 → Way s i mv t (showing 1 (phase≔ i 1 ∷ []))
  call_exclusive_lem : s.phase i ≡ 0 → Way s i mv t (showing 5 (phase≔ i 9 ∷ []))
  raise_busy : s.phase i ≡ 1 → Way s i mv t (quietly (phase≔ i 2 ∷ busy≔ i 1 ∷ []))
  find_open : s.phase i ≡ 2 → s.forbidden i ≡ 0 → Way s i mv t (quietly (phase≔ i 5 ∷ []))
  find-forbidden : s.phase i ≡ 2 → (s.forbidden i ≡ 0 → ⊥) → Way s i mv t (quietly (phase≔ i 3 ∷ []))
  back_off : s.phase i ≡ 3 → Way s i mv t (quietly (phase≔ i 4 ∷ busy≔ i 0 ∷ []))
  try_again : s.phase i ≡ 4 → Way s i mv t (quietly (phase≔ i 1 ∷ []))
  hold-mutex : mv ≡ hold → s.phase i ≡ 4 → (s.mutex ≡ 1 → ⊥) → Way s i mv t (quietly (phase≔ i 18 ∷ mutex≔ 1 ∷ []))
  give_back : mv ≡ go → s.phase i ≡ 18 → Way s i mv t (quietly (phase≔ i 1 ∷ mutex≔ 0 ∷ []))
  enter-shared : s.phase i ≡ 5 → Way s i mv t (showing 2 (phase≔ i 6 ∷ []))
  leave_shared : s.phase i ≡ 6 → Way s i mv t (showing 3 (phase≔ i 7 ∷ []))
  lower_busy : s.phase i ≡ 7 → Way s i mv t (quietly (phase≔ i 8 ∷ busy≔ i 0 ∷ []))
  return_shared : s.phase i ≡ 8 → Way s i mv t (showing 4 (phase≔ i 0 ∷ []))
  take-mutex : mv ≡ go → s.phase i ≡ 9 → (s.mutex ≡ 1 → ⊥) → Way s i mv t (quietly (phase≔ i 10 ∷ mutex≔ 1 ∷ []))
  find-busy : s.phase i ≡ 11 → s.busy s.target ≡ 1 → Way s i mv t (quietly (phase≔ i 12 ∷ []))
  last-flag : s.phase i ≡ 11 → (s.busy s.target ≡ 1 → ⊥) → T (all_forbidden s) → Way s i mv t (quietly (phase≔ i 13 ∷ target≔ no_target ∷ []))
  next-flag : s.phase i ≡ 11 → (s.busy s.target ≡ 1 → ⊥) → T (not (all_forbidden s)) → Way s i mv t (quietly (phase≔ i 10 ∷ target≔ no_target ∷ []))
  give_up : s.phase i ≡ 12 → Way s i mv t (quietly (phase≔ i 10 ∷ forbidden≔ s.target 0 ∷ target≔ no_target ∷ []))
  enter-exclusive : s.phase i ≡ 13 → Way s i mv t (showing 6 (phase≔ i 14 ∷ []))
  leave_exclusive : s.phase i ≡ 14 → Way s i mv t (showing 7 (phase≔ i 15 ∷ []))
  release_mutex : mv ≡ go → s.phase i ≡ 16 → Way s i mv t (quietly (phase≔ i 17 ∷ mutex≔ 0 ∷ []))
  return_exclusive : s.phase i ≡ 17 → Way s i mv t (showing 8 (phase≔ i 0 ∷ []))
  set-flag : s.phase i ≡ 10 → t < s.threads → Way s i mv t (quietly (phase≔ i 11 ∷ forbidden≔ t 1 ∷ target≔ t ∷ []))
  set_again : s.phase i ≡ 15 → t < s.threads → Way s i mv t (quietly (forbidden≔ t 1 ∷ []))
  clear_last : s.phase i ≡ 15 → t < s.threads → T (none_forbidden_but t s) → Way s i mv t (quietly (forbidden≔ t 0 ∷ phase≔ i 16 ∷ []))
  clear_flag : s.phase i ≡ 15 → t < s.threads → T (not (none_forbidden_but t s)) → Way s i mv t (quietly (forbidden≔ t 0 ∷ []))
  relents : s.phase i ≡ 11 → Way s i mv t (quietly (phase≔ i 12 ∷ []))

-- the phases of each move
abbrev pub go_phases : List ℕ
go_phases = 1 ∷ 2 ∷ 3 ∷ 4 ∷ 5 ∷ 6 ∷ 7 ∷ 8 ∷ 9 ∷ 11 ∷ 12 ∷ 13 ∷ 14 ∷ 16 ∷ 17 ∷ 18 ∷ []

phases_0 : phases_where (has_move 0) ≡ go_phases
unfolding rows gather among phases_where
phases_0 = refl

pub phases_1 : phases_where (has_move 1) ≡ 0 ∷ []
unfolding rows gather among phases_where
phases_1 = refl

phases_2 : phases_where (has_move 2) ≡ 0 ∷ []
unfolding rows gather among phases_where
phases_2 = refl

pub phases_3 : phases_where (has_move 3) ≡ 10 ∷ 15 ∷ []
unfolding rows gather among phases_where
phases_3 = refl

pub phases_4 : phases_where (has_move 4) ≡ 15 ∷ []
unfolding rows gather among phases_where
phases_4 = refl

phases_5 : phases_where (has_move 5) ≡ 11 ∷ []
unfolding rows gather among phases_where
phases_5 = refl

pub phases_6 : phases_where (has_move 6) ≡ 4 ∷ []
unfolding rows gather among phases_where
phases_6 = refl

-- the ways of phase 2: what the reader finds in its forbidden
go_2 : (s : Table) (i mv t : ℕ) → s.phase i ≡ 2 → Way s i mv t (quietly (phase≔ i (cond (eqb (s.forbidden i) 0) 5 3) ∷ []))
go_2 s i mv t e = choose (decided (eqb (s.forbidden i) 0))
  where
    choose : T (eqb (s.forbidden i) 0) ⊎ T (not (eqb (s.forbidden i) 0)) → Way s i mv t (quietly (phase≔ i (cond (eqb (s.forbidden i) 0) 5 3) ∷ []))
    choose (inl u) = rw (T_true (eqb (s.forbidden i) 0) u) (find_open e (eqb→eq (s.forbidden i) 0 u))
    choose (inr u) = rw (T_false (eqb (s.forbidden i) 0) u) (find-forbidden e (λ z. no_both (eqb (s.forbidden i) 0) (eq_T (s.forbidden i) 0 z) u))

-- the ways of phase 11: what the writer finds in the target's busy
go_11 : (s : Table) (i mv t : ℕ) → s.phase i ≡ 11
    → Way s i mv t (quietly (cond (eqb (s.busy s.target) 1) (phase≔ i 12 ∷ []) (phase≔ i (cond (all_forbidden s) 13 10) ∷ target≔ no_target ∷ [])))
go_11 s i mv t e = choose (decided (eqb (s.busy s.target) 1)) (decided (all_forbidden s))
  where
    choose : T (eqb (s.busy s.target) 1) ⊎ T (not (eqb (s.busy s.target) 1)) → T (all_forbidden s) ⊎ T (not (all_forbidden s))
        → Way s i mv t (quietly (cond (eqb (s.busy s.target) 1) (phase≔ i 12 ∷ []) (phase≔ i (cond (all_forbidden s) 13 10) ∷ target≔ no_target ∷ [])))
    choose (inl u) v = rw (T_true (eqb (s.busy s.target) 1) u) (find-busy e (eqb→eq (s.busy s.target) 1 u))
    choose (inr u) (inl v) =
        rw (T_false (eqb (s.busy s.target) 1) u, T_true (all_forbidden s) v)
        (last-flag e (λ z. no_both (eqb (s.busy s.target) 1) (eq_T (s.busy s.target) 1 z) u) v)
    choose (inr u) (inr v) =
        rw (T_false (eqb (s.busy s.target) 1) u, T_false (all_forbidden s) v)
        (next-flag e (λ z. no_both (eqb (s.busy s.target) 1) (eq_T (s.busy s.target) 1 z) u) v)

go_way : (s : Table) (i mv t : ℕ) → mv ≡ go → T (has_move 0 (s.phase i)) → (s.phase i ≡ 9 → s.mutex ≡ 1 → ⊥) → Way s i mv t (go_effect s i)
unfolding go_effect
go_way s i mv t m has free =
    at 1 _ (λ e. rw e (raise_busy e))
    (at 2 _ (λ e. rw e (go_2 s i mv t e))
    (at 3 _ (λ e. rw e (back_off e))
    (at 4 _ (λ e. rw e (try_again e))
    (at 5 _ (λ e. rw e (enter-shared e))
    (at 6 _ (λ e. rw e (leave_shared e))
    (at 7 _ (λ e. rw e (lower_busy e))
    (at 8 _ (λ e. rw e (return_shared e))
    (at 9 _ (λ e. rw e (take-mutex m e (free e)))
    (at 11 _ (λ e. rw e (go_11 s i mv t e))
    (at 12 _ (λ e. rw e (give_up e))
    (at 13 _ (λ e. rw e (enter-exclusive e))
    (at 14 _ (λ e. rw e (leave_exclusive e))
    (at 16 _ (λ e. rw e (release_mutex m e))
    (at 17 _ (λ e. rw e (return_exclusive e)) (at 18 _ (λ e. rw e (give_back m e)) (none_of (s.phase i)))))))))))))))))
    (has_phase 0 (s.phase i) _ phases_0 has)
  where
    at : (y : ℕ) (ys : List ℕ) → (s.phase i ≡ y → Way s i mv t (go_effect s i)) → (T (among (s.phase i) ys) → Way s i mv t (go_effect s i))
        → T (among (s.phase i) (y ∷ ys)) → Way s i mv t (go_effect s i)
    at = or_at (s.phase i)

set_way : (s : Table) (i mv t : ℕ) → T (has_move 3 (s.phase i)) → t < s.threads → Way s i mv t (set_effect s i t)
unfolding set_effect
set_way s i mv t has fits =
    or_at (s.phase i) 10 _ (λ e. rw e (set-flag e fits)) (or_at (s.phase i) 15 _ (λ e. rw e (set_again e fits)) (none_of (s.phase i)))
    (has_phase 3 (s.phase i) _ phases_3 has)

clear_way : (s : Table) (i mv t : ℕ) → s.phase i ≡ 15 → t < s.threads → Way s i mv t (clear_effect s i t)
unfolding clear_effect
clear_way s i mv t e fits = choose (decided (none_forbidden_but t s))
  where
    choose : T (none_forbidden_but t s) ⊎ T (not (none_forbidden_but t s)) → Way s i mv t (quietly (forbidden≔ t 0 ∷ cond (none_forbidden_but t s) (phase≔ i 16 ∷ []) []))
    choose (inl u) = rw (T_true (none_forbidden_but t s) u) (clear_last e fits u)
    choose (inr u) = rw (T_false (none_forbidden_but t s) u) (clear_flag e fits u)

-- the only phase of a move that exists in one phase
pub only : (mv p k : ℕ) → phases_where (has_move mv) ≡ k ∷ [] → T (has_move mv p) → p ≡ k
only mv p k e has = or_at p k [] (λ q. q) (none_of p) (has_phase mv p (k ∷ []) e has)

-- a move that takes the mutex finds it free
pub finds_free : (s : Table) (r : Request) → T (not (must_wait (s.phase r.thread) s.mutex r.mv)) → T (takes_mutex (s.phase r.thread) r.mv) → s.mutex ≡ 1 → ⊥
finds_free s r t takes q =
    let taking = takes_mutex (s.phase r.thread) r.mv in
    no_both (taking && eqb s.mutex 1) (and_i taking (eqb s.mutex 1) takes (eq_T s.mutex 1 q)) t

-- an accepted request goes one of the ways
pub way : (s : Table) (r : Request) → Accepted s r → Way s r.thread r.mv r.target (effect s r)
unfolding effect list_of
way s r a =
    at 0 _ (λ e. rw e (go_way s i 0 t refl (has 0 e) (λ p. finds_free s r a.may_go_lem (rw (e, p) tt))))
    (at 1 _ (λ e. rw e (call_shared_lem (only 1 (s.phase i) 0 phases_1 (has 1 e))))
    (at 2 _ (λ e. rw e (call_exclusive_lem (only 2 (s.phase i) 0 phases_2 (has 2 e))))
    (at 3 _ (λ e. rw e (set_way s i 3 t (has 3 e) (ltb→lt t s.threads (fits 3 e))))
    (at 4 _ (λ e. rw e (clear_way s i 4 t (only 4 (s.phase i) 15 phases_4 (has 4 e)) (ltb→lt t s.threads (fits 4 e))))
    (at 5 _ (λ e. rw e (relents (only 5 (s.phase i) 11 phases_5 (has 5 e))))
    (at 6 _ (λ e. rw e (holding e (only 6 (s.phase i) 4 phases_6 (has 6 e)))) (none_of r.mv)))))))
    (among_list (λ j. j) (suc last_move) r.mv (let h = a.move-fits in omega arith))
  where
    i : ℕ
    i = r.thread

    t : ℕ
    t = r.target

    at : (y : ℕ) (ys : List ℕ) → (r.mv ≡ y → Way s i r.mv t (effect s r)) → (T (among r.mv ys) → Way s i r.mv t (effect s r)) → T (among r.mv (y ∷ ys)) → Way s i r.mv t (effect s r)
    at = or_at r.mv

    -- the tests of a request whose move is m
    has : (m : ℕ) → r.mv ≡ m → T (has_move m (s.phase i))
    has m e = subst (λ (k : ℕ). T (has_move k (s.phase i))) e a.has_move_lem

    holding : r.mv ≡ hold → s.phase i ≡ 4 → Way s i hold t (quietly (phase≔ i 18 ∷ mutex≔ 1 ∷ []))
    holding e p = hold-mutex refl p (finds_free s r a.may_go_lem (rw (e, p) tt))

    fits : (m : ℕ) → r.mv ≡ m → T (target_fits s.threads m t)
    fits m e = subst (λ (k : ℕ). T (target_fits s.threads k t)) e a.target_fits_lem
