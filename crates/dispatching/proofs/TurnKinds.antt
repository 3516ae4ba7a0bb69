-- The dispatcher's moves by phase, in a sound table: a request that it may make is of a thread that is ready, by the one move of its phase, with a target whose flag that move changes (`kind`);
-- and a thread that is ready has such a request, with the lowest of these targets (`ready_may`). So a thread has a turn exactly if it is ready (`turn_is`).
use Prim.Native.Nat.{ℕ, suc, ◌≤◌, ◌<◌}
use native.Mathlib.Omega.{arith}
use mathlib.Core.Bool.{Bool, false, cond, not, ◌&&◌, ◌||◌}
use mathlib.Core.List.{List, ◌∷◌}
use mathlib.Core.Logic.{⊎_elim}
use mathlib.Core.Path.{◌≡◌, sym, subst, ap, ◌∙◌}
use lib.Dec.{T, eqb, ltb, eqb→eq, ltb→lt, lt→ltb}
use Rattle.definitions.specs.Bounds.{last_phase, last_move}
use Rattle.definitions.specs.Codes.{go, set_move, clear_move}
use Rattle.definitions.specs.Dispatch.{is_leaving, may_dispatch, has_turn_by, has_turn, move_for, target_for}
use Rattle.definitions.specs.Moves.{ask, is_retry, is_call, names_thread, target_fits, takes_mutex, must_wait, accepts}
use Rattle.definitions.specs.Phases.{rows, has_move}
use Rattle.definitions.specs.Table.{Table}
use Rattle.definitions.specs.Threads.{every, some, lowest, list_of, among, implies}
use Rattle.definitions.specs.declared.Request.{Request}
use Rattle.basics.proofs.Cases.{or_at, none_of, among_list}
use Rattle.basics.proofs.Lowest.{lowest-some, lowest_at}
use Rattle.basics.proofs.Quantifiers.{implied, some_i, some_e}
use Rattle.basics.proofs.Tests.{and_l, and_r, and_i, or_e, or_l, or_r, eq_T, ne_T, T_ne, T_false, no_both, not_i, same_test, same?, implies_e, implies_i, cond_yes, cond_no, cond_either}
use Rattle.theory.proofs.PhaseCases.{has_phase}
use Rattle.theory.proofs.RequestNumbers.{target_below}
use Rattle.theory.proofs.SoundChanges.{bit_0, bit_1, in_phase_lem}
use Rattle.theory.proofs.Soundness.{Some, Sound, sound_i, busy_bit}
use Rattle.theory.proofs.Ways.{Accepted, accepted_e, accepted_i, only, finds_free, phases_3, phases_4, phases_6}
use Rattle.dispatching.specs.Ready.{hosts, ready_by, ready, move_by}

-- ---- a request that it may make

pub record May (s : Table) (r : Request) : Type 0 where
  pub accepted : T (accepts s r)
  pub no_call : T (not (is_call r))
  pub no_retry : T (not (is_retry s r))
  pub no_leaving : T (not (is_leaving s r))

pub may_e : (s : Table) (r : Request) → T (may_dispatch s r) → May s r
unfolding may_dispatch
may_e s r t =
    let u = and_r (accepts s r) _ t in
    let v = and_r (not (is_call r)) _ u in
    record { accepted = and_l (accepts s r) _ t; no_call = and_l (not (is_call r)) _ u; no_retry = and_l (not (is_retry s r)) _ v; no_leaving = and_r (not (is_retry s r)) _ v }

may_i : (s : Table) (r : Request) → May s r → T (may_dispatch s r)
unfolding may_dispatch
may_i s r m = and_i (accepts s r) _ m.accepted (and_i (not (is_call r)) _ m.no_call (and_i (not (is_retry s r)) _ m.no_retry m.no_leaving))

-- ---- by the mover's phase

-- a phase that is not the host's alone has the move, and one that has go is none of 0, 10 and 15, by trying the phases
has_move_by : (p : ℕ) → p ≤ last_phase → T (not (hosts p)) → T (has_move (move_by p) p)
unfolding rows among every move_by
has_move_by p l = implied (λ q. not (hosts q)) (λ q. has_move (move_by q) q) (suc last_phase) tt p (omega arith)

no_go : (p : ℕ) → p ≤ last_phase → T (has_move go p) → T (not (eqb p 0)) × T (not (eqb p 10)) × T (not (eqb p 15))
unfolding rows among every
no_go p l t =
    let last = not (eqb p 10) && not (eqb p 15) in
    let all = implied (has_move go) (λ q. not (eqb q 0) && (not (eqb q 10) && not (eqb q 15))) (suc last_phase) tt p (omega arith) t in
    let two = and_r (not (eqb p 0)) last all in
    (and_l (not (eqb p 0)) last all, and_l (not (eqb p 10)) (not (eqb p 15)) two, and_r (not (eqb p 10)) (not (eqb p 15)) two)

-- it is one of the moves
move-most : (p : ℕ) → move_by p < suc last_move
unfolding move_by
move-most p =
    cond_either (λ k. k < suc last_move) (eqb p 10) set_move (cond (eqb p 15) clear_move go) (λ t. omega arith)
    (λ t. cond_either (λ k. k < suc last_move) (eqb p 15) clear_move go (λ u. omega arith) (λ u. omega arith))

-- go where neither set nor clear is the phase's move
by-go : (p : ℕ) → T (not (eqb p 10)) → T (not (eqb p 15)) → move_by p ≡ go
unfolding move_by
by-go p not-10 not_15 = cond_no (eqb p 10) set_move (cond (eqb p 15) clear_move go) not-10 ∙ cond_no (eqb p 15) clear_move go not_15

-- what is known of a request that it may make: its thread is ready, its move is that of the phase, and set and clear change their target's flag
pub record Kind (s : Table) (r : Request) : Type 0 where
  pub is_ready_lem : T (ready s r.thread)
  pub move_is : r.mv ≡ move_by (s.phase r.thread)
  pub sets : s.phase r.thread ≡ 10 → s.forbidden r.target ≡ 0
  pub clears : s.phase r.thread ≡ 15 → s.forbidden r.target ≡ 1

module _ (s : Table) (z : Sound s) where
  -- a mutex that isn't taken is 0, and so is the busy of a target that isn't busy
  pub mutex_free : (s.mutex ≡ 1 → ⊥) → s.mutex ≡ 0
  mutex_free h = z.free (λ j l t. h (z.held j l t))

  pub target_calm : (i : ℕ) → i < s.threads → s.phase i ≡ 11 → (s.busy s.target ≡ 1 → ⊥) → s.busy s.target ≡ 0
  unfolding rows
  target_calm i l e h =
      let (k, up) = z.has_target i l (in_phase_lem s z i l 11 e tt 11 12 tt) in
      bit_0 (s.busy s.target) (let b = z.busies s.target k in let m = busy_bit (s.phase s.target) (z.phases s.target k) in omega arith) h

  module _ (r : Request) (m : May s r) where
    abbrev i : ℕ
    i = r.thread

    a : Accepted s r
    a = accepted_e s r m.accepted

    has : (mv : ℕ) → r.mv ≡ mv → T (has_move mv (s.phase i))
    has mv e = subst (λ (k : ℕ). T (has_move k (s.phase i))) e a.has_move_lem

    retry : {A : Type 0} → T (is_retry s r) → A
    retry t = absurd (no_both (is_retry s r) t m.no_retry)

    goes : r.mv ≡ go → Kind s r
    unfolding ready_by is_retry
    goes g =
        let (not-0, not-10, not_15) = no_go (s.phase i) (z.phases i a.thread-fits) (has go g) in
        record {
          is_ready_lem =
              and_i (not (hosts (s.phase i))) _ (not_i (hosts (s.phase i)) (mine not-0))
              (and_i (implies (eqb (s.phase i) 9) (eqb s.mutex 0)) _ (implies_i (eqb (s.phase i) 9) (eqb s.mutex 0) free) (implies_i (eqb (s.phase i) 11) (eqb (s.busy s.target) 0) calm));
          move_is = g ∙ sym (by-go (s.phase i) not-10 not_15);
          sets = λ e. absurd (T_ne (s.phase i) 10 not-10 e);
          clears = λ e. absurd (T_ne (s.phase i) 15 not_15 e);
        }
      where
        -- it isn't in 0, a go in 4 is a retry, and one in 6 or 14 a leaving
        mine : T (not (eqb (s.phase i) 0)) → T (hosts (s.phase i)) → ⊥
        mine not-0 t =
            ⊎_elim (λ u. no_both (eqb (s.phase i) 0) u not-0)
            (λ u. ⊎_elim (λ v. retry (rw (g, eqb→eq (s.phase i) 4 v) tt)) (λ v. no_both (is_leaving s r) (rw g v) m.no_leaving) (or_e (eqb (s.phase i) 4) _ u))
            (or_e (eqb (s.phase i) 0) _ t)

        free : T (eqb (s.phase i) 9) → T (eqb s.mutex 0)
        free u = eq_T s.mutex 0 (mutex_free (finds_free s r a.may_go_lem (rw (g, eqb→eq (s.phase i) 9 u) tt)))

        calm : T (eqb (s.phase i) 11) → T (eqb (s.busy s.target) 0)
        calm u = let e = eqb→eq (s.phase i) 11 u in eq_T (s.busy s.target) 0 (target_calm i a.thread-fits e (λ b. retry (rw (g, e, b) tt)))

    -- set and clear name a thread, whose flag is 0 or 1
    flag : (mv : ℕ) → r.mv ≡ mv → T (names_thread mv) → s.forbidden r.target ≤ 1
    flag mv e t =
        z.flags r.target
        (ltb→lt r.target s.threads
        (subst T (cond_yes (names_thread mv) (ltb r.target s.threads) (eqb r.target 0) t) (subst (λ (k : ℕ). T (target_fits s.threads k r.target)) e a.target_fits_lem)))

    sets-flag : r.mv ≡ set_move → Kind s r
    unfolding ready_by move_by is_retry
    sets-flag g = or_at (s.phase i) 10 _ from_10 (or_at (s.phase i) 15 _ (λ e. retry (rw (g, e) tt)) (none_of (s.phase i))) (has_phase 3 (s.phase i) _ phases_3 (has set_move g))
      where
        from_10 : s.phase i ≡ 10 → Kind s r
        from_10 e =
            record {
              is_ready_lem = rw e tt;
              move_is = g ∙ sym (ap move_by e);
              sets = λ d. bit_0 (s.forbidden r.target) (flag set_move g tt) (λ f. retry (rw (g, e, f) tt));
              clears = λ d. absurd (omega arith);
            }

    clears_flag : r.mv ≡ clear_move → Kind s r
    unfolding ready_by move_by is_retry
    clears_flag g =
        let e = only 4 (s.phase i) 15 phases_4 (has clear_move g) in
        record {
          is_ready_lem = rw e tt;
          move_is = g ∙ sym (ap move_by e);
          sets = λ d. absurd (omega arith);
          clears = λ d. bit_1 (s.forbidden r.target) (flag clear_move g tt) (λ f. retry (rw (g, e, f) tt));
        }

    pub kind : Kind s r
    unfolding list_of is_retry
    kind =
        at 0 _ goes
        (at 1 _ (λ g. calling (rw g tt))
        (at 2 _ (λ g. calling (rw g tt))
        (at 3 _ sets-flag
        (at 4 _ clears_flag (at 5 _ (λ g. retry (rw g tt)) (at 6 _ (λ g. retry (rw (g, only 6 (s.phase i) 4 phases_6 (has 6 g)) tt)) (none_of r.mv)))))))
        (among_list (λ j. j) (suc last_move) r.mv (let h = a.move-fits in omega arith))
      where
        at : (y : ℕ) (ys : List ℕ) → (r.mv ≡ y → Kind s r) → (T (among r.mv ys) → Kind s r) → T (among r.mv (y ∷ ys)) → Kind s r
        at = or_at r.mv

        calling : T (is_call r) → Kind s r
        calling t = absurd (no_both (is_call r) t m.no_call)

  -- ---- a thread that is ready

  module _ (i : ℕ) (l : i < s.threads) (t : T (ready s i)) where
    abbrev p : ℕ
    p = s.phase i

    -- the parts of the test
    unhosted : T (not (hosts p))
    unfolding ready_by
    unhosted = and_l (not (hosts p)) _ t

    conditions : T (implies (eqb p 9) (eqb s.mutex 0) && implies (eqb p 11) (eqb (s.busy s.target) 0))
    unfolding ready_by
    conditions = and_r (not (hosts p)) _ t

    free : p ≡ 9 → s.mutex ≡ 0
    free e = eqb→eq s.mutex 0 (implies_e (eqb p 9) (eqb s.mutex 0) (and_l (implies (eqb p 9) (eqb s.mutex 0)) _ conditions) (eq_T p 9 e))

    calm : p ≡ 11 → s.busy s.target ≡ 0
    calm e = eqb→eq (s.busy s.target) 0 (implies_e (eqb p 11) (eqb (s.busy s.target) 0) (and_r (implies (eqb p 9) (eqb s.mutex 0)) _ conditions) (eq_T p 11 e))

    -- its request by the move of its phase may be made
    module _ (mv target : ℕ) (move : move_by p ≡ mv) (fits : mv ≤ last_move) (aimed : T (target_fits s.threads mv target)) where
      abbrev r : Request
      r = ask i mv target

      whole : T (not (must_wait p s.mutex mv)) → T (not (is_call r)) → T (not (is_retry s r)) → T (not (is_leaving s r)) → T (may_dispatch s r)
      whole waits no_call no_retry no_leaving =
          may_i s r record {
            accepted =
                accepted_i s r record {
                  is_sound = sound_i s z;
                  thread-fits = l;
                  move-fits = fits;
                  target_fits_lem = aimed;
                  has_move_lem = subst (λ (k : ℕ). T (has_move k p)) move (has_move_by p (z.phases i l) unhosted);
                  may_go_lem = waits;
                };
            no_call = no_call;
            no_retry = no_retry;
            no_leaving = no_leaving;
          }

    abbrev Its : Type 0
    Its = T (may_dispatch s (ask i (move_by p) (target_for s i)))

    -- set or clear, of the lowest thread with flag v
    named_may : (mv v : ℕ) → move_by p ≡ mv → mv ≤ last_move → T (names_thread mv) → target_for s i ≡ lowest s.threads (λ k. eqb (s.forbidden k) v)
        → T (not (must_wait p s.mutex mv)) → T (not (is_call (ask i mv 0))) → T (not (is_leaving s (ask i mv 0)))
        → ((k : ℕ) → s.forbidden k ≡ v → T (not (is_retry s (ask i mv k)))) → Some s (λ k. s.forbidden k ≡ v) → Its
    named_may mv v move fits names aim waits no_call no_leaving no_retry (j, k, f) =
        let with-v : ℕ → Bool = λ (x : ℕ). eqb (s.forbidden x) v in
        let (below, found) = lowest-some with-v s.threads (some_i with-v s.threads j k (eq_T (s.forbidden j) v f)) in
        let target = lowest s.threads with-v in
        rw (move, aim)
        (whole mv target move fits (subst T (sym (cond_yes (names_thread mv) (ltb target s.threads) (eqb target 0) names)) (lt→ltb target s.threads below))
        waits no_call (no_retry target (eqb→eq (s.forbidden target) v found)) no_leaving)

    in_10 : p ≡ 10 → Its
    unfolding rows move_by target_for is_retry
    in_10 e = named_may set_move 0 (rw e) (omega arith) tt (rw e) tt tt tt (λ k f. rw (e, f) tt) (z.some_clear i l (in_phase_lem s z i l 10 e tt 10 10 tt))

    in_15 : p ≡ 15 → Its
    unfolding rows move_by target_for is_retry
    in_15 e = named_may clear_move 1 (rw e) (omega arith) tt (rw e) tt tt tt (λ k f. rw (e, f) tt) (z.some-forbidden i l (in_phase_lem s z i l 15 e tt 15 15 tt))

    elsewhere : T (not (eqb p 10)) → T (not (eqb p 15)) → Its
    unfolding target_for is_retry
    elsewhere not-10 not_15 =
        rw (by-go p not-10 not_15, T_false (eqb p 10) not-10, T_false (eqb p 15) not_15)
        (whole go 0 (by-go p not-10 not_15) (omega arith) tt (not_i (must_wait p s.mutex go) waits) tt (not_i (is_retry s (ask i go 0)) retries) (not_i (is_leaving s (ask i go 0)) leaves))
      where
        waits : T (must_wait p s.mutex go) → ⊥
        waits u =
            let taking = takes_mutex p go in
            let one = eqb→eq s.mutex 1 (and_r taking (eqb s.mutex 1) u) in
            ⊎_elim (λ v. let zero = free (eqb→eq p 9 v) in omega arith) (λ no. no) (or_e (eqb p 9) false (and_l taking (eqb s.mutex 1) u))

        retries : T (is_retry s (ask i go 0)) → ⊥
        retries u =
            let reads = eqb p 11 && eqb (s.busy s.target) 1 in
            ⊎_elim (λ v. no_both (hosts p) (or_r (eqb p 0) _ (or_l (eqb p 4) _ v)) unhosted)
            (λ v.
            ⊎_elim
            (λ w.
            let zero = calm (eqb→eq p 11 (and_l (eqb p 11) (eqb (s.busy s.target) 1) w)) in
            let one = eqb→eq (s.busy s.target) 1 (and_r (eqb p 11) (eqb (s.busy s.target) 1) w) in omega arith)
            (λ no. no) (or_e reads false v))
            (or_e (eqb p 4) (reads || false) u)

        leaves : T (is_leaving s (ask i go 0)) → ⊥
        leaves u = no_both (hosts p) (or_r (eqb p 0) _ (or_r (eqb p 4) _ u)) unhosted

    pub ready_may : Its
    ready_may = ⊎_elim in_10 (λ h. ⊎_elim in_15 (λ k. elsewhere (ne_T p 10 h) (ne_T p 15 k)) (same? p 15)) (same? p 10)

  -- ---- turns

  module _ (i : ℕ) (l : i < s.threads) where
    -- by a move: the thread is ready, and it is the move of its phase
    by_kind : (mv : ℕ) → T (has_turn_by s i mv) → T (ready s i) × (mv ≡ move_by (s.phase i))
    unfolding has_turn_by
    by_kind mv t =
        let (k, m, u) = some_e (λ x. may_dispatch s (ask i mv x)) s.threads t in
        let q = kind (ask i mv k) (may_e s (ask i mv k) u) in
        (q.is_ready_lem, q.move_is)

    -- a ready thread has one by that move
    ready_by_lem : T (ready s i) → T (has_turn_by s i (move_by (s.phase i)))
    unfolding has_turn_by
    ready_by_lem t =
        let u = ready_may i l t in
        some_i (λ x. may_dispatch s (ask i (move_by (s.phase i)) x)) s.threads (target_for s i)
        (target_below s.threads s.threads (move_by (s.phase i)) (target_for s i) (omega arith) (omega arith) (accepted_e s _ (may_e s _ u).accepted).target_fits_lem) u

    -- it has a turn exactly if it is ready
    pub turn_is : has_turn s i ≡ ready s i
    unfolding has_turn
    turn_is =
        same_test (some (suc last_move) (has_turn_by s i)) (ready s i)
        (λ t. let (mv, k, u) = some_e (has_turn_by s i) (suc last_move) t in (by_kind mv u).0)
        (λ t. some_i (has_turn_by s i) (suc last_move) (move_by (s.phase i)) (move-most (s.phase i)) (ready_by_lem t))

    -- and then its move is that of its phase
    pub move_is : T (ready s i) → move_for s i ≡ move_by (s.phase i)
    unfolding move_for
    move_is t =
        lowest_at (has_turn_by s i) (suc last_move) (move_by (s.phase i)) (move-most (s.phase i)) (ready_by_lem t)
        (λ j k. not_i (has_turn_by s i j) (λ u. let e = (by_kind j u).1 in omega arith))
