-- The protocol's discipline, on bytes: who writes what, and that a reader's moves but for two use its own three bytes alone.
-- `discipline`: a byte that a request changes is one that the mover may write by its phase and move, and a forbidden is its subject's; `disciplined` says that for each kind of byte.
-- `mutex-turned`: an accepted move that may write the mutex does: it is 1 after it if it was 0 before, and 0 if it was 1. `at_mutex_turned`: so do a reader's hold in 4 and its go in 18.
-- `reader_local`: on two sound tables of the same N that agree on a reader's three bytes, a request but hold in 4 and go in 18 gets the same reply and leaves the same three bytes.
-- `reader-writes`: all other bytes stay.
-- For every table and every request with any numbers.
use Prim.Native.Nat.{ℕ, ◌+◌, ◌≤◌}
use native.Mathlib.Omega.{arith}
use mathlib.Core.Bool.{Bool, true, false, cond, not, ◌&&◌, ◌||◌}
use mathlib.Core.List.{List, [], ◌∷◌}
use mathlib.Core.Logic.{◌⊎◌, inl, inr, ⊎_elim}
use mathlib.Core.Path.{◌≡◌, refl, sym, subst, ap, ◌∙◌}
use lib.Dec.{T, leb, ltb, eqb, eqb→eq}
use lib.ListN.{get_or}
use Rattle.definitions.specs.Answers.{Reply, accepted, refused, leaves, MoveAnswer, moved, Test, test, answered}
use Rattle.definitions.specs.Bounds.{last_move}
use Rattle.definitions.specs.Codes.{go, call_shared, hold}
use Rattle.definitions.specs.Moves.{Effect, effect, go_effect, is_retry, target_fits, takes_mutex, must_wait, request_tests, move_answer, step_reply, step, accepts_in, move_reply, move_table}
use Rattle.definitions.specs.Phases.{has_move}
use Rattle.definitions.specs.Sound.{sound, opened}
use Rattle.definitions.specs.Table.{Table, Write, mutex≔, target≔, phase≔, busy≔, forbidden≔, applied_one, applied, phase_at, busy_at, forbidden_at, table_of, byte_table}
use Rattle.definitions.specs.Threads.{list_of}
use Rattle.definitions.specs.declared.Request.{Request}
use Rattle.theory.specs.Statements.{writes_mutex, writes_flag, writes_target, MayMake, MayMakeAll, subject_of, MayWrite, its_phase, its_busy, the_subjects, the_mutex, the_target, Disciplined}
use Rattle.theory.specs.Statements.{reader_round, reader_phase, reader_move, at_mutex, local_move, Agree}
use Rattle.theory.specs.Tables.{SoundBytes}
use Rattle.theory.proofs.Bytes.{byte_keeps}
use Rattle.basics.proofs.Cases.{or_at, none_of, among_range}
use Rattle.theory.proofs.PhaseCases.{has_phase}
use Rattle.theory.proofs.MoveWrites.{may_make}
use Rattle.theory.proofs.Places.{place, Unwritten, untouched}
use Rattle.basics.proofs.Replies.{passed}
use Rattle.theory.proofs.Soundness.{Sound, sound_e}
use Rattle.theory.proofs.Stages.{between_e, between_i, opened-holds, opened_apart}
use Rattle.theory.proofs.Storages.{accepts_e, accepted_stores, accepted-table, refused-stays, reply-same, table_step}
use Rattle.basics.proofs.Tests.{T_true, T_false, eq_T, and_l, and_r, and_i, or_e, or_l, or_r, decided, no_both, not_i}
use Rattle.theory.proofs.Ways.{Accepted, accepted_e, finds_free, phases_1, phases_6}

-- ---- who writes what

-- what a request may write, by the bytes
may_write : (s : Table) (r : Request) (w : Write) → MayMake s r w → MayWrite s r (place w)
may_write s r (mutex≔ v) m = the_mutex refl m
may_write s r (target≔ v) m = the_target refl m
may_write s r (phase≔ j v) m = its_phase (ap phase_at m)
may_write s r (busy≔ j v) m = its_busy (ap busy_at m)
may_write s r (forbidden≔ j v) m = the_subjects (ap forbidden_at m.0) m.1

-- a byte that it may not write is none that it writes
unwritten : (s : Table) (r : Request) (k : ℕ) → (MayWrite s r k → ⊥) → (ws : List Write) → MayMakeAll s r ws → Unwritten k ws
unwritten s r k h [] m = tt
unwritten s r k h (w ∷ ws) m =
    ((λ e. h (subst (MayWrite s r) (sym e) (may_write s r w m.0))), unwritten s r k h ws m.1)

-- a byte that the mover may not write stays
pub discipline : (bytes : List ℕ) (r : Request) (k : ℕ) → (MayWrite (table_of bytes) r k → ⊥) → get_or (move_table bytes r) k 0 ≡ get_or bytes k 0
discipline bytes r k h = by (decided (accepts_in byte_table bytes r))
  where
    by : T (accepts_in byte_table bytes r) ⊎ T (not (accepts_in byte_table bytes r)) → get_or (move_table bytes r) k 0 ≡ get_or bytes k 0
    by (inl t) =
        let s = table_of bytes in
        ap (λ (b : List ℕ). get_or b k 0) (accepted_stores byte_table bytes r t)
        ∙ untouched bytes k (effect s r).writes (unwritten s r k h (effect s r).writes (may_make s r (accepts_e byte_table bytes r t).1))
    by (inr t) = ap (λ (b : List ℕ). get_or b k 0) (refused-stays byte_table bytes r t)

-- what each kind of byte would need
module _ (s : Table) (r : Request) where
  no_phase : (j : ℕ) → (j ≡ r.thread → ⊥) → MayWrite s r (phase_at j) → ⊥
  no_phase j h (its_phase e) = h (omega arith)
  no_phase j h (its_busy e) = omega arith
  no_phase j h (the_subjects e t) = omega arith
  no_phase j h (the_mutex e t) = omega arith
  no_phase j h (the_target e t) = omega arith

  no_busy : (j : ℕ) → (j ≡ r.thread → ⊥) → MayWrite s r (busy_at j) → ⊥
  no_busy j h (its_phase e) = omega arith
  no_busy j h (its_busy e) = h (omega arith)
  no_busy j h (the_subjects e t) = omega arith
  no_busy j h (the_mutex e t) = omega arith
  no_busy j h (the_target e t) = omega arith

  no_forbidden : (j : ℕ) → (j ≡ subject_of s r → T (writes_flag (s.phase r.thread)) → ⊥) → MayWrite s r (forbidden_at j) → ⊥
  no_forbidden j h (its_phase e) = omega arith
  no_forbidden j h (its_busy e) = omega arith
  no_forbidden j h (the_subjects e t) = h (omega arith) t
  no_forbidden j h (the_mutex e t) = omega arith
  no_forbidden j h (the_target e t) = omega arith

  no_mutex : (T (writes_mutex (s.phase r.thread) r.mv) → ⊥) → MayWrite s r 1 → ⊥
  no_mutex h (its_phase e) = omega arith
  no_mutex h (its_busy e) = omega arith
  no_mutex h (the_subjects e t) = omega arith
  no_mutex h (the_mutex e t) = h t
  no_mutex h (the_target e t) = omega arith

  no_target_lem : (T (writes_target (s.phase r.thread)) → ⊥) → MayWrite s r 2 → ⊥
  no_target_lem h (its_phase e) = omega arith
  no_target_lem h (its_busy e) = omega arith
  no_target_lem h (the_subjects e t) = omega arith
  no_target_lem h (the_mutex e t) = omega arith
  no_target_lem h (the_target e t) = h t

  no_threads : MayWrite s r 0 → ⊥
  no_threads (its_phase e) = omega arith
  no_threads (its_busy e) = omega arith
  no_threads (the_subjects e t) = omega arith
  no_threads (the_mutex e t) = omega arith
  no_threads (the_target e t) = omega arith

pub disciplined : (bytes : List ℕ) (r : Request) → Disciplined (table_of bytes) r (table_of (move_table bytes r))
disciplined bytes r =
    let s = table_of bytes in
    record {
      threads-kept = discipline bytes r 0 (no_threads s r);
      phase-own = λ j h. discipline bytes r (phase_at j) (no_phase s r j h);
      busy-own = λ j h. discipline bytes r (busy_at j) (no_busy s r j h);
      forbidden_subjects = λ j h. discipline bytes r (forbidden_at j) (no_forbidden s r j (λ e t. h e));
      forbidden-held = λ h j. discipline bytes r (forbidden_at j) (no_forbidden s r j (λ e t. h t));
      mutex_in = λ h. discipline bytes r 1 (no_mutex s r h);
      target_in = λ h. discipline bytes r 2 (no_target_lem s r h);
    }

-- ---- the moves that write the mutex

module _ (s : Table) (r : Request) (a : Accepted s r) where
  abbrev phase : ℕ
  phase = s.phase r.thread

  -- a move in a phase
  is_move : (mv k : ℕ) → T (eqb r.mv mv && eqb phase k) → (r.mv ≡ mv) × (phase ≡ k)
  is_move mv k t = (eqb→eq r.mv mv (and_l (eqb r.mv mv) (eqb phase k) t), eqb→eq phase k (and_r (eqb r.mv mv) (eqb phase k) t))

  takes : T (takes_mutex phase r.mv) → (s.mutex ≡ 0) × ((applied s (effect s r).writes).mutex ≡ 1)
  unfolding effect go_effect
  takes t = (
    rules.free (λ j l h. finds_free s r a.may_go_lem t (rules.held j l h)),
    ⊎_elim (λ u. let g = is_move go 9 u in rw (g.0, g.1)) (λ u. rw (is_move hold 4 u).0) (or_e (eqb r.mv go && eqb phase 9) (eqb r.mv hold && eqb phase 4) t),
  )
    where
      rules : Sound s
      rules = sound_e s a.is_sound

  lets_go : T (eqb r.mv go && opened phase) → (s.mutex ≡ 1) × ((applied s (effect s r).writes).mutex ≡ 0)
  unfolding effect go_effect
  lets_go t =
      let e = eqb→eq r.mv go (and_l (eqb r.mv go) (opened phase) t) in
      let o = and_r (eqb r.mv go) (opened phase) t in (
        (sound_e s a.is_sound).held r.thread a.thread-fits (opened-holds phase o),
        ⊎_elim (λ u. rw (e, eqb→eq phase 16 u)) (λ u. rw (e, eqb→eq phase 18 u)) (or_e (eqb phase 16) (eqb phase 18) o),
      )

  turned : T (writes_mutex phase r.mv) → s.mutex + (applied s (effect s r).writes).mutex ≡ 1
  turned t =
      ⊎_elim (λ u. let g = takes u in let x = g.0 in let y = g.1 in omega arith) (λ u. let g = lets_go u in let x = g.0 in let y = g.1 in omega arith)
      (or_e (takes_mutex phase r.mv) (eqb r.mv go && opened phase) t)

pub mutex-turned : (bytes : List ℕ) (r : Request) → T (accepts_in byte_table bytes r) → T (writes_mutex ((table_of bytes).phase r.thread) r.mv)
    → (table_of bytes).mutex + (table_of (move_table bytes r)).mutex ≡ 1
mutex-turned bytes r t w =
    let s = table_of bytes in
    ap (λ (x : Table). s.mutex + x.mutex) (accepted-table byte_table byte_keeps bytes r t)
    ∙ turned s r (accepted_e s r (accepts_e byte_table bytes r t).1) w

-- a reader's moves at the mutex are two of them
pub at_mutex_turned : (bytes : List ℕ) (r : Request) → T (accepts_in byte_table bytes r) → T (at_mutex (table_of bytes) r)
    → (table_of bytes).mutex + (table_of (move_table bytes r)).mutex ≡ 1
at_mutex_turned bytes r t m = mutex-turned bytes r t (⊎_elim held given (or_e (eqb r.mv hold && eqb p 4) (eqb r.mv go && eqb p 18) m))
  where
    p : ℕ
    p = (table_of bytes).phase r.thread

    held : T (eqb r.mv hold && eqb p 4) → T (writes_mutex p r.mv)
    held u = or_l (takes_mutex p r.mv) _ (or_r (eqb r.mv go && eqb p 9) _ u)

    given : T (eqb r.mv go && eqb p 18) → T (writes_mutex p r.mv)
    given u =
        or_r (takes_mutex p r.mv) _
        (and_i (eqb r.mv go) (opened p) (and_l (eqb r.mv go) (eqb p 18) u) (or_r (eqb p 16) (eqb p 18) (and_r (eqb r.mv go) (eqb p 18) u)))

-- ---- a reader's other moves use its own bytes alone

-- what such a request is, in cases, by its move and the mover's phase
data Local (mv p : ℕ) : Type 0 where
  calls : mv ≡ call_shared → Local mv p
  goes : mv ≡ go → T (reader_round p) → Local mv p
  holds_elsewhere : mv ≡ hold → (p ≡ 4 → ⊥) → Local mv p

local_e : (s : Table) (r : Request) → T (local_move s r) → Local r.mv (s.phase r.thread)
local_e s r t = by (or_e (eqb mv call_shared) ((eqb mv go || eqb mv hold) && reader_phase p) (and_l (reader_move s r) (not (at_mutex s r)) t))
  where
    mv : ℕ
    mv = r.mv

    p : ℕ
    p = s.phase r.thread

    not_18 : mv ≡ go → p ≡ 18 → ⊥
    not_18 e q =
        no_both (at_mutex s r)
        (or_r (eqb mv hold && eqb p 4) (eqb mv go && eqb p 18) (and_i (eqb mv go) (eqb p 18) (eq_T mv go e) (eq_T p 18 q))) (and_r (reader_move s r) (not (at_mutex s r)) t)

    not_4 : mv ≡ hold → p ≡ 4 → ⊥
    not_4 e q =
        no_both (at_mutex s r)
        (or_l (eqb mv hold && eqb p 4) (eqb mv go && eqb p 18) (and_i (eqb mv hold) (eqb p 4) (eq_T mv hold e) (eq_T p 4 q))) (and_r (reader_move s r) (not (at_mutex s r)) t)

    inside : mv ≡ go → T (reader_phase p) → Local mv p
    inside e u = ⊎_elim (λ v. goes e v) (λ v. absurd (not_18 e (eqb→eq p 18 v))) (or_e (reader_round p) (eqb p 18) u)

    by : T (eqb mv call_shared) ⊎ T ((eqb mv go || eqb mv hold) && reader_phase p) → Local mv p
    by (inl u) = calls (eqb→eq mv call_shared u)
    by (inr u) =
        ⊎_elim (λ v. inside (eqb→eq mv go v) (and_r (eqb mv go || eqb mv hold) (reader_phase p) u)) (λ v. let e = eqb→eq mv hold v in holds_elsewhere e (not_4 e))
        (or_e (eqb mv go) (eqb mv hold) (and_l (eqb mv go || eqb mv hold) (reader_phase p) u))

-- it doesn't take the mutex
local_takes : (mv p : ℕ) → Local mv p → T (takes_mutex p mv) → ⊥
local_takes mv p (calls e) t = subst (λ (m : ℕ). T (takes_mutex p m)) e t
local_takes mv p (goes e b) t =
    let x = between_e _ _ p b in
    ⊎_elim (λ u. let q = eqb→eq p 9 u in omega arith) (λ u. u) (or_e (eqb p 9) (eqb go hold && eqb p 4) (subst (λ (m : ℕ). T (takes_mutex p m)) e t))
local_takes mv p (holds_elsewhere e n) t = n (eqb→eq p 4 (subst (λ (m : ℕ). T (takes_mutex p m)) e t))

-- nor, in a phase up to 8, let it go
local_mutex : (mv p : ℕ) → Local mv p → p ≤ 8 → T (writes_mutex p mv) → ⊥
local_mutex mv p m l t =
    ⊎_elim (local_takes mv p m) (λ u. opened_apart 0 8 p (omega arith) (between_i 0 8 p (omega arith) l) (and_r (eqb mv go) (opened p) u))
    (or_e (takes_mutex p mv) (eqb mv go && opened p) t)

-- accepted, it is in a phase up to 8
local_phase : (s : Table) (r : Request) → Local r.mv (s.phase r.thread) → Accepted s r → s.phase r.thread ≤ 8
local_phase s r m a = by m
  where
    p : ℕ
    p = s.phase r.thread

    has : (mv : ℕ) → r.mv ≡ mv → T (has_move mv p)
    has mv e = subst (λ (x : ℕ). T (has_move x p)) e a.has_move_lem

    by : Local r.mv p → p ≤ 8
    by (calls e) = or_at p 0 [] (λ z. omega arith) (none_of p) (has_phase 1 p (0 ∷ []) phases_1 (has 1 e))
    by (goes e b) = (between_e _ _ p b).1
    by (holds_elsewhere e n) = or_at p 4 [] (λ z. absurd (n z)) (none_of p) (has_phase 6 p (4 ∷ []) phases_6 (has 6 e))

no_other : (s : Table) (r : Request) (k : ℕ) → Local r.mv (s.phase r.thread) → s.phase r.thread ≤ 8 → (k ≡ phase_at r.thread → ⊥) → (k ≡ busy_at r.thread → ⊥)
    → MayWrite s r k → ⊥
no_other s r k m l h g (its_phase e) = h e
no_other s r k m l h g (its_busy e) = g e
no_other s r k m l h g (the_subjects e t) = let x = between_e _ _ (s.phase r.thread) t in omega arith
no_other s r k m l h g (the_mutex e t) = local_mutex r.mv (s.phase r.thread) m l t
no_other s r k m l h g (the_target e t) = let x = between_e _ _ (s.phase r.thread) t in omega arith

-- it writes the reader's own phase and busy alone
pub reader-writes : (bytes : List ℕ) (r : Request) → T (local_move (table_of bytes) r) → (k : ℕ) → (k ≡ phase_at r.thread → ⊥) → (k ≡ busy_at r.thread → ⊥)
    → get_or (move_table bytes r) k 0 ≡ get_or bytes k 0
reader-writes bytes r t k h g = by (decided (accepts_in byte_table bytes r))
  where
    by : T (accepts_in byte_table bytes r) ⊎ T (not (accepts_in byte_table bytes r)) → get_or (move_table bytes r) k 0 ≡ get_or bytes k 0
    by (inl u) =
        let s = table_of bytes in
        let m = local_e s r t in
        discipline bytes r k (no_other s r k m (local_phase s r m (accepted_e s r (accepts_e byte_table bytes r u).1)) h g)
    by (inr u) = ap (λ (b : List ℕ). get_or b k 0) (refused-stays byte_table bytes r u)

-- the table as the reader sees it: its own three bytes for every thread's
abbrev own : ℕ → ℕ → ℕ → ℕ → Table
own n p b f = record { threads = n; mutex = 0; target = 0; phase = λ j. p; busy = λ j. b; forbidden = λ j. f }

abbrev own_of : Table → ℕ → Table
own_of s i = own s.threads (s.phase i) (s.busy i) (s.forbidden i)

own_same : (s t : Table) (i : ℕ) → Agree s t i → own_of s i ≡ own_of t i
own_same s t i a = λ k. own (a.threads k) (a.phase k) (a.busy k) (a.forbidden k)

-- its effect is that on what it sees
own-go : (s : Table) (i : ℕ) → T (reader_round (s.phase i)) → go_effect s i ≡ go_effect (own_of s i) i
unfolding go_effect list_of
own-go s i t =
    let p = s.phase i in
    or_at p 1 _ (λ e. rw e)
    (or_at p 2 _ (λ e. rw e)
    (or_at p 3 _ (λ e. rw e)
    (or_at p 4 _ (λ e. rw e)
    (or_at p 5 _ (λ e. rw e) (or_at p 6 _ (λ e. rw e) (or_at p 7 _ (λ e. rw e) (or_at p 8 [] (λ e. rw e) (none_of p))))))))
    (among_range p _ _ t)

own-effect : (s : Table) (r : Request) → Local r.mv (s.phase r.thread) → effect s r ≡ effect (own_of s r.thread) r
unfolding effect
own-effect s r (calls e) = rw e
own-effect s r (goes e b) = rw e (own-go s r.thread b)
own-effect s r (holds_elsewhere e n) = rw e

-- whether it is a retry is told by what it sees
own-retry : (s : Table) (r : Request) → Local r.mv (s.phase r.thread) → is_retry s r ≡ is_retry (own_of s r.thread) r
unfolding is_retry
own-retry s r (calls e) = rw e
own-retry s r (goes e b) =
    let p = s.phase r.thread in
    let not-11 : eqb p 11 ≡ false = T_false (eqb p 11) (not_i (eqb p 11) (λ t. let q = eqb→eq p 11 t in let x = between_e _ _ p b in omega arith)) in
    rw (e, not-11)
own-retry s r (holds_elsewhere e n) = rw e

own-answer : (s : Table) (r : Request) → Local r.mv (s.phase r.thread) → move_answer s r ≡ move_answer (own_of s r.thread) r
own-answer s r t = λ k. moved (own-effect s r t k).shows (own-retry s r t k)

-- refusal 7 isn't for it
reader_goes : (s : Table) (r : Request) (mutex : ℕ) → Local r.mv (s.phase r.thread) → not (must_wait (s.phase r.thread) mutex r.mv) ≡ true
reader_goes s r mutex m =
    let taking = takes_mutex (s.phase r.thread) r.mv in
    T_true (not (taking && eqb mutex 1)) (not_i (taking && eqb mutex 1) (λ u. local_takes r.mv (s.phase r.thread) m (and_l taking (eqb mutex 1) u)))

-- its tests, reply and table after, by what it sees
own-tests : (s : Table) (r : Request) → Local r.mv (s.phase r.thread) → request_tests s r ≡ request_tests (own_of s r.thread) r
own-tests s r t =
    ap
    (λ (b : Bool). test 3 (ltb r.thread s.threads)
    ∷ test 4 (leb r.mv last_move)
    ∷ test 5 (target_fits s.threads r.mv r.target)
    ∷ test 6 (has_move r.mv (s.phase r.thread))
    ∷ test 7 b
    ∷ [])
    (reader_goes s r s.mutex t ∙ sym (reader_goes s r 0 t))

abbrev own_reply : Table → Request → Reply MoveAnswer
own_reply o r = answered (request_tests o r) (move_answer o r)

reader-reply : (s : Table) (r : Request) → T (sound s) → Local r.mv (s.phase r.thread) → step_reply s r ≡ own_reply (own_of s r.thread) r
unfolding step_reply
reader-reply s r z t =
    passed (test 2 (sound s)) (request_tests s r) (move_answer s r) z
    ∙ (ap (λ (ts : List Test). answered ts (move_answer s r)) (own-tests s r t)
    ∙ ap (answered (request_tests (own_of s r.thread) r)) (own-answer s r t))

abbrev own_step : Table → Request → Table → Table
own_step o r s = leaves (own_reply o r) (applied s (effect o r).writes) s

reader-step : (s : Table) (r : Request) → T (sound s) → Local r.mv (s.phase r.thread) → step s r ≡ own_step (own_of s r.thread) r s
unfolding step
reader-step s r z t =
    ap (λ (x : Reply MoveAnswer). leaves x (applied s (effect s r).writes) s) (reader-reply s r z t)
    ∙ ap (λ (x : Effect). leaves (own_reply (own_of s r.thread) r) (applied s x.writes) s) (own-effect s r t)

-- the same writes to tables that agree
agree_one : (s t : Table) (i : ℕ) (w : Write) → Agree s t i → Agree (applied_one s w) (applied_one t w) i
agree_one s t i (mutex≔ v) a = record { threads = a.threads; phase = a.phase; busy = a.busy; forbidden = a.forbidden }
agree_one s t i (target≔ v) a = record { threads = a.threads; phase = a.phase; busy = a.busy; forbidden = a.forbidden }
agree_one s t i (phase≔ j v) a =
    record { threads = a.threads; phase = ap (cond (eqb i j) v) a.phase; busy = a.busy; forbidden = a.forbidden }
agree_one s t i (busy≔ j v) a =
    record { threads = a.threads; phase = a.phase; busy = ap (cond (eqb i j) v) a.busy; forbidden = a.forbidden }
agree_one s t i (forbidden≔ j v) a =
    record { threads = a.threads; phase = a.phase; busy = a.busy; forbidden = ap (cond (eqb i j) v) a.forbidden }

agree_all : (i : ℕ) (ws : List Write) (s t : Table) → Agree s t i → Agree (applied s ws) (applied t ws) i
agree_all i [] s t a = a
agree_all i (w ∷ ws) s t a = agree_all i ws (applied_one s w) (applied_one t w) (agree_one s t i w a)

agree_step : (o s t : Table) (r : Request) → Agree s t r.thread → Agree (own_step o r s) (own_step o r t) r.thread
agree_step o s t r a = by (own_reply o r)
  where
    by : (x : Reply MoveAnswer) → Agree (leaves x (applied s (effect o r).writes) s) (leaves x (applied t (effect o r).writes) t) r.thread
    by (accepted answer) = agree_all r.thread (effect o r).writes s t a
    by (refused number place) = a

-- the same reply and the same three bytes, on records
pub reader_on : (s t : Table) (r : Request) → T (sound s) → T (sound t) → Agree s t r.thread → T (local_move s r)
    → (step_reply s r ≡ step_reply t r) × Agree (step s r) (step t r) r.thread
reader_on s t r y z a m =
    let i = r.thread in
    let o = own_of s i in
    let same : own_of s i ≡ own_of t i = own_same s t i a in
    let u = local_e s r m in
    let v = local_e t r (subst (λ (x : Table). T (local_move x r)) same m) in (
      reader-reply s r y u ∙ (ap (λ (x : Table). own_reply x r) same ∙ sym (reader-reply t r z v)),
      subst (λ (x : Table). Agree x (step t r) i) (sym (reader-step s r y u))
          (subst (λ (x : Table). Agree (own_step o r s) x i) (sym (reader-step t r z v ∙ ap (λ (x : Table). own_step x r t) (sym same))) (agree_step o s t r a)),
    )

-- and on bytes
pub reader_local : (a b : List ℕ) (r : Request) → SoundBytes a → SoundBytes b → Agree (table_of a) (table_of b) r.thread → T (local_move (table_of a) r)
    → (move_reply a r ≡ move_reply b r) × Agree (table_of (move_table a r)) (table_of (move_table b r)) r.thread
reader_local a b r x y g m =
    let on = reader_on (table_of a) (table_of b) r x.is_sound y.is_sound g m in (
      reply-same byte_table a r x.is_sized ∙ (on.0 ∙ sym (reply-same byte_table b r y.is_sized)),
      subst (λ (s : Table). Agree s (table_of (move_table b r)) r.thread) (sym (table_step byte_table byte_keeps a r x.is_sized))
          (subst (λ (s : Table). Agree (step (table_of a) r) s r.thread) (sym (table_step byte_table byte_keeps b r y.is_sized)) on.1),
    )
