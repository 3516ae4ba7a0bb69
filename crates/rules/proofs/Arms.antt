-- What an arm of the rules has to show, from plain facts: the phase or the move that chose it, and the decision that its call answers.
use Prim.Native.Nat.{ℕ, suc, ◌≤◌, ◌<◌}
use native.Mathlib.Omega.{arith}
use mathlib.Core.Bool.{Bool, true, false, cond, ◌&&◌, ◌||◌}
use mathlib.Core.List.{List, [], ◌∷◌}
use mathlib.Core.Logic.{⊎_elim}
use mathlib.Core.Path.{◌≡◌, refl, sym, subst, subst⁻¹, ap, ◌∙◌}
use lib.Dec.{T, eqb, eqb→eq}
use Rattle.definitions.specs.Answers.{quiet}
use Rattle.definitions.specs.Bounds.{last_phase, last_move, no_target}
use Rattle.definitions.specs.Codes.{go, hold}
use Rattle.definitions.specs.Moves.{ask, all_forbidden, go_effect, effect, is_retry, accepts}
use Rattle.definitions.specs.Phases.{rows, has_move}
use Rattle.definitions.specs.Table.{Table, phase≔, target≔}
use Rattle.definitions.specs.Threads.{every, among, between, implies}
use Rattle.definitions.specs.declared.Outcome.TheVariants.{Quiet, Retry}
use Rattle.definitions.specs.declared.Request.{Request}
use Rattle.views.specs.View.{all_forbidden_but, view_at, Follows, Decides}
use Rattle.steps.specs.Steps.{passed, aimed_by}
use Rattle.arms.specs.Looks.{probed}
use Rattle.views.specs.declared.Decided.{Decided}
use Rattle.views.specs.declared.View.{View}
use Rattle.theory.specs.Statements.{subject_of}
use Rattle.arms.proofs.Steps.{asking, follows}
use Rattle.basics.proofs.Matches.{NoneOf, not-among, backwards}
use Rattle.basics.proofs.Quantifiers.{every_at, every_i}
use Rattle.basics.proofs.Tests.{and_l, and_r, and_i, or_e, or_r, no_both, same_test, implies_e}
use Rattle.theory.proofs.Soundness.{sound_e}
use Rattle.theory.proofs.Ways.{accepted_e, go_phases, phases_6, only}
use Rattle.theory.proofs.MoveWrites.{subject-by, subject-thread}

-- ---- one arm

-- a table with one phase for every thread: what an arm's row of the definitions is read off
abbrev pub in_phase : Table → ℕ → Table
in_phase s k =
    record { threads = s.threads; mutex = s.mutex; target = s.target; phase = λ i. k; busy = s.busy; forbidden = s.forbidden }

-- the decision of a function that is called for one move
pub called : (v : View) (mv m : ℕ) (d : Decided) → mv ≡ m → Decides v m d → Decides v mv d
called v mv m d e h = subst⁻¹ (λ (k : ℕ). Decides v k d) e h

-- the row of go in phase k
go-row : (s : Table) (i k : ℕ) → s.phase i ≡ k → go_effect s i ≡ go_effect (in_phase s k) i
unfolding go_effect
go-row s i k e = rw e

-- whether it is a retry there
go-retry : (s : Table) (r : Request) (k : ℕ) → r.mv ≡ go → s.phase r.thread ≡ k → is_retry s r ≡ is_retry (in_phase s k) (asking r go)
unfolding is_retry
go-retry s r k e p = rw (e, p)

-- go, in the list of moves
effect-go : (s : Table) (r : Request) → r.mv ≡ go → effect s r ≡ go_effect s r.thread
unfolding effect
effect-go s r e = ap (λ (m : ℕ). effect s (asking r m)) e

-- an arm of go: what is seen of thread i with subject t
pub record Sees (v : View) (k : ℕ) (s : Table) (i t : ℕ) : Type 0 where
  pub view : v ≡ view_at s i t
  pub subject : t ≡ cond (between 11 12 k) s.target i
  pub thread : t < s.threads

pub go_arm : (v : View) (k : ℕ) (d d' : Decided) → v.mover.phase ≡ k → d ≡ d'
    → ((s : Table) (i t u : ℕ) → Sees v k s i t → Follows (go_effect (in_phase s k) i) (is_retry (in_phase s k) (ask i go u)) v d')
    → Decides v go d
go_arm v k d d' p q f s r a e seen =
    let here : s.phase r.thread ≡ k = sym (ap (λ (x : View). x.mover.phase) seen) ∙ p in
    follows (effect s r) (go_effect (in_phase s k) r.thread) (is_retry s r) (is_retry (in_phase s k) (asking r go)) v d d'
    (effect-go s r e ∙ go-row s r.thread k here) (go-retry s r k e here) q
    (f s r.thread (subject_of s r) r.target (record { view = seen; subject = subject-by s r go k e here; thread = subject-thread s r a }))

-- ---- phase 11

-- every forbidden is 1: that of t, and the others
all_but : (s : Table) (t : ℕ) → t < s.threads → (all_forbidden_but t s && eqb (s.forbidden t) 1) ≡ all_forbidden s
all_but s t l = same_test (all_forbidden_but t s && here) (all_forbidden s) to from
  where
    here : Bool
    here = eqb (s.forbidden t) 1

    to : T (all_forbidden_but t s && eqb (s.forbidden t) 1) → T (all_forbidden s)
    to h =
        every_i (λ j. eqb (s.forbidden j) 1) s.threads (λ j k.
        ⊎_elim (λ e. at_t (and_r (all_forbidden_but t s) _ h) j e) (λ u. u)
        (or_e (eqb j t) _ (every_at (λ j. eqb j t || eqb (s.forbidden j) 1) s.threads (and_l (all_forbidden_but t s) _ h) j k)))
      where
        at_t : T (eqb (s.forbidden t) 1) → (j : ℕ) → T (eqb j t) → T (eqb (s.forbidden j) 1)
        at_t u j e = rw (eqb→eq j t e) u

    from : T (all_forbidden s) → T (all_forbidden_but t s && eqb (s.forbidden t) 1)
    from h =
        and_i (all_forbidden_but t s) _
        (every_i (λ j. eqb j t || eqb (s.forbidden j) 1) s.threads (λ j k. or_r (eqb j t) _ (every_at (λ j. eqb (s.forbidden j) 1) s.threads h j k)))
        (every_at (λ j. eqb (s.forbidden j) 1) s.threads h t l)

-- what phase 11 leaves, by the two tests
by_tests : (v : View) (i : ℕ) (busy all : Bool)
    → Follows (record { writes = cond busy (phase≔ i 12 ∷ []) (phase≔ i (cond all 13 10) ∷ target≔ no_target ∷ []); shows = quiet }) (busy || false) v
    (cond busy (passed v 12 Retry) (aimed_by v (cond all 13 10) no_target v.subject.forbidden Quiet))
by_tests v i true all = record { head = refl; mover = refl; flag = refl; says = refl }
by_tests v i false all = record { head = refl; mover = refl; flag = refl; says = refl }

-- what the writer reads is the busy of the table's target
pub probe_follows : (v : View) (s : Table) (i t u : ℕ) → Sees v 11 s i t → Follows (go_effect (in_phase s 11) i) (is_retry (in_phase s 11) (ask i go u)) v (probed v)
unfolding go_effect is_retry
probe_follows v s i t u seen =
    subst⁻¹ (λ (d : Decided). Follows (go_effect (in_phase s 11) i) (is_retry (in_phase s 11) (ask i go u)) v d)
    (ap (λ (x : View). chosen (eqb x.subject.busy 1) (x.others.set && eqb x.subject.forbidden 1)) seen.view
    ∙ (ap (chosen (eqb (s.busy t) 1)) (all_but s t seen.thread) ∙ ap (λ (x : ℕ). chosen (eqb (s.busy x) 1) (all_forbidden s)) seen.subject))
    (by_tests v i (eqb (s.busy s.target) 1) (all_forbidden s))
  where
    chosen : Bool → Bool → Decided
    chosen busy all = cond busy (passed v 12 Retry) (aimed_by v (cond all 13 10) no_target v.subject.forbidden Quiet)

-- ---- hold

-- it exists in 4, where it is a retry
pub hold-retry : (s : Table) (r : Request) → T (accepts s (asking r hold)) → true ≡ is_retry s (asking r hold)
unfolding is_retry
hold-retry s r a = rw (only 6 (s.phase r.thread) 4 phases_6 (accepted_e s (asking r hold) a).has_move_lem)

-- ---- numbers without an arm

-- the phases that have an arm in go, the last first: those that have a go, by trying the phases
abbrev pub arms_of_go : List ℕ
arms_of_go = backwards go_phases

has_arm : (p : ℕ) → p ≤ last_phase → T (has_move go p) → T (among p arms_of_go)
unfolding rows every among
has_arm p l t =
    implies_e (has_move go p) (among p arms_of_go) (every_at (λ q. implies (has_move go q) (among q arms_of_go)) (suc last_phase) tt p (omega arith)) t

pub idle_arm : (v : View) (d : Decided) → NoneOf v.mover.phase arms_of_go → Decides v go d
idle_arm v d h s r a e seen =
    let k = accepted_e s r a in
    let p = s.phase r.thread in
    let same : v.mover.phase ≡ p = ap (λ (x : View). x.mover.phase) seen in
    let has : T (has_move go p) = subst (λ (m : ℕ). T (has_move m p)) e k.has_move_lem in
    absurd (no_both (among v.mover.phase arms_of_go)
    (subst⁻¹ (λ (x : ℕ). T (among x arms_of_go)) same (has_arm p ((sound_e s k.is_sound).phases r.thread k.thread-fits) has))
    (not-among v.mover.phase arms_of_go h))

pub no_arm : (v : View) (mv : ℕ) (d : Decided) → last_move < mv → Decides v mv d
no_arm v mv d l s r a e seen = let k = (accepted_e s r a).move-fits in absurd (omega arith)
