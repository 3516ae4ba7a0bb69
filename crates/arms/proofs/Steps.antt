-- What a step of the rules has to show, from plain facts: the decision that it answers follows the effect of every request that looks like the view.
use Prim.Native.Nat.{ℕ}
use mathlib.Core.Bool.{Bool, true, false, cond, ◌||◌, or-false}
use mathlib.Core.List.{[], ◌∷◌}
use mathlib.Core.Path.{◌≡◌, refl, sym, subst, subst⁻¹, ap, ◌∙◌}
use lib.Dec.{T, eqb}
use Rattle.definitions.specs.Answers.{quiet, moved, outcome_answer}
use Rattle.definitions.specs.Codes.{set_move, clear_move}
use Rattle.definitions.specs.Moves.{ask, Effect, none_forbidden_but, set_effect, clear_effect, effect, is_retry, accepts}
use Rattle.definitions.specs.Table.{Table, phase≔, target≔, forbidden≔}
use Rattle.definitions.specs.declared.Request.{Request}
use Rattle.theory.specs.Statements.{subject_by}
use Rattle.theory.specs.Tables.{head_with}
use Rattle.views.specs.View.{view_of, Follows, Decides}
use Rattle.steps.specs.Steps.{unseen_by, aimed_by}
use Rattle.views.specs.declared.Decided.{Decided}
use Rattle.views.specs.declared.View.{View}
use Rattle.basics.proofs.Cases.{or_at, none_of}
use Rattle.theory.proofs.PhaseCases.{has_phase}
use Rattle.theory.proofs.Ways.{accepted_e, phases_3, phases_4, only}

-- the same request with another move
abbrev pub asking : Request → ℕ → Request
asking r mv = ask r.thread mv r.target

-- a decision follows an effect that equals the one it was made by
pub follows : (e e' : Effect) (b b' : Bool) (v : View) (d d' : Decided) → e ≡ e' → b ≡ b' → d ≡ d' → Follows e' b' v d' → Follows e b v d
follows e e' b b' v d d' p o q f =
    rw (p, o, q) f

-- what a decision without an event says
pub unseen_says : (b retry : Bool) → b ≡ retry → outcome_answer (unseen_by b) ≡ moved quiet retry
unseen_says true retry e = rw e
unseen_says false retry e = rw e

-- an arm of the moves
pub move_arm : (v : View) (mv m : ℕ) (d d' : Decided) → mv ≡ m → d ≡ d'
    → ((s : Table) (r : Request) → T (accepts s (asking r m)) → v ≡ view_of s (asking r m) → Follows (effect s (asking r m)) (is_retry s (asking r m)) v d')
    → Decides v mv d
move_arm v mv m d d' k q f s r a e seen =
    let p : r.mv ≡ m = e ∙ k in
    follows (effect s r) (effect s (asking r m)) (is_retry s r) (is_retry s (asking r m)) v d d'
    (ap (λ (x : ℕ). effect s (asking r x)) p) (ap (λ (x : ℕ). is_retry s (asking r x)) p) q
    (f s r (subst (λ (x : ℕ). T (accepts s (asking r x))) p a) (seen ∙ ap (λ (x : ℕ). view_of s (asking r x)) p))

-- ---- set and clear

-- what set leaves, by whether the mover is in 10
abbrev set_by : View → Bool → Bool → Decided
set_by v ten again = cond ten (aimed_by v 11 v.number 1 (unseen_by again)) (aimed_by v v.mover.phase v.head.target 1 (unseen_by again))

-- what clear leaves, by whether every other forbidden is 0
abbrev pub clear_by : View → Bool → Bool → Decided
clear_by v last again = aimed_by v (cond last 16 v.mover.phase) v.head.target 0 (unseen_by again)

module _ (v : View) (i t : ℕ) (again retry : Bool) (says : again ≡ retry) where
  setting : (ten : Bool) → v.number ≡ t
      → Follows (record { writes = cond ten (phase≔ i 11 ∷ forbidden≔ t 1 ∷ target≔ t ∷ []) (forbidden≔ t 1 ∷ []); shows = quiet }) retry v (set_by v ten again)
  setting true e = record { head = ap (λ (x : ℕ). head_with v.head (target≔ x)) e; mover = refl; flag = refl; says = unseen_says again retry says }
  setting false e = record { head = refl; mover = refl; flag = refl; says = unseen_says again retry says }

  clearing : (last : Bool)
      → Follows (record { writes = forbidden≔ t 0 ∷ cond last (phase≔ i 16 ∷ []) []; shows = quiet }) retry v
      (clear_by v last again)
  clearing true = record { head = refl; mover = refl; flag = refl; says = unseen_says again retry says }
  clearing false = record { head = refl; mover = refl; flag = refl; says = unseen_says again retry says }

-- set exists in 10 and 15: in 15 it is a retry, in 10 where the flag is 1 before it
set-retry : (s : Table) (r : Request) → T (accepts s (asking r set_move)) → (eqb (s.phase r.thread) 15 || eqb (s.forbidden r.target) 1) ≡ is_retry s (asking r set_move)
unfolding is_retry
set-retry s r a =
    let p = s.phase r.thread in
    or_at p 10 _ (λ e. rw e (sym (or-false (eqb (s.forbidden r.target) 1)))) (or_at p 15 _ (λ e. rw e) (none_of p))
    (has_phase 3 p _ phases_3 (accepted_e s (asking r set_move) a).has_move_lem)

pub set_arm : (v : View) (d : Decided) → d ≡ set_by v (eqb v.mover.phase 10) (eqb v.mover.phase 15 || eqb v.subject.forbidden 1) → Decides v set_move d
unfolding subject_by effect set_effect
set_arm v d q =
    move_arm v set_move set_move d _ refl q (λ s r a seen.
    let ten : eqb v.mover.phase 10 ≡ eqb (s.phase r.thread) 10 = ap (λ (x : View). eqb x.mover.phase 10) seen in
    rw ten
    (setting v r.thread r.target _ _ (ap (λ (x : View). eqb x.mover.phase 15 || eqb x.subject.forbidden 1) seen ∙ set-retry s r a) (eqb (s.phase r.thread) 10)
    (ap (λ (x : View). x.number) seen)))

-- clear exists in 15, where it is a retry if the flag is 0 before it
clear_retry : (s : Table) (r : Request) → T (accepts s (asking r clear_move)) → eqb (s.forbidden r.target) 0 ≡ is_retry s (asking r clear_move)
unfolding is_retry
clear_retry s r a = rw (only 4 (s.phase r.thread) 15 phases_4 (accepted_e s (asking r clear_move) a).has_move_lem)

pub clear_arm : (v : View) (d : Decided) → d ≡ clear_by v v.others.clear (eqb v.subject.forbidden 0) → Decides v clear_move d
unfolding subject_by effect clear_effect
clear_arm v d q =
    move_arm v clear_move clear_move d _ refl q (λ s r a seen.
    subst⁻¹ (λ (last : Bool). Follows (effect s (asking r clear_move)) (is_retry s (asking r clear_move)) v (clear_by v last (eqb v.subject.forbidden 0)))
    (ap (λ (x : View). x.others.clear) seen)
    (clearing v r.thread r.target _ _ (ap (λ (x : View). eqb x.subject.forbidden 0) seen ∙ clear_retry s r a) (none_forbidden_but r.target s)))
