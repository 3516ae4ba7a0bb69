-- One accepted move over any storage: what is seen of a head, a mover and a subject is the view that the rules ask for (`seen_by`),
-- and where what they decide is put back, it is the move's (`one_move`). For every storage that keeps what is written and whose table tells it.
use Prim.Native.Nat.{ℕ, ◌+◌, ◌≤◌, ◌<◌}
use native.Mathlib.Omega.{arith}
use mathlib.Core.Bool.{Bool, cond}
use mathlib.Core.Path.{◌≡◌, sym, subst⁻¹, ap, ◌∙◌}
use lib.Dec.{eqb}
use Rattle.std.specs.Prelude.{Ok}
use Rattle.definitions.specs.Answers.{number_of_move, accepted}
use Rattle.definitions.specs.Moves.{effect}
use Rattle.definitions.specs.Table.{Table, Storage, applied}
use Rattle.definitions.specs.declared.Move.{Move}
use Rattle.definitions.specs.declared.Request.{Request}
use Rattle.views.specs.View.{all_forbidden_but, others_by, view_at, view_of, Decides}
use Rattle.views.specs.declared.Decided.{Decided}
use Rattle.views.specs.declared.View.{View}
use Rattle.theory.specs.Statements.{subject_of}
use Rattle.theory.specs.Tables.{Keeps, Told, forbidden_count, head_of, task_of, put_back, head_after, mover_after, flag_after}
use Rattle.moving.specs.Moved.{MoveTriedIn, TestedIn, AcceptingIn, view_by}
use Rattle.basics.proofs.Quantifiers.{how_many-most}
use Rattle.theory.proofs.MoveWrites.{writes_fit}
use Rattle.theory.proofs.Placed.{MadeBy, count_placed, store_law}
use Rattle.theory.proofs.Soundness.{sound_e}
use Rattle.theory.proofs.Storages.{accepts_i, accepted-reply, accepted_stores}
use Rattle.moving.proofs.Counts.{flag_one, share_most, none_but, all_but}

module _ {B : Type 0} (S : Storage B) (b : B) (k : ℕ) (h : TestedIn S b k) where
  abbrev s : Table
  s = S.table b

  -- ---- what is seen

  module _ (t : ℕ) (l : t < s.threads) where
    flags : (j : ℕ) → j < s.threads → s.forbidden j ≤ 1
    flags = (sound_e s h.tested.is_sound).flags

    flag-most : s.forbidden t ≤ k
    unfolding forbidden_count
    flag-most = subst⁻¹ (λ (x : ℕ). s.forbidden t ≤ x) h.count (share_most s.threads t s.forbidden l flags)

    count_most : k ≤ s.threads
    unfolding forbidden_count
    count_most = subst⁻¹ (λ (x : ℕ). x ≤ s.threads) h.count (how_many-most _ s.threads)

    others_seen : others_by s.threads k (s.forbidden t) ≡ (view_at s t t).others
    unfolding forbidden_count
    others_seen =
        let n = s.threads in
        let flag = s.forbidden in
        ap (λ (x : ℕ). others_by n x (flag t)) h.count
        ∙ ap (λ (b : Bool). record { set = b; clear = eqb (forbidden_count s) (flag t) }) (sym (all_but n t flag l flags))
        ∙ ap (λ (b : Bool). record { set = all_forbidden_but t s; clear = b }) (sym (none_but n t flag l flags))

    pub seen_by : (i : ℕ) → view_by (head_of s) (task_of s i) t (task_of s t) k ≡ view_at s i t
    seen_by i = ap (λ o. record { head = head_of s; mover = task_of s i; number = t; subject = task_of s t; others = o }) others_seen

    -- the count that is handed on can be changed by the subject's flag
    pub count_fits_lem : (cond (eqb (s.forbidden t) 1) 1 0 ≤ k) × (k ≤ s.threads)
    count_fits_lem = (omega (arith, flag_one (s.forbidden t) (flags t l), flag-most), count_most)

  -- ---- what is left

  module _ (keeps : Keeps S) (told : Told S) (r : Request) (mv : Move) (a : AcceptingIn S b k r mv) (v : View) (d : Decided) (seen : v ≡ view_of s r) (rule : Decides v (number_of_move mv) d) where
    decided : MadeBy s r d.head d.mover d.forbidden
    decided =
        let follows = rule s r a.accepted a.same_move seen in
        let ws = (effect s r).writes in
        record {
          head = follows.head ∙ ap (λ (x : View). head_after x.head ws) seen;
          mover = follows.mover ∙ ap (λ (x : View). mover_after x.mover ws) seen;
          flag = follows.flag ∙ ap (λ (x : View). flag_after x.subject.forbidden ws) seen;
        }

    pub one_move : (after : B) (k' : ℕ) → after ≡ put_back S b r.thread (subject_of s r) d.head d.mover d.forbidden
        → k' + cond (eqb v.subject.forbidden 1) 1 0 ≡ k + cond (eqb d.forbidden 1) 1 0
        → MoveTriedIn S b r after (Ok (record { outcome = d.outcome; forbidden = k' }))
    one_move after k' put new =
        let fits = h.tested.is_sized in
        let ok = accepts_i S b r fits a.accepted in
        let left : after ≡ S.store b (effect s r).writes = put ∙ store_law S keeps told b fits r a.accepted d.head d.mover d.forbidden decided in
        let was : ◌≡◌ {A = ℕ} (cond (eqb v.subject.forbidden 1) 1 0) (cond (eqb (s.forbidden (subject_of s r)) 1) 1 0) = ap (λ (x : View). cond (eqb x.subject.forbidden 1) 1 0) seen in
        let counted = count_placed s r a.accepted d.head d.mover d.forbidden decided in
        let now-count : forbidden_count (S.table after) ≡ forbidden_count (applied s (effect s r).writes) =
        ap (λ (x : B). forbidden_count (S.table x)) left ∙ ap forbidden_count (keeps.writes b (effect s r).writes fits (writes_fit s r a.accepted)) in
        let known = h.count in
        record {
          made =
              record {
                reply = ap accepted (rule s r a.accepted a.same_move seen).says ∙ sym (accepted-reply S b r ok);
                table = left ∙ sym (accepted_stores S b r ok);
              };
          count = omega arith;
        }
