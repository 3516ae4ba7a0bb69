-- The rules decide what was read, and what they decide is put back.
use Prim.Native.Nat.{ℕ, ◌+◌, ◌≤◌, ◌<◌}
use native.Mathlib.Omega.{arith}
use mathlib.Core.Bool.{cond}
use mathlib.Core.List.{List}
use mathlib.Core.Path.{◌≡◌, subst}
use lib.Dec.{eqb}
use Rattle.std.specs.Prelude.{Ok}
use Rattle.definitions.specs.Answers.{number_of_move}
use Rattle.definitions.specs.Bounds.{most_threads}
use Rattle.definitions.specs.Table.{table_of, byte_table}
use Rattle.definitions.specs.declared.Head.{Head}
use Rattle.definitions.specs.declared.Move.{Move}
use Rattle.definitions.specs.declared.Request.{Request}
use Rattle.definitions.specs.declared.Task.{Task}
use Rattle.theory.specs.Statements.{subject_by, subject_of}
use Rattle.theory.specs.Tables.{Sized, head_of, task_of, put_back}
use Rattle.apply.specs.MoveMade.{MoveTried, Accepting, TwoThreads}
use Rattle.views.specs.View.{view_of, Decides}
use Rattle.views.specs.declared.Decided.{Decided}
use Rattle.views.specs.declared.View.{View}
use Rattle.moving.specs.Moved.{view_by}
use Rattle.moving.proofs.OneMove.{seen_by, count_fits_lem, one_move}
use Rattle.theory.proofs.Bytes.{sized_e, byte_keeps, same_bytes}
use Rattle.theory.proofs.MoveWrites.{subject-thread}
use Rattle.theory.proofs.Ways.{accepted_e}
use Rattle.apply.proofs.apply_request.Goals as goal

-- what an accepted request tells
module _ (bytes : List ℕ) (k : ℕ) (r : Request) (mv : Move) (h : Accepting bytes k r mv) where
  size : Sized bytes
  size = sized_e bytes h.table.tested.is_sized

  mover : r.thread < (table_of bytes).threads
  mover = (accepted_e (table_of bytes) r h.accepted).thread-fits

  -- the subject, from the head and the mover read
  module _ (head : Head) (task : Task) (t : ℕ) (e : head ≡ head_of (table_of bytes)) (f : task ≡ task_of (table_of bytes) r.thread) (g : t ≡ subject_by r task.phase head.target) where
    subject_is : t ≡ subject_of (table_of bytes) r
    subject_is = rw (g, f, e)

    subject_in : t < (table_of bytes).threads
    subject_in = rw subject_is (subject-thread (table_of bytes) r h.accepted)

    both : TwoThreads bytes r.thread t
    both = record { size = size; mover = mover; subject = subject_in }

    -- what is seen, with the subject read
    module _ (u : Task) (w : u ≡ task_of (table_of bytes) t) where
      count-known : (cond (eqb u.forbidden 1) 1 0 ≤ k) × (k ≤ most_threads)
      count-known =
          let fits = count_fits_lem byte_table bytes k h.table t subject_in in
          (rw w fits.0, omega (arith, fits.1, size.most))

      module _ (v : View) (q : v ≡ view_by head task t u k) where
        seen : v ≡ view_of (table_of bytes) r
        seen = rw (q, e, f, w, seen_by byte_table bytes k h.table t subject_in r.thread, subject_is)

        made : (number : ℕ) (d : Decided) (after : List ℕ) (k' : ℕ) → number ≡ number_of_move mv → Decides v number d
            → after ≡ put_back byte_table bytes r.thread t d.head d.mover d.forbidden
            → k' + cond (eqb u.forbidden 1) 1 0 ≡ k + cond (eqb d.forbidden 1) 1 0 → MoveTried bytes r after (Ok (record { outcome = d.outcome; forbidden = k' }))
        made number d after k' same rule put new =
            one_move byte_table bytes k h.table byte_keeps same_bytes r mv h v d seen (subst (λ (m : ℕ). Decides v m d) same rule) after k'
            (rw (put, subject_is)) (rw q new)

-- ---- the answers

pub read_head-head-requires : goal.read_head-head-requires
read_head-head-requires c = size _ _ _ _ c.requires

pub read_task-mover-requires : goal.read_task-mover-requires
read_task-mover-requires c = (size _ _ _ _ c.requires, mover _ _ _ _ c.requires)

pub read_task-subject-requires : goal.read_task-subject-requires
read_task-subject-requires c =
    (size _ _ _ _ c.requires, subject_in _ _ _ _ c.requires _ _ _ c.read_head-head.ensures c.read_task-mover.ensures c.subject_of-number.ensures)

pub view_of-requires : goal.view_of-requires
view_of-requires c =
    let sized = size _ _ _ _ c.requires in
    rw c.read_head-head.ensures
    (sized.least, sized.most, subject_in _ _ _ _ c.requires _ _ _ c.read_head-head.ensures c.read_task-mover.ensures c.subject_of-number.ensures)

pub store-requires : goal.store-requires
store-requires c = both _ _ _ _ c.requires _ _ _ c.read_head-head.ensures c.read_task-mover.ensures c.subject_of-number.ensures

pub recount-requires : goal.recount-requires
recount-requires c =
    count-known _ _ _ _ c.requires _ _ _ c.read_head-head.ensures c.read_task-mover.ensures c.subject_of-number.ensures _ c.read_task-subject.ensures

pub returns : goal.returns
returns c =
    made _ _ _ _ c.requires _ _ _ c.read_head-head.ensures c.read_task-mover.ensures c.subject_of-number.ensures _ c.read_task-subject.ensures
    _ c.view_of.ensures _ _ _ _ c.into.ensures c.decide-decided.ensures c.store.ensures c.recount.ensures
