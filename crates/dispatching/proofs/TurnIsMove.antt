-- The dispatcher's move is a move (02 §8): where it answers a request and an answer, the move accepts that request with that answer, and the table left is the move's.
-- The request is no call, no retry and no leaving; and the thread has none by another move, nor with a lower target. For every table.
-- That holds of a turn by any choice that names a thread which has a turn (`turn_by`). The dispatcher's does (`mover_names`), and no thread below the one it names has such a request.
use Prim.Native.Nat.{ℕ, ◌<◌}
use native.Mathlib.Omega.{arith}
use mathlib.Core.List.{List}
use mathlib.Core.Logic.{⊎_elim}
use mathlib.Core.Path.{◌≡◌, sym, subst, ap, ◌∙◌}
use lib.Dec.{T, eqb}
use Rattle.definitions.specs.Answers.{accepted, MoveAnswer}
use Rattle.definitions.specs.Dispatch.{may_dispatch, has_turn, mover_in, target_for, request_of, made, dispatch_reply}
use Rattle.definitions.specs.Moves.{ask, move_answer, move_table}
use Rattle.definitions.specs.Sound.{sound}
use Rattle.definitions.specs.Table.{Table, table_of, sized, byte_table}
use Rattle.definitions.specs.Threads.{lowest}
use Rattle.definitions.specs.declared.Request.{Request}
use Rattle.basics.proofs.Lowest.{lowest_below}
use Rattle.basics.proofs.Tests.{no_both, same?, ne_T, eq_T, cond_no}
use Rattle.theory.proofs.Bytes.{sized_e}
use Rattle.theory.proofs.RequestNumbers.{target_below}
use Rattle.theory.proofs.Soundness.{Sound, sound_e}
use Rattle.theory.proofs.Storages.{accepts_i, accepted-reply}
use Rattle.theory.proofs.Ways.{accepted_e}
use Rattle.dispatching.specs.Ready.{move_by}
use Rattle.dispatching.specs.Turns.{turn_reply, turn_table, NamesTurn, TurnBy, TurnMade}
use Rattle.dispatching.proofs.Choice.{turn-move, turn_may, mover-turn, lower_none}
use Rattle.dispatching.proofs.TurnKinds.{may_e, kind}
use Rattle.dispatching.proofs.TurnReplies.{reply_e, made_e, moves}

-- no target below that of the rule has a flag that the move changes
module _ (s : Table) (z : Sound s) (i mv t : ℕ) (below : t < target_for s i) (u : T (may_dispatch s (ask i mv t))) where
  first : (v : ℕ) → target_for s i ≡ lowest s.threads (λ k. eqb (s.forbidden k) v) → s.forbidden t ≡ v → ⊥
  first v e f = no_both (eqb (s.forbidden t) v) (eq_T (s.forbidden t) v f) (lowest_below (λ k. eqb (s.forbidden k) v) s.threads t (omega (arith, e)))

  not_lower : ⊥
  unfolding target_for
  not_lower =
      let k = kind s z (ask i mv t) (may_e s (ask i mv t) u) in
      ⊎_elim (λ e. first 0 (rw e) (k.sets e))
      (λ h.
      ⊎_elim (λ e. first 1 (rw e) (k.clears e))
      (λ g.
      let zero = cond_no (eqb (s.phase i) 10) (lowest s.threads (λ j. eqb (s.forbidden j) 0)) _ (ne_T (s.phase i) 10 h)
      ∙ cond_no (eqb (s.phase i) 15) (lowest s.threads (λ j. eqb (s.forbidden j) 1)) 0 (ne_T (s.phase i) 15 g) in absurd (omega arith))
      (same? (s.phase i) 15))
      (same? (s.phase i) 10)

-- a turn by any choice that names a thread which has a turn
pub turn_by : (choice : Table → ℕ) → NamesTurn choice → (table : List ℕ) (r : Request) (a : MoveAnswer) → turn_reply choice table ≡ accepted (made r a) → TurnBy choice table r a
turn_by choice names table r a e =
    let s = table_of table in
    let (fits, is_sound, answer) = reply_e choice byte_table table (made r a) e in
    let (t, request, own) = made_e choice s r a answer in
    let its = turn-made table fits is_sound (choice s) (names s is_sound t) (moves choice byte_table table fits is_sound t).1 in
    subst (TurnBy choice table r) own (subst (λ (q : Request). TurnBy choice table q (move_answer s (request_of s (choice s)))) request its)
  where
    turn-made : (bytes : List ℕ) → T (sized bytes) → T (sound (table_of bytes)) → (i : ℕ) → T (has_turn (table_of bytes) i) → let q = request_of (table_of bytes) i in
        turn_table choice bytes ≡ move_table bytes q → TurnBy choice bytes q (move_answer (table_of bytes) q)
    turn-made bytes fits is_sound i turn left =
        let s = table_of bytes in
        let q = request_of s i in
        let z = sound_e s is_sound in
        let m = may_e s q (turn_may s z i turn) in
        let a = accepted_e s q m.accepted in
        record {
          reply = accepted-reply byte_table bytes q (accepts_i byte_table bytes q fits m.accepted);
          left = left;
          numbers =
              record {
                few = (sized_e bytes fits).most;
                thread = a.thread-fits;
                mv = a.move-fits;
                target = target_below s.threads s.threads q.mv q.target (omega arith) (omega arith) a.target_fits_lem;
              };
          no_call = m.no_call;
          no_retry = m.no_retry;
          no_leaving = m.no_leaving;
          one_move = λ x same v. (kind s z x (may_e s x v)).move_is ∙ (ap (λ (j : ℕ). move_by (s.phase j)) same ∙ sym (turn-move s z i turn));
          lowest-target = λ k below v. not_lower s z i q.mv k below v;
        }

-- the dispatcher's names one
pub mover_names : NamesTurn mover_in
mover_names s is_sound t = mover-turn s (sound_e s is_sound) t

-- and no thread below it has a turn
pub turn_is_move : (table : List ℕ) (r : Request) (a : MoveAnswer) → dispatch_reply table ≡ accepted (made r a) → TurnMade table r a
turn_is_move table r a e =
    let s = table_of table in
    let (fits, is_sound, answer) = reply_e mover_in byte_table table (made r a) e in
    let same = (made_e mover_in s r a answer).1 in
    record {
      turn = turn_by mover_in mover_names table r a e;
      lower_none = subst (λ (q : Request). (x : Request) → x.thread < q.thread → T (may_dispatch s x) → ⊥) same (lower_none s (sound_e s is_sound));
    }
