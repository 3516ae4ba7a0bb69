-- What the move answers and leaves, by what the tests of the table and of the request found.
use Prim.Native.Nat.{ℕ}
use mathlib.Core.Bool.{not}
use mathlib.Core.List.{List, []}
use mathlib.Core.Path.{◌≡◌, refl, sym, subst, ap, ◌∙◌}
use lib.Dec.{T}
use Rattle.std.specs.Prelude.{Ok, Err}
use Rattle.definitions.specs.Answers.{Reply, accepted, refused, MoveAnswer, number_of, number_of_move, is_accepted, answered, passes_all}
use Rattle.definitions.specs.Moves.{request_tests, move_tests, move_answer, step_reply, reply_in, move_reply}
use Rattle.definitions.specs.Sound.{table_tests}
use Rattle.definitions.specs.Table.{byte_table, table_of}
use Rattle.definitions.specs.declared.Move.{Move}
use Rattle.definitions.specs.declared.Refusal.{Refusal}
use Rattle.definitions.specs.declared.Request.{Request}
use Rattle.apply.specs.MoveMade.{MoveMade, MoveTried, TestedTable, Accepting}
use Rattle.table.specs.TableTests.{examined_of}
use Rattle.table.specs.declared.tests.Examined.{Examined}
use Rattle.basics.proofs.Replies.{accepted_is, all-passed, behind, in_front_lem, pass}
use Rattle.table.proofs.TableTests.{refusal_is, sound_is, sound-passes}
use Rattle.theory.proofs.Storages.{refused-stays}

-- ---- a request that is turned down

turned_down : (bytes : List ℕ) (r : Request) (x : Refusal) → move_reply bytes r ≡ refused (number_of x) 0 → MoveMade bytes r bytes (Err x)
turned_down bytes r x e =
    record {
      reply = sym e;
      table = sym (refused-stays byte_table bytes r (subst (λ (y : Reply MoveAnswer). T (not (is_accepted y))) (sym e) tt));
    }

-- by the table's own tests
pub table_refused : (bytes : List ℕ) (r : Request) (x : Refusal) → examined_of bytes ≡ Err x → MoveMade bytes r bytes (Err x)
unfolding reply_in
table_refused bytes r x e =
    let answer = move_answer (table_of bytes) r in
    turned_down bytes r x (in_front_lem answer answer (table_tests bytes) (request_tests (table_of bytes) r) (number_of x) 0 (refusal_is answer bytes x e))

-- by the request's
pub request_refused : (bytes : List ℕ) (k : ℕ) (r : Request) (x : Refusal) → TestedTable bytes k
    → refused (number_of x) 0 ≡ answered (request_tests (table_of bytes) r) r.mv → MoveTried bytes r bytes (Err x)
unfolding reply_in
request_refused bytes k r x h e =
    let answer = move_answer (table_of bytes) r in
    let tests = request_tests (table_of bytes) r in
    record {
      made =
          turned_down bytes r x
          (behind answer (table_tests bytes) tests (sound-passes bytes h.tested)
          ∙ in_front_lem answer r.mv tests [] (number_of x) 0 (sym e));
      count = refl;
    }

-- ---- one that is accepted

pub request_passed : (bytes : List ℕ) (k : ℕ) (r : Request) (mv : Move) → TestedTable bytes k
    → accepted (number_of_move mv) ≡ answered (request_tests (table_of bytes) r) r.mv → Accepting bytes k r mv
unfolding step_reply
request_passed bytes k r mv h e =
    let s = table_of bytes in
    let tests : T (passes_all (request_tests s r)) = subst T (ap is_accepted e ∙ accepted_is r.mv (request_tests s r)) tt in
    record {
      table = h;
      accepted = subst T (sym (accepted_is (move_answer s r) (move_tests s r))) (pass _ (request_tests s r) h.tested.is_sound tests);
      same_move = let same = e ∙ all-passed r.mv (request_tests s r) tests in cc;
    }

-- what `examine` found sound
pub found_sound : (bytes : List ℕ) (found : Examined) → examined_of bytes ≡ Ok found → TestedTable bytes found.forbidden
found_sound bytes found e = let f = sound_is bytes found e in record { tested = f.tested; count = f.count }
