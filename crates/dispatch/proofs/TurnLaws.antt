-- What a turn answers and leaves, by what was chosen.
use Prim.Native.Nat.{ℕ}
use mathlib.Core.Bool.{false, not}
use mathlib.Core.List.{List}
use mathlib.Core.Path.{◌≡◌, sym, subst, ap, ◌∙◌}
use lib.Dec.{T}
use Rattle.std.specs.Prelude.{Ok, Err, Option}
use Rattle.definitions.specs.Answers.{Reply, accepted, refused, number_of, is_accepted, MoveAnswer, moved, outcome_answer, event_seen, shown_in}
use Rattle.definitions.specs.Dispatch.{mover_in, chosen, is_waiting, DispatchAnswer, turn_answer, turn_reply_in, dispatch_reply}
use Rattle.definitions.specs.Moves.{is_retry, move_answer, move_table}
use Rattle.definitions.specs.Table.{Table, table_of, byte_table}
use Rattle.definitions.specs.declared.Dispatched.TheVariants as dispatched
use Rattle.definitions.specs.declared.Event.{Event}
use Rattle.definitions.specs.declared.Outcome.{Outcome}
use Rattle.definitions.specs.declared.Outcome.TheVariants as outcome
use Rattle.definitions.specs.declared.Refusal.{Refusal}
use Rattle.definitions.specs.declared.Request.{Request}
use Rattle.apply.specs.MoveMade.{MoveTried, TestedTable}
use Rattle.moving.specs.declared.Made.{Made}
use Rattle.choice.specs.Choosing.{asked}
use Rattle.choice.specs.declared.request.Chosen.{Chosen}
use Rattle.dispatching.proofs.Choice.{chosen_may}
use Rattle.dispatching.proofs.TurnKinds.{May, may_e}
use Rattle.dispatching.proofs.TurnReplies.{refused-keeps, waits, moves}
use Rattle.lock.proofs.MoveReplies as tested
use Rattle.table.specs.TableTests.{examined_of}
use Rattle.table.specs.declared.tests.Examined.{Examined}
use Rattle.basics.proofs.Tests.{T_false}
use Rattle.table.proofs.TableTests.{refusal_is, sound_is}
use Rattle.theory.proofs.Bytes.{sized_e}
use Rattle.theory.proofs.Soundness.{sound_e}
use Rattle.theory.proofs.Storages.{accepts_i, accepted-reply}
use Rattle.dispatch.specs.Turned.{TurnTaken, TurnTable}

-- a move that is no retry is answered by an event or quiet
event_is : (o : Outcome) (a : MoveAnswer) → outcome_answer o ≡ a → a.retry ≡ false → moved (event_seen (shown_in o)) false ≡ a
event_is (outcome.Shown e) a h f = h
event_is outcome.Quiet a h f = h
event_is outcome.Retry a h f = absurd (subst T (ap (λ (x : MoveAnswer). x.retry) h ∙ f) tt)

module _ (bytes : List ℕ) (k : ℕ) (h : TestedTable bytes k) where
  abbrev s : Table
  s = table_of bytes

  pub nobody_turn : T (is_waiting s) → TurnTaken bytes bytes (Ok (record { answer = dispatched.Waiting; forbidden = k }))
  nobody_turn t =
      let (reply, left) = waits mover_in byte_table bytes h.tested.is_sized h.tested.is_sound t in
      record { turned = record { reply = sym reply; table = sym left }; count = h.count }

  module _ (c : Chosen) (someone : T (not (is_waiting s))) (same : asked c ≡ chosen s) where
    abbrev r : Request
    r = asked c

    may : May s r
    may = may_e s r (rw same (chosen_may s (sound_e s h.tested.is_sound) someone))

    pub made_turn : (after : List ℕ) (m : Made) (event : Option Event) → MoveTried bytes r after (Ok m) → event ≡ shown_in m.outcome
        → TurnTaken bytes after (Ok (record { answer = dispatched.Moved c.thread c.mv c.target event; forbidden = m.forbidden }))
    made_turn after m event tried f =
        let (reply, left) = moves mover_in byte_table bytes h.tested.is_sized h.tested.is_sound someone in
        let answer : accepted (outcome_answer m.outcome) ≡ accepted (move_answer s r) =
        tried.made.reply ∙ accepted-reply byte_table bytes r (accepts_i byte_table bytes r h.tested.is_sized may.accepted) in
        let seen = event_is m.outcome (move_answer s r) (cc) (T_false (is_retry s r) may.no_retry) in
        record {
          turned =
              record {
                reply = rw (f, seen, same) (sym reply);
                table = tried.made.table ∙ (ap (move_table bytes) same ∙ sym left);
              };
          count = tried.count;
        }

    pub not_refused : (after : List ℕ) (x : Refusal) → MoveTried bytes r after (Err x) → TurnTaken bytes after (Err x)
    not_refused after x tried =
        let answer : refused (number_of x) 0 ≡ accepted (move_answer s r) =
        tried.made.reply ∙ accepted-reply byte_table bytes r (accepts_i byte_table bytes r h.tested.is_sized may.accepted) in
        cc

-- ---- the tests

pub table_refused : (bytes : List ℕ) (x : Refusal) → examined_of bytes ≡ Err x → TurnTaken bytes bytes (Err x)
unfolding turn_reply_in
table_refused bytes x e =
    let d : dispatch_reply bytes ≡ refused (number_of x) 0 = refusal_is (turn_answer mover_in (table_of bytes)) bytes x e in
    record {
      turned = record { reply = sym d; table = sym (refused-keeps mover_in byte_table bytes (subst (λ (y : Reply DispatchAnswer). T (not (is_accepted y))) (sym d) tt)) };
      count = tt;
    }

pub found_sound : (bytes : List ℕ) (told : Examined) → examined_of bytes ≡ Ok told → TurnTable bytes told
found_sound bytes told e =
    let f = sound_is bytes told e in
    record {
      counted = record { counted = record { size = sized_e bytes f.tested.is_sized; count = f.threads }; is_sound = f.tested.is_sound };
      tested = tested.found_sound bytes told e;
    }
