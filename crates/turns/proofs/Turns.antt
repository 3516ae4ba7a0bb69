-- A line's turn, from what its move answered, and from its form.
use Prim.Native.Nat.{ℕ, ◌<◌}
use native.Mathlib.Omega.{arith}
use mathlib.Core.Bool.{true, false, cond}
use mathlib.Core.List.{List, [], ◌∷◌}
use mathlib.Core.Path.{◌≡◌, refl, sym, subst, ap, ◌∙◌}
use lib.Dec.{T}
use Rattle.std.specs.Prelude.{Result, Ok, Err}
use Rattle.definitions.specs.Answers.{Reply, is_accepted, shown, quiet, MoveAnswer, moved, code_of, number_of, outcome_reply, answered}
use Rattle.definitions.specs.Forms as spec
use Rattle.definitions.specs.Moves.{move_reply}
use Rattle.definitions.specs.Run.{Turn, makes, turn_for, turn_of}
use Rattle.definitions.specs.Table.{table_of, byte_table}
use Rattle.definitions.specs.declared.Event.{Event}
use Rattle.definitions.specs.declared.Outcome.{Outcome}
use Rattle.definitions.specs.declared.Outcome.TheVariants as outcome
use Rattle.definitions.specs.declared.Refusal.{Refusal}
use Rattle.definitions.specs.declared.Request.{Request}
use Rattle.apply.specs.MoveMade.{TestedTable, MoveTried}
use Rattle.moving.specs.declared.Made.{Made}
use Rattle.text.specs.Cursors.{HasRoom, Puts}
use Rattle.text.specs.declared.Output.{Output}
use Rattle.theory.specs.Tables.{SoundBytes, forbidden_count}
use Rattle.turns.specs.Steps.{pair_bytes, added, PassedOn, StoppedBy, Stepped}
use Rattle.turns.specs.declared.Passed.{Passed}
use Rattle.text.proofs.Cursors.{puts_none}
use Rattle.theory.proofs.Bytes.{sized_e}
use Rattle.theory.proofs.LineTurns.{request-turn}
use Rattle.theory.proofs.Storages.{accepts_e}
use Rattle.theory.proofs.Ways.{accepted_e}

-- ---- from what the move answered

module _ (bytes : List ℕ) (r : Request) (after : List ℕ) (tried : Result Made Refusal) (t : MoveTried bytes r after tried) where
  -- a refusal stops the run
  pub refused-stops : (x : Refusal) (history : Output) → tried ≡ Err x → StoppedBy (turn_for r (move_reply bytes r)) history history (number_of x)
  refused-stops x history d = record { stopped = ap (turn_for r) (sym (rw d at t.made.reply)); kept = refl }

  -- anything else lets it go on
  module _ (m : Made) (d : tried ≡ Ok m) where
    counted : m.forbidden ≡ forbidden_count (table_of after)
    counted = rw d at t.count

    reply-by : (o : Outcome) → m.outcome ≡ o → move_reply bytes r ≡ outcome_reply (Ok o)
    reply-by o e = sym (rw d at t.made.reply) ∙ ap (λ (x : Outcome). outcome_reply (Ok x)) e

    turn_by : (o : Outcome) → m.outcome ≡ o → turn_for r (move_reply bytes r) ≡ turn_for r (outcome_reply (Ok o))
    turn_by o e = ap (turn_for r) (reply-by o e)

    passed_on : (turn : Turn) (answer : MoveAnswer) {history history' : Output} → turn ≡ makes r answer → Puts history (pair_bytes r.thread answer.seen) history'
        → PassedOn turn bytes history after history' (record { moves = 1; retries = cond answer.retry 1 0; forbidden = m.forbidden })
    passed_on turn answer e p =
        rw e (record { passed = refl; bytes = t.made.table; put = p; made = refl; retried = refl; count = counted })

    module _ {history : Output} (room : HasRoom history (added (turn_for r (move_reply bytes r)))) where
      room_by : (turn : Turn) → turn_for r (move_reply bytes r) ≡ turn → HasRoom history (added turn)
      room_by turn e = subst (λ (t : Turn). HasRoom history (added t)) e room

      pub quiet-passes : m.outcome ≡ outcome.Quiet
          → PassedOn (turn_for r (move_reply bytes r)) bytes history after history (record { moves = 1; retries = 0; forbidden = m.forbidden })
      quiet-passes e =
          let turn = turn_by outcome.Quiet e in
          passed_on (turn_for r (move_reply bytes r)) (moved quiet false) turn (puts_none (room_by (makes r (moved quiet false)) turn))

      pub retry-passes : m.outcome ≡ outcome.Retry
          → PassedOn (turn_for r (move_reply bytes r)) bytes history after history (record { moves = 1; retries = 1; forbidden = m.forbidden })
      retry-passes e =
          let turn = turn_by outcome.Retry e in
          passed_on (turn_for r (move_reply bytes r)) (moved quiet true) turn (puts_none (room_by (makes r (moved quiet true)) turn))

    module _ (x : Event) (e : m.outcome ≡ outcome.Shown x) where
      -- its thread is one of the table's, so it fits a byte
      pub mover-fits : r.thread < 256
      mover-fits =
          let a = accepts_e byte_table bytes r (subst (λ (x : Reply MoveAnswer). T (is_accepted x)) (sym (reply-by (outcome.Shown x) e)) tt) in
          omega (arith, (accepted_e (table_of bytes) r a.1).thread-fits, (sized_e bytes a.0).most)

      module _ (code : ℕ) (coded : code ≡ code_of x) where
        event-turn : turn_for r (move_reply bytes r) ≡ makes r (moved (shown code) false)
        event-turn = turn_by (outcome.Shown x) e ∙ ap (λ (k : ℕ). makes r (moved (shown k) false)) (sym coded)

        pub event-room : {history : Output} → HasRoom history (added (turn_for r (move_reply bytes r))) → HasRoom history (r.thread ∷ code ∷ [])
        event-room {history} h = subst (λ (t : Turn). HasRoom history (added t)) event-turn h

        pub event-passes : {history history' : Output} → Puts history (r.thread ∷ code ∷ []) history'
            → PassedOn (turn_for r (move_reply bytes r)) bytes history after history' (record { moves = 1; retries = 0; forbidden = m.forbidden })
        event-passes p = passed_on (turn_for r (move_reply bytes r)) (moved (shown code) false) event-turn p

-- ---- from its form

module _ (f : spec.Form) (table : List ℕ) where
  pub threads-stops : (n : ℕ) (history : Output) → spec.threads n ≡ f → StoppedBy (turn_of table f) history history 8
  unfolding answered
  threads-stops n history e = rw (← e) (record { stopped = refl; kept = refl })

  pub bad-stops : (history : Output) → spec.bad ≡ f → StoppedBy (turn_of table f) history history 8
  unfolding answered
  bad-stops history e = rw (← e) (record { stopped = refl; kept = refl })

  pub note-passes : {count : ℕ} {history : Output} → TestedTable table count → HasRoom history (added (turn_of table f)) → spec.note ≡ f
      → PassedOn (turn_of table f) table history table history (record { moves = 0; retries = 0; forbidden = count })
  unfolding answered
  note-passes {count} {history} h room e =
      let room = subst (λ (x : spec.Form). HasRoom history (added (turn_of table x))) (sym e) room in
      rw (← e) (record { passed = refl; bytes = refl; put = puts_none room; made = refl; retried = refl; count = h.count })

  module _ (tested : SoundBytes table) (r : Request) (e : spec.request r ≡ f) where
    turned : turn_of table f ≡ turn_for r (move_reply table r)
    turned = ap (turn_of table) (sym e) ∙ request-turn table r tested

    pub request-room : {history : Output} → HasRoom history (added (turn_of table f)) → HasRoom history (added (turn_for r (move_reply table r)))
    request-room {history} h = subst (λ (t : Turn). HasRoom history (added t)) turned h

    pub request_steps : (history : Output) (table' : List ℕ) (history' : Output) (s : Result Passed Refusal)
        → Stepped (turn_for r (move_reply table r)) table history table' history' s → Stepped (turn_of table f) table history table' history' s
    request_steps history table' history' s h = subst (λ (t : Turn). Stepped t table history table' history' s) (sym turned) h
