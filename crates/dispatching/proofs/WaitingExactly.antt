-- The dispatcher waits exactly if it may make no request (02 §8): it answers waiting exactly for the tables that pass the tests 1 and 2 and in which no request with any numbers is accepted
-- that is no call, no retry and no leaving; and then the table stays (`waiting_exactly`, `waiting_stays`).
-- It refuses by 1 exactly if the size is wrong, by 2 exactly if that is right and the table isn't sound, and keeps the table (`refused_so`).
-- All of it holds by any choice of the thread that moves (`waiting-any`, `stays-any`, `refused-any`).
use Prim.Native.Nat.{ℕ}
use mathlib.Core.Bool.{not}
use mathlib.Core.List.{List, [], ◌∷◌}
use mathlib.Core.Logic.{◌⊎◌, inl, inr, ◌↔◌}
use mathlib.Core.Path.{◌≡◌, sym, subst, ap₂, ◌∙◌}
use lib.Dec.{T}
use Rattle.definitions.specs.Answers.{Reply, accepted, refused, is_accepted, Test, test}
use Rattle.definitions.specs.Dispatch.{mover_in, is_waiting, DispatchAnswer, waiting, turn_answer, turn_reply_in, dispatch_reply, dispatch_table}
use Rattle.definitions.specs.Sound.{sound}
use Rattle.definitions.specs.Table.{Table, table_of, sized, byte_table}
use Rattle.theory.specs.Tables.{SoundBytes}
use Rattle.basics.proofs.Replies.{passed, failed}
use Rattle.basics.proofs.Tests.{decided}
use Rattle.theory.proofs.Soundness.{sound_e}
use Rattle.dispatching.specs.Turns.{turn_reply, turn_table, RefusedBy, TurnRefusedBy, TurnRefused, NoTurn}
use Rattle.dispatching.proofs.Choice.{none_may, none_waits}
use Rattle.dispatching.proofs.TurnReplies.{waiting_e, reply_e, refused-keeps, reply_is, waits}

module _ (choice : Table → ℕ) (table : List ℕ) where
  -- what waiting says of the table
  waits_so : turn_reply choice table ≡ accepted waiting → SoundBytes table × T (is_waiting (table_of table))
  waits_so e = let (fits, is_sound, turn) = reply_e choice byte_table table waiting e in (record { is_sized = fits; is_sound = is_sound }, waiting_e choice (table_of table) turn)

  pub waiting-any : (turn_reply choice table ≡ accepted waiting) ↔ (SoundBytes table × NoTurn table)
  waiting-any = (
    λ e. let (g, t) = waits_so e in (g, none_may (table_of table) (sound_e (table_of table) g.is_sound) t),
    λ (g, none). (waits choice byte_table table g.is_sized g.is_sound (none_waits (table_of table) (sound_e (table_of table) g.is_sound) none)).0,
  )

  -- "it says waiting and changes nothing"
  pub stays-any : turn_reply choice table ≡ accepted waiting → turn_table choice table ≡ table
  stays-any e = let (g, t) = waits_so e in (waits choice byte_table table g.is_sized g.is_sound t).1

  -- "(Only 1 and 2 can occur.)": what it answers to a table that fails the tests 1 and 2
  abbrev second : List Test
  second = test 2 (sound (table_of table)) ∷ []

  by_one : T (not (sized table)) → turn_reply choice table ≡ refused 1 0
  unfolding turn_reply_in
  by_one t = failed (test 1 (sized table)) second (turn_answer choice (table_of table)) t

  by_two : T (sized table) → T (not (sound (table_of table))) → turn_reply choice table ≡ refused 2 0
  unfolding turn_reply_in
  by_two t u =
      let turn = turn_answer choice (table_of table) in
      passed (test 1 (sized table)) second turn t ∙ failed (test 2 (sound (table_of table))) [] turn u

  pub refused-any : (number place : ℕ) → (turn_reply choice table ≡ refused number place) ↔ TurnRefusedBy choice table number place
  refused-any number place = (λ e. by e (decided (sized table)) (decided (sound (table_of table))), λ f. back f f.one_or_two)
    where
      kept : turn_reply choice table ≡ refused number place → turn_table choice table ≡ table
      kept e = refused-keeps choice byte_table table (subst (λ (x : Reply DispatchAnswer). T (not (is_accepted x))) (sym e) tt)

      by : turn_reply choice table ≡ refused number place → T (sized table) ⊎ T (not (sized table)) → T (sound (table_of table)) ⊎ T (not (sound (table_of table)))
          → TurnRefusedBy choice table number place
      by e (inr t) u = let d = by_one t in record { one_or_two = inl (cc, t); no_place = cc; stays = kept e }
      by e (inl t) (inr u) = let d = by_two t u in record { one_or_two = inr (cc, t, u); no_place = cc; stays = kept e }
      by e (inl t) (inl u) = let d = reply_is choice byte_table table t u in absurd (subst (λ (x : Reply DispatchAnswer). T (is_accepted x)) (sym d ∙ e) tt)

      back : TurnRefusedBy choice table number place → RefusedBy table number → turn_reply choice table ≡ refused number place
      back f (inl (e, t)) = by_one t ∙ sym (ap₂ refused e f.no_place)
      back f (inr (e, t, u)) = by_two t u ∙ sym (ap₂ refused e f.no_place)

-- the dispatcher's
pub waiting-says : (table : List ℕ) → dispatch_reply table ≡ accepted waiting → SoundBytes table × T (is_waiting (table_of table))
waiting-says = waits_so mover_in

pub waiting_exactly : (table : List ℕ) → (dispatch_reply table ≡ accepted waiting) ↔ (SoundBytes table × NoTurn table)
waiting_exactly = waiting-any mover_in

pub waiting_stays : (table : List ℕ) → dispatch_reply table ≡ accepted waiting → dispatch_table table ≡ table
waiting_stays = stays-any mover_in

pub refused_so : (table : List ℕ) (number place : ℕ) → (dispatch_reply table ≡ refused number place) ↔ TurnRefused table number place
refused_so = refused-any mover_in
