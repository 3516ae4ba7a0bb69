-- Examples of 02 §1, waiting at the mutex before trying again, against the definitions: what hold and go in 18 do, what is turned down, and how a script says it. Every line computes.
-- Thread 0 is the reader, thread 1 a writer that waits in 9 or holds the mutex in 10.
use Prim.Native.Nat.{ℕ}
use mathlib.Core.Bool.{true, false}
use mathlib.Core.List.{List, [], ◌∷◌}
use mathlib.Core.Path.{◌≡◌, refl}
use Rattle.definitions.specs.Answers.{accepted, refused, quiet, moved, passes_all, answered}
use Rattle.definitions.specs.Codes.{go, hold}
use Rattle.definitions.specs.Forms.{request, bad, act_text, aimed_form, plain_moves, plain_form, act_form, form_of}
use Rattle.definitions.specs.Moves.{ask, go_effect, set_effect, clear_effect, effect, is_retry, step_reply, reply_in, step_in, move_reply, move_table}
use Rattle.definitions.specs.Nodes.{nodes_of}
use Rattle.definitions.specs.OpenMoves.{open_moves}
use Rattle.definitions.specs.Phases.{rows}
use Rattle.definitions.specs.Sound.{sound, phase_rule, flag_rule, busy_rule, holder_rule, mutex_rule, target_rule, open_rule, rule10, rule11, rule13, rule15, elsewhere_rule}
use Rattle.definitions.specs.Table.{table_of, sized, stored}
use Rattle.definitions.specs.Texts.{bytes, same, digits_of, value_from, number_read}
use Rattle.definitions.specs.Threads.{every, some, how_many, among, all_of, list_of, gather}

-- the reader was turned away and the mutex is free; it holds the mutex; it tries again; the writer holds the mutex
abbrev turned_away : List ℕ
turned_away = 2 ∷ 0 ∷ 255 ∷ 4 ∷ 0 ∷ 0 ∷ 9 ∷ 0 ∷ 0 ∷ []

abbrev held : List ℕ
held = 2 ∷ 1 ∷ 255 ∷ 18 ∷ 0 ∷ 0 ∷ 9 ∷ 0 ∷ 0 ∷ []

abbrev again : List ℕ
again = 2 ∷ 0 ∷ 255 ∷ 1 ∷ 0 ∷ 0 ∷ 9 ∷ 0 ∷ 0 ∷ []

abbrev taken : List ℕ
taken = 2 ∷ 1 ∷ 255 ∷ 4 ∷ 0 ∷ 0 ∷ 10 ∷ 0 ∷ 0 ∷ []

pub record WaitingExamples : Type 0 where
  -- "hold, target 0: phase 4 to 18, mutex := 1. Go in 18 leads to 1, mutex := 0. Go in 4 still means that the time ran out."
  pub holds : (move_table turned_away (ask 0 hold 0) ≡ held) × (move_reply turned_away (ask 0 hold 0) ≡ accepted (moved quiet true))
  pub gives_back : (move_table held (ask 0 go 0) ≡ again) × (move_reply held (ask 0 go 0) ≡ accepted (moved quiet false))
  pub time_out : (move_table turned_away (ask 0 go 0) ≡ again) × (move_reply turned_away (ask 0 go 0) ≡ accepted (moved quiet true))
  -- "Refusal 4 is now a move above 6; 7 is also given to hold while the mutex is 1": in their order
  pub no_move : move_reply turned_away (ask 0 7 0) ≡ refused 4 0
  pub no_target_lem : move_reply turned_away (ask 0 hold 1) ≡ refused 5 0
  pub not_in_phase : (move_reply turned_away (ask 1 hold 0) ≡ refused 6 0) × (move_reply held (ask 0 hold 0) ≡ refused 6 0)
  pub mutex-held : (move_reply taken (ask 0 hold 0) ≡ refused 7 0) × (move_reply held (ask 1 go 0) ≡ refused 7 0)
  -- "phase 18, part of ES"
  pub node : nodes_of (table_of held) ≡ 1 ∷ 5 ∷ []
  -- "busy 0: the mutex is held by a reader", "and then every forbidden is 0": beside 18 a raised busy, a free mutex, a target, a forbidden of 1 and a second holder are unsound
  pub busy_raised : move_reply (2 ∷ 1 ∷ 255 ∷ 18 ∷ 1 ∷ 0 ∷ 9 ∷ 0 ∷ 0 ∷ []) (ask 0 go 0) ≡ refused 2 0
  pub mutex_free : move_reply (2 ∷ 0 ∷ 255 ∷ 18 ∷ 0 ∷ 0 ∷ 9 ∷ 0 ∷ 0 ∷ []) (ask 0 go 0) ≡ refused 2 0
  pub targeted : move_reply (2 ∷ 1 ∷ 1 ∷ 18 ∷ 0 ∷ 0 ∷ 9 ∷ 0 ∷ 0 ∷ []) (ask 0 go 0) ≡ refused 2 0
  pub forbidden : move_reply (2 ∷ 1 ∷ 255 ∷ 18 ∷ 0 ∷ 0 ∷ 9 ∷ 0 ∷ 1 ∷ []) (ask 0 go 0) ≡ refused 2 0
  pub two_holders : move_reply (2 ∷ 1 ∷ 255 ∷ 18 ∷ 0 ∷ 0 ∷ 10 ∷ 0 ∷ 0 ∷ []) (ask 0 go 0) ≡ refused 2 0
  -- open moves: in 4 go, and hold only while the mutex is 0; in 18 go
  pub open_free : open_moves (table_of turned_away) 0 ≡ go ∷ 0 ∷ hold ∷ 0 ∷ []
  pub open_taken : open_moves (table_of taken) 0 ≡ go ∷ 0 ∷ []
  pub open_held : open_moves (table_of held) 0 ≡ go ∷ 0 ∷ []
  -- "the script (`(T (hold))`)"
  pub line : form_of (bytes "(0 (hold))") ≡ request (ask 0 hold 0)
  pub line_with_target : form_of (bytes "(0 (hold 0))") ≡ bad

pub waiting_examples : WaitingExamples
unfolding every some how_many among all_of list_of gather passes_all answered sized stored rows sound phase_rule flag_rule busy_rule holder_rule mutex_rule target_rule open_rule rule10 rule11 rule13 rule15 elsewhere_rule go_effect set_effect clear_effect effect is_retry step_reply reply_in step_in open_moves nodes_of bytes same digits_of value_from number_read act_text aimed_form plain_moves plain_form act_form form_of
waiting_examples =
    record {
      holds = (refl, refl);
      gives_back = (refl, refl);
      time_out = (refl, refl);
      no_move = refl;
      no_target_lem = refl;
      not_in_phase = (refl, refl);
      mutex-held = (refl, refl);
      node = refl;
      busy_raised = refl;
      mutex_free = refl;
      targeted = refl;
      forbidden = refl;
      two_holders = refl;
      open_free = refl;
      open_taken = refl;
      open_held = refl;
      line = refl;
      line_with_target = refl;
    }
