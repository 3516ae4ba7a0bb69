-- Examples of 02 §8, a dispatcher, against the definitions: its choice in each phase, lowest threads and targets, waiting, and its refusals. Every line computes.
use Prim.Native.Nat.{ℕ}
use mathlib.Core.Bool.{false}
use mathlib.Core.List.{List, [], ◌∷◌}
use mathlib.Core.Path.{◌≡◌, refl}
use Rattle.definitions.specs.Answers.{accepted, refused, Seen, shown, quiet, moved, answered, passes_all}
use Rattle.definitions.specs.Codes.{go, set_move, clear_move}
use Rattle.definitions.specs.Dispatch.{may_dispatch, has_turn_by, has_turn, mover_in, move_for, target_for, is_waiting}
use Rattle.definitions.specs.Dispatch.{made, waiting, turn_answer, turn_reply_in, turn_in, dispatch_reply, dispatch_table}
use Rattle.definitions.specs.Moves.{ask, go_effect, set_effect, clear_effect, effect, is_retry, step_reply, reply_in, step_in}
use Rattle.definitions.specs.Phases.{rows}
use Rattle.definitions.specs.Sound.{phase_rule, flag_rule, busy_rule, holder_rule, mutex_rule, target_rule, open_rule, rule10, rule11, rule13, rule15, elsewhere_rule, sound}
use Rattle.definitions.specs.Table.{sized, stored}
use Rattle.definitions.specs.Threads.{every, some, how_many, lowest, among, all_of}

-- two threads: mutex and target, then each thread's phase, busy and forbidden
abbrev two : ℕ → ℕ → ℕ → ℕ → ℕ → ℕ → ℕ → ℕ → List ℕ
two mutex target p b f q c g = 2 ∷ mutex ∷ target ∷ p ∷ b ∷ f ∷ q ∷ c ∷ g ∷ []

-- a turn that makes a move of thread, move and target, and leaves a table
abbrev Turns : List ℕ → ℕ → ℕ → ℕ → Seen → List ℕ → Type 0
Turns table thread mv target seen after = (dispatch_reply table ≡ accepted (made (ask thread mv target) (moved seen false))) × (dispatch_table table ≡ after)

-- one that waits
abbrev Waits : List ℕ → Type 0
Waits table = (dispatch_reply table ≡ accepted waiting) × (dispatch_table table ≡ table)

pub record DispatchingExamples : Type 0 where
  -- the lowest thread that has a move: 0 before 1, and 1 where 0 has only a call, a retry or a leaving
  pub lowest_first : Turns (two 0 255 1 0 0 1 0 0) 0 go 0 quiet (two 0 255 2 1 0 1 0 0)
  pub free_passed : Turns (two 0 255 0 0 0 5 1 0) 1 go 0 (shown 2) (two 0 255 0 0 0 6 1 0)
  pub retry-passed : Turns (two 0 255 4 0 0 17 0 0) 1 go 0 (shown 8) (two 0 255 4 0 0 0 0 0)
  pub leaving_passed : Turns (two 0 255 6 1 0 8 0 0) 1 go 0 (shown 4) (two 0 255 6 1 0 0 0 0)
  -- "In 10 the target is the lowest thread with forbidden 0, in 15 the lowest with forbidden 1."
  pub in_10 : Turns (two 1 255 10 0 1 0 0 0) 0 set_move 1 quiet (two 1 1 11 0 1 0 0 1) × Turns (two 1 255 0 0 0 10 0 0) 1 set_move 0 quiet (two 1 0 0 0 1 11 0 0)
  pub in_15 : Turns (two 1 255 15 0 0 0 0 1) 0 clear_move 1 quiet (two 1 255 16 0 0 0 0 0) × Turns (two 1 255 15 0 1 0 0 1) 0 clear_move 0 quiet (two 1 255 15 0 0 0 0 1)
  -- in 9 while the mutex is free, in 11 while the target isn't busy
  pub in_9 : Turns (two 0 255 9 0 0 9 0 0) 0 go 0 quiet (two 1 255 10 0 0 9 0 0)
  pub in_11 : Turns (two 1 1 11 0 0 0 0 1) 0 go 0 quiet (two 1 255 10 0 0 0 0 1)
  pub target_first : Turns (two 1 1 11 0 0 2 1 1) 1 go 0 quiet (two 1 1 11 0 0 3 1 1)
  pub in_18 : Turns (two 1 255 18 0 0 0 0 0) 0 go 0 quiet (two 0 255 1 0 0 0 0 0)
  -- waiting: nobody has a move but calls, retries and leavings; a writer in 11 whose target is in Shared; a thread in 9 while the mutex is taken
  pub idle : Waits (two 0 255 0 0 0 0 0 0) × Waits (two 0 255 4 0 0 6 1 0)
  pub held_up : Waits (two 1 1 11 0 0 6 1 1)
  pub before-mutex : Waits (two 1 255 14 0 1 9 0 1)
  -- "(Only 1 and 2 can occur.)"
  pub refusals : (dispatch_reply (2 ∷ 0 ∷ 255 ∷ []) ≡ refused 1 0) × (dispatch_table (2 ∷ 0 ∷ 255 ∷ []) ≡ 2 ∷ 0 ∷ 255 ∷ []) × (dispatch_reply (two 1 255 0 0 0 0 0 0) ≡ refused 2 0)

pub dispatching_examples : DispatchingExamples
unfolding every some how_many lowest among all_of passes_all answered sized stored rows sound phase_rule flag_rule busy_rule holder_rule mutex_rule target_rule open_rule rule10 rule11 rule13 rule15 elsewhere_rule go_effect set_effect clear_effect effect is_retry step_reply reply_in step_in may_dispatch has_turn_by has_turn mover_in move_for target_for is_waiting turn_answer turn_reply_in turn_in
dispatching_examples =
    record {
      lowest_first = (refl, refl);
      free_passed = (refl, refl);
      retry-passed = (refl, refl);
      leaving_passed = (refl, refl);
      in_10 = ((refl, refl), (refl, refl));
      in_15 = ((refl, refl), (refl, refl));
      in_9 = (refl, refl);
      in_11 = (refl, refl);
      target_first = (refl, refl);
      in_18 = (refl, refl);
      idle = ((refl, refl), (refl, refl));
      held_up = (refl, refl);
      before-mutex = (refl, refl);
      refusals = (refl, refl, refl);
    }
