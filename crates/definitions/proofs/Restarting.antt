-- Examples of 02 §6, tables that nothing could have left behind, against the definitions: tables with every thread in 3, 4 and 18 are turned down by 2, those with one elsewhere are not.
-- Every line computes.
use Prim.Native.Nat.{ℕ}
use mathlib.Core.Bool.{Bool, true, false}
use mathlib.Core.List.{List, [], ◌∷◌}
use mathlib.Core.Path.{◌≡◌, refl}
use Rattle.definitions.specs.Answers.{accepted, refused, shown, quiet, moved, passes_all, answered}
use Rattle.definitions.specs.Chains.{after_in, table_after, accepts_all_in, accepts_all}
use Rattle.definitions.specs.Codes.{go, call_shared, call_exclusive, set_move, clear_move}
use Rattle.definitions.specs.Moves.{ask, go_effect, set_effect, clear_effect, effect, is_retry, reply_in, step_in, move_reply}
use Rattle.definitions.specs.Phases.{rows}
use Rattle.definitions.specs.Sound.{sound, phase_rule, flag_rule, busy_rule, holder_rule, mutex_rule, target_rule, open_rule, rule10, rule11, rule13, rule15, elsewhere_rule, table_tests}
use Rattle.definitions.specs.Table.{sized, stored, fresh}
use Rattle.definitions.specs.Threads.{every, some, how_many, among, all_of}
use Rattle.definitions.specs.declared.Request.{Request}

-- a table of one thread, which is in that phase with that mutex and busy
abbrev alone : ℕ → ℕ → ℕ → List ℕ
alone mutex phase busy = 1 ∷ mutex ∷ 255 ∷ phase ∷ busy ∷ 0 ∷ []

-- tables of three threads without a holder, and with a reader in 18 as thread 0
abbrev three : ℕ → ℕ → ℕ → ℕ → ℕ → ℕ → List ℕ
three p b q c r d = 3 ∷ 0 ∷ 255 ∷ p ∷ b ∷ 0 ∷ q ∷ c ∷ 0 ∷ r ∷ d ∷ 0 ∷ []

abbrev waiting : ℕ → ℕ → ℕ → ℕ → List ℕ
waiting q c r d = 3 ∷ 1 ∷ 255 ∷ 18 ∷ 0 ∷ 0 ∷ q ∷ c ∷ 0 ∷ r ∷ d ∷ 0 ∷ []

-- a table passes the tests 1 and 2
abbrev passes : List ℕ → Bool
passes bytes = passes_all (table_tests bytes)

-- thread 0 backs off from thread 1, which then goes through its round to the end
abbrev backs_off : List Request
backs_off =
    ask 1 call_exclusive 0
    ∷ ask 1 go 0
    ∷ ask 0 call_shared 0
    ∷ ask 0 go 0
    ∷ ask 1 set_move 0
    ∷ ask 0 go 0
    ∷ ask 0 go 0
    ∷ ask 1 go 0
    ∷ ask 1 set_move 1
    ∷ ask 1 go 0
    ∷ ask 1 go 0
    ∷ ask 1 go 0
    ∷ ask 1 clear_move 0
    ∷ ask 1 clear_move 1
    ∷ ask 1 go 0
    ∷ ask 1 go 0
    ∷ []

pub record RestartingExamples : Type 0 where
  -- "one came back with all threads in phases 3 and 4"
  pub all_3_and_4 : move_reply (three 3 1 4 0 3 1) (ask 0 go 0) ≡ refused 2 0
  pub all_3 : passes (three 3 1 3 1 3 1) ≡ false
  pub all_4 : passes (three 4 0 4 0 4 0) ≡ false
  -- "not every thread is in phases 3, 4 and 18"
  pub with_18 : move_reply (waiting 4 0 3 1) (ask 0 go 0) ≡ refused 2 0
  -- with one thread elsewhere, whichever it is, the table passes
  pub first_elsewhere : (move_reply (three 0 0 4 0 3 1) (ask 0 call_shared 0) ≡ accepted (moved (shown 1) false)) × (passes (three 6 1 4 0 3 1) ≡ true)
  pub middle_elsewhere : (passes (three 3 1 17 0 4 0) ≡ true) × (passes (waiting 9 0 4 0) ≡ true)
  pub last_elsewhere : (move_reply (waiting 3 1 0 0) (ask 0 go 0) ≡ accepted (moved quiet false)) × (passes (three 3 1 4 0 1 0) ≡ true)
  -- "For one thread this bars these phases."
  pub alone_3 : passes (alone 0 3 1) ≡ false
  pub alone_4 : passes (alone 0 4 0) ≡ false
  pub alone_18 : passes (alone 1 18 0) ≡ false
  pub alone_others : (passes (alone 0 0 0) ≡ true) × (passes (alone 0 2 1) ≡ true) × (passes (alone 1 10 0) ≡ true) × (passes (alone 0 17 0) ≡ true)
  -- "whoever backs off last has seen another thread's writing": a reader in 4 and a thread that is Free again
  pub left_behind : (accepts_all (fresh 2) backs_off ≡ true) × (table_after (fresh 2) backs_off ≡ 2 ∷ 0 ∷ 255 ∷ 4 ∷ 0 ∷ 0 ∷ 0 ∷ 0 ∷ 0 ∷ [])

pub restarting_examples : RestartingExamples
unfolding fresh every some how_many among all_of passes_all answered sized stored rows sound phase_rule flag_rule busy_rule holder_rule mutex_rule target_rule open_rule rule10 rule11 rule13 rule15 elsewhere_rule go_effect set_effect clear_effect effect is_retry reply_in step_in after_in accepts_all_in
restarting_examples =
    record {
      all_3_and_4 = refl;
      all_3 = refl;
      all_4 = refl;
      with_18 = refl;
      first_elsewhere = (refl, refl);
      middle_elsewhere = (refl, refl);
      last_elsewhere = (refl, refl);
      alone_3 = refl;
      alone_4 = refl;
      alone_18 = refl;
      alone_others = (refl, refl, refl, refl);
      left_behind = (refl, refl);
    }
