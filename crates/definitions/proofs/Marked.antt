-- The marked examples M1 to M12 of the scope paper, one table, against the definitions. Every line computes.
use Prim.Native.Nat.{ℕ}
use mathlib.Core.Bool.{false}
use mathlib.Core.List.{List, [], ◌∷◌}
use mathlib.Core.Path.{◌≡◌, refl}
use Rattle.definitions.specs.Answers.{accepted, refused, shown, quiet, moved, passes_all, answered, delivery_reply, delivery_output}
use Rattle.definitions.specs.Chains.{history_in, after_in, table_after}
use Rattle.definitions.specs.Codes.{go, call_shared, call_exclusive, set_move}
use Rattle.definitions.specs.Moves.{ask, go_effect, set_effect, clear_effect, effect, is_retry, reply_in, step_in, move_reply, move_table}
use Rattle.definitions.specs.Phases.{rows}
use Rattle.definitions.specs.PlainLock.{pairs_of, places_after, tests_of, check_reply}
use Rattle.definitions.specs.Plan.{plan_of, plan, bytes_of, plan_entry}
use Rattle.definitions.specs.Sound.{sound, phase_rule, flag_rule, busy_rule, holder_rule, mutex_rule, target_rule, open_rule, rule10, rule11, rule13, rule15, elsewhere_rule}
use Rattle.definitions.specs.Table.{sized, fresh, stored, fresh_entry}
use Rattle.definitions.specs.Threads.{every, some, how_many, among, all_of, gather}

abbrev m2 : List ℕ
m2 = 2 ∷ 0 ∷ 255 ∷ 0 ∷ 0 ∷ 0 ∷ 9 ∷ 0 ∷ 0 ∷ []

abbrev m3 : List ℕ
m3 = 2 ∷ 1 ∷ 255 ∷ 0 ∷ 0 ∷ 0 ∷ 10 ∷ 0 ∷ 0 ∷ []

abbrev m4 : List ℕ
m4 = 2 ∷ 1 ∷ 0 ∷ 0 ∷ 0 ∷ 1 ∷ 11 ∷ 0 ∷ 0 ∷ []

abbrev m5 : List ℕ
m5 = 2 ∷ 1 ∷ 255 ∷ 0 ∷ 0 ∷ 1 ∷ 10 ∷ 0 ∷ 0 ∷ []

abbrev m6 : List ℕ
m6 = 2 ∷ 1 ∷ 255 ∷ 0 ∷ 0 ∷ 1 ∷ 13 ∷ 0 ∷ 1 ∷ []

abbrev m7 : List ℕ
m7 = 2 ∷ 1 ∷ 255 ∷ 0 ∷ 0 ∷ 1 ∷ 14 ∷ 0 ∷ 1 ∷ []

abbrev m8 : List ℕ
m8 = 2 ∷ 1 ∷ 255 ∷ 3 ∷ 1 ∷ 1 ∷ 14 ∷ 0 ∷ 1 ∷ []

-- lent outputs, of which every byte is given anew
abbrev lent : List ℕ
lent = 7 ∷ 7 ∷ 7 ∷ 7 ∷ 7 ∷ 7 ∷ []

abbrev lent15 : List ℕ
lent15 = 7 ∷ 7 ∷ 7 ∷ 7 ∷ 7 ∷ 7 ∷ 7 ∷ 7 ∷ 7 ∷ 7 ∷ 7 ∷ 7 ∷ 7 ∷ 7 ∷ 7 ∷ []

-- the table of the marked examples: what the paper says on the right, what the definitions give on the left
pub record MarkedExamples : Type 0 where
  pub M1 : (delivery_output (fresh_entry 1) lent ≡ 1 ∷ 0 ∷ 255 ∷ 0 ∷ 0 ∷ 0 ∷ []) × (delivery_reply (fresh_entry 1) lent ≡ accepted 6)
  pub M2 : (move_table (fresh 2) (ask 1 call_exclusive 0) ≡ m2) × (move_reply (fresh 2) (ask 1 call_exclusive 0) ≡ accepted (moved (shown 5) false))
  pub M3 : (move_table m2 (ask 1 go 0) ≡ m3) × (move_reply m2 (ask 1 go 0) ≡ accepted (moved quiet false))
  pub M4 : (move_table m3 (ask 1 set_move 0) ≡ m4) × (move_reply m3 (ask 1 set_move 0) ≡ accepted (moved quiet false))
  pub M5 : (move_table m4 (ask 1 go 0) ≡ m5) × (move_reply m4 (ask 1 go 0) ≡ accepted (moved quiet false))
  pub M6 : (table_after m5 (ask 1 set_move 1 ∷ ask 1 go 0 ∷ []) ≡ m6)
      × (move_reply m5 (ask 1 set_move 1) ≡ accepted (moved quiet false))
      × (move_reply (table_after m5 (ask 1 set_move 1 ∷ [])) (ask 1 go 0) ≡ accepted (moved quiet false))
  pub M7 : (move_table m6 (ask 1 go 0) ≡ m7) × (move_reply m6 (ask 1 go 0) ≡ accepted (moved (shown 6) false))
  pub M8 : (table_after m7 (ask 0 call_shared 0 ∷ ask 0 go 0 ∷ ask 0 go 0 ∷ []) ≡ m8)
      × (move_reply m7 (ask 0 call_shared 0) ≡ accepted (moved (shown 1) false))
      × (move_reply (table_after m7 (ask 0 call_shared 0 ∷ [])) (ask 0 go 0) ≡ accepted (moved quiet false))
      × (move_reply (table_after m7 (ask 0 call_shared 0 ∷ ask 0 go 0 ∷ [])) (ask 0 go 0) ≡ accepted (moved quiet false))
  pub M9 : check_reply 2 (0 ∷ 1 ∷ 0 ∷ 2 ∷ 1 ∷ 5 ∷ 1 ∷ 6 ∷ []) ≡ refused 11 3
  pub M10 : check_reply 2 (0 ∷ 1 ∷ 0 ∷ 2 ∷ 1 ∷ 5 ∷ 0 ∷ 3 ∷ 1 ∷ 6 ∷ []) ≡ accepted 5
  pub M11 : (check_reply 2 (0 ∷ 2 ∷ []) ≡ refused 10 0) × (check_reply 2 [] ≡ accepted 0)
  pub M12 : (delivery_output (plan_entry 1 (0 ∷ 5 ∷ 0 ∷ 6 ∷ [])) lent15 ≡ 0 ∷ 2 ∷ 0 ∷ 0 ∷ 0 ∷ 0 ∷ 0 ∷ 3 ∷ 0 ∷ 0 ∷ 0 ∷ 0 ∷ 0 ∷ 0 ∷ 0 ∷ [])
      × (delivery_reply (plan_entry 1 (0 ∷ 5 ∷ 0 ∷ 6 ∷ [])) lent15 ≡ accepted 5)

pub marked_examples : MarkedExamples
unfolding fresh every some how_many among all_of gather passes_all answered delivery_reply delivery_output sized stored rows sound phase_rule flag_rule busy_rule holder_rule mutex_rule target_rule open_rule rule10 rule11 rule13 rule15 elsewhere_rule go_effect set_effect clear_effect effect is_retry reply_in step_in history_in after_in pairs_of places_after tests_of check_reply plan_of plan bytes_of
marked_examples =
    record {
      M1 = (refl, refl);
      M2 = (refl, refl);
      M3 = (refl, refl);
      M4 = (refl, refl);
      M5 = (refl, refl);
      M6 = (refl, refl, refl);
      M7 = (refl, refl);
      M8 = (refl, refl, refl, refl);
      M9 = refl;
      M10 = refl;
      M11 = (refl, refl);
      M12 = (refl, refl);
    }
