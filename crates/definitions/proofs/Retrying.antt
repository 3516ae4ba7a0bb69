-- Examples of 02 §7, was that move a retry, against the definitions: each kind of retry beside the same move that isn't one, retries that may repeat for ever, and the retries of a run.
-- Every line computes.
use Prim.Native.Nat.{ℕ}
use mathlib.Core.Bool.{Bool, true, false}
use mathlib.Core.List.{List, [], ◌∷◌}
use mathlib.Core.Path.{◌≡◌, refl}
use Rattle.definitions.specs.Answers.{accepted, shown, quiet, moved, answered, passes_all}
use Rattle.definitions.specs.Chains.{history_in, history, after_in, table_after, accepts_all_in, accepts_all}
use Rattle.definitions.specs.Codes.{go, call_shared, set_move, clear_move, relent, hold}
use Rattle.definitions.specs.Forms.{act_text, aimed_form, plain_moves, plain_form, act_form, note_fits, note_form, occurrences, form_of}
use Rattle.definitions.specs.Moves.{ask, go_effect, set_effect, clear_effect, effect, is_retry, step_reply, reply_in, step_in, move_reply}
use Rattle.definitions.specs.Phases.{rows}
use Rattle.definitions.specs.Run.{retries_from, retries_first, run_retries}
use Rattle.definitions.specs.Sound.{phase_rule, flag_rule, busy_rule, holder_rule, mutex_rule, target_rule, open_rule, rule10, rule11, rule13, rule15, elsewhere_rule, sound}
use Rattle.definitions.specs.Table.{sized, stored, fresh}
use Rattle.definitions.specs.Texts.{bytes, same, digits_of, value_from, number_read, lines_of}
use Rattle.definitions.specs.Threads.{every, some, how_many, among, all_of, gather}
use Rattle.definitions.specs.declared.Request.{Request}

-- two threads: mutex and target, then each thread's phase, busy and forbidden
abbrev two : ℕ → ℕ → ℕ → ℕ → ℕ → ℕ → ℕ → ℕ → List ℕ
two mutex target p b f q c g = 2 ∷ mutex ∷ target ∷ p ∷ b ∷ f ∷ q ∷ c ∷ g ∷ []

-- a writer alone, in 10, and three moves by which it comes back there
abbrev alone : List ℕ
alone = 1 ∷ 1 ∷ 255 ∷ 10 ∷ 0 ∷ 0 ∷ []

abbrev round : List Request
round = ask 0 set_move 0 ∷ ask 0 relent 0 ∷ ask 0 go 0 ∷ []

-- a move of the table, quiet, that is a retry or isn't
abbrev Says : List ℕ → Request → Bool → Type 0
Says table r retry = move_reply table r ≡ accepted (moved quiet retry)

pub record RetryingExamples : Type 0 where
  -- "go or hold in phase 4": go in 1, 2 and 3 isn't one
  pub in_4 : Says (two 0 255 4 0 0 0 0 0) (ask 0 go 0) true × Says (two 0 255 4 0 0 0 0 0) (ask 0 hold 0) true
  pub before_4 : Says (two 0 255 1 0 0 0 0 0) (ask 0 go 0) false × Says (two 0 255 2 1 0 0 0 0) (ask 0 go 0) false × Says (two 0 255 3 1 0 0 0 0) (ask 0 go 0) false
  -- go in 18 isn't one: the retry was the hold
  pub in_18 : Says (two 1 255 18 0 0 0 0 0) (ask 0 go 0) false
  -- "relent", whatever the target's busy is
  pub relents : Says (two 1 1 11 0 0 2 1 1) (ask 0 relent 0) true × Says (two 1 1 11 0 0 0 0 1) (ask 0 relent 0) true
  -- "go in 11 that reads busy 1"
  pub in_11 : Says (two 1 1 11 0 0 2 1 1) (ask 0 go 0) true × Says (two 1 1 11 0 0 0 0 1) (ask 0 go 0) false × Says (two 1 1 11 0 1 0 0 1) (ask 0 go 0) false
  pub in_12 : Says (two 1 1 12 0 0 2 1 1) (ask 0 go 0) false
  -- "set in 10 on a thread with forbidden 1"
  pub in_10 : Says (two 1 255 10 0 0 0 0 1) (ask 0 set_move 1) true × Says (two 1 255 10 0 0 0 0 1) (ask 0 set_move 0) false
  -- "any set in 15"
  pub set_in_15 : Says (two 1 255 15 0 0 0 0 1) (ask 0 set_move 1) true × Says (two 1 255 15 0 0 0 0 1) (ask 0 set_move 0) true
  -- "clear in 15 on a thread with forbidden 0"
  pub clear_in_15 : Says (two 1 255 15 0 0 0 0 1) (ask 0 clear_move 0) true × Says (two 1 255 15 0 0 0 0 1) (ask 0 clear_move 1) false
  -- a move that shows an event isn't one
  pub shows : (move_reply (two 0 255 0 0 0 0 0 0) (ask 0 call_shared 0) ≡ accepted (moved (shown 1) false)) × (move_reply (two 0 255 5 1 0 0 0 0) (ask 0 go 0) ≡ accepted (moved (shown 2) false))
  -- set, relent and go are accepted, show nothing and leave the table as it was, so that they may repeat for ever
  pub comes_back : (accepts_all alone round ≡ true) × (history alone round ≡ []) × (table_after alone round ≡ alone)
  -- "the run as a count in its answer": a writer sets its own flag, relents, goes and sets it again, with a note between; then a bad line ends the run
  pub run-count : run_retries (lines_of (bytes "(threads 1)\n(0 (call exclusive))\n(0 (go))\n(0 (set 0))\n(0 (relent))\n(note )\n(0 (go))\n(0 (set 0))\n(0 (relent))\n(1 (go))\n(0 (go))\n")) ≡ 2
  pub run_none : (run_retries (lines_of []) ≡ 0) × (run_retries (lines_of (bytes "(threads 201)\n(0 (relent))\n")) ≡ 0) × (run_retries (lines_of (bytes "(threads 1)\n(0 (call shared))\n(0 (go))\n")) ≡ 0)

pub retrying_examples : RetryingExamples
unfolding fresh every some how_many among all_of gather passes_all answered sized stored rows sound phase_rule flag_rule busy_rule holder_rule mutex_rule target_rule open_rule rule10 rule11 rule13 rule15 elsewhere_rule go_effect set_effect clear_effect effect is_retry step_reply reply_in step_in history_in after_in accepts_all_in bytes same digits_of value_from number_read lines_of act_text aimed_form plain_moves plain_form act_form note_fits note_form occurrences form_of retries_from retries_first run_retries
retrying_examples =
    record {
      in_4 = (refl, refl);
      before_4 = (refl, refl, refl);
      in_18 = refl;
      relents = (refl, refl);
      in_11 = (refl, refl, refl);
      in_12 = refl;
      in_10 = (refl, refl);
      set_in_15 = (refl, refl);
      clear_in_15 = (refl, refl);
      shows = (refl, refl);
      comes_back = (refl, refl, refl);
      run-count = refl;
      run_none = (refl, refl, refl);
    }
