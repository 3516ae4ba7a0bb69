-- What a line does to the run, by its form: the first line, and a request on a sound table, whose numbers the line's own tests and the move's agree on.
use Prim.Native.Nat.{ℕ}
use mathlib.Core.Bool.{Bool, true, false, cond}
use mathlib.Core.List.{List, [], ◌∷◌, ◌++◌}
use mathlib.Core.Logic.{⊎_elim}
use mathlib.Core.Path.{◌≡◌, refl, sym, subst, ap, ◌∙◌}
use Rattle.definitions.specs.Answers.{Reply, accepted, refused, Test, answered}
use Rattle.definitions.specs.Forms.{threads, request}
use Rattle.definitions.specs.Moves.{number_tests, phase_tests, move_answer, reply_in, move_reply}
use Rattle.definitions.specs.Run.{printed, printed_for, printed_first, refused_line, Turn, stops, turn_for, turn_said, turn_of, retries_from, retries_for, retries_first}
use Rattle.definitions.specs.Table.{table_of, count_fits, fresh}
use Rattle.definitions.specs.Texts.{Line}
use Rattle.definitions.specs.declared.Request.{Request}
use Rattle.theory.specs.Tables.{SoundBytes}
use Rattle.basics.proofs.Replies.{passed, all-passed, in_front_lem, passed_or_refused}

-- a threads line at the front
pub first_printed : (n : ℕ) (ls : List Line) → printed_first (threads n) ls ≡ cond (count_fits n) (printed (fresh n) 2 0 ls) (refused_line 1 1)
unfolding printed_first answered
first_printed n ls = by (count_fits n)
  where
    by : (b : Bool) → printed_for (cond b (accepted n) (refused 1 1)) ls ≡ cond b (printed (fresh n) 2 0 ls) (refused_line 1 1)
    by true = refl
    by false = refl

-- and its retries
pub first_retries : (n : ℕ) (ls : List Line) → retries_first (threads n) ls ≡ cond (count_fits n) (retries_from (fresh n) ls) 0
unfolding retries_first answered
first_retries n ls = by (count_fits n)
  where
    by : (b : Bool) → retries_for (cond b (accepted n) (refused 1 1)) ls ≡ cond b (retries_from (fresh n) ls) 0
    by true = refl
    by false = refl

module _ (table : List ℕ) (r : Request) where
  -- the refusals of its numbers
  abbrev pub numbers : List Test
  numbers = number_tests 0 (table_of table).threads r

  -- those behind them, 6 and 7
  abbrev pub later : List Test
  later = phase_tests (table_of table) r

  -- a request's line, on any table: its numbers stop it, or the move answers
  pub request_either : (P : Turn → Type 0) → ((number place : ℕ) → answered numbers (r ∷ []) ≡ refused number place → P (stops number)) → P (turn_for r (move_reply table r))
      → P (turn_of table (request r))
  request_either P stopped moved =
      ⊎_elim
      (λ p. subst (λ (x : Reply (List Request)). P (turn_said table x)) (sym (all-passed (r ∷ []) numbers p)) moved)
      (λ (number, place, e). subst (λ (x : Reply (List Request)). P (turn_said table x)) (sym e) (stopped number place e))
      (passed_or_refused (r ∷ []) numbers)

  module _ (s : SoundBytes table) where
    -- what the move answers on a sound table
    pub move_answers : move_reply table r ≡ answered (numbers ++ later) (move_answer (table_of table) r)
    unfolding reply_in
    move_answers = passed _ _ _ s.is_sized ∙ passed _ _ _ s.is_sound

    -- a request's line: the move answers
    pub request-turn : turn_of table (request r) ≡ turn_for r (move_reply table r)
    request-turn =
        request_either (λ (t : Turn). t ≡ turn_for r (move_reply table r))
        (λ number place e. sym (ap (turn_for r) (move_answers ∙ in_front_lem (move_answer (table_of table) r) (r ∷ []) numbers later number place e)))
        refl
