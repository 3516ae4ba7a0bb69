-- What the first line makes of the run and of reading.
use Prim.Native.Nat.{ℕ}
use mathlib.Core.Bool.{false}
use mathlib.Core.List.{List, ◌∷◌, ◌++◌}
use mathlib.Core.Path.{◌≡◌, refl, subst, ap, ◌∙◌}
use lib.Dec.{T}
use Rattle.definitions.specs.Answers.{refused, Test, test_at, answered}
use Rattle.definitions.specs.Forms as spec
use Rattle.definitions.specs.Forms.{first_form, first_tests, threads_first}
use Rattle.definitions.specs.Run.{retries_first, run_retries, printed_first, refused_line, run_text, run_output_of}
use Rattle.definitions.specs.Scripts.{lines_tests, script_tests, threads_of, move_lines}
use Rattle.definitions.specs.Table.{count_fits}
use Rattle.definitions.specs.Texts.{Line, lines_of}
use Rattle.opening.specs.FirstLine.{says_threads, ThreadsFirst, NoThreads}

-- ---- the run

pub run-from : {script : List ℕ} {n : ℕ} {rest : List Line} → ThreadsFirst script n rest → run_output_of script ≡ printed_first (spec.threads n) rest
unfolding run_text
run-from {script} {n} t = ap (λ (f : spec.Form). printed_first f (move_lines script)) t.says ∙ ap (printed_first (spec.threads n)) t.behind

pub retries-from : {script : List ℕ} {n : ℕ} {rest : List Line} → ThreadsFirst script n rest → run_retries (lines_of script) ≡ retries_first (spec.threads n) rest
unfolding run_retries
retries-from {script} {n} t = ap (λ (f : spec.Form). retries_first f (move_lines script)) t.says ∙ ap (retries_first (spec.threads n)) t.behind

bad-printed : (f : spec.Form) (ls : List Line) → says_threads f ≡ false → printed_first f ls ≡ refused_line 8 1
unfolding printed_first answered
bad-printed (spec.threads n) ls e = absurd (subst T e tt)
bad-printed (spec.request r) ls e = refl
bad-printed spec.note ls e = refl
bad-printed spec.bad ls e = refl

pub run-bad : {script : List ℕ} → NoThreads script → run_output_of script ≡ refused_line 8 1
unfolding run_text
run-bad {script} t = bad-printed (first_form (lines_of script)) (move_lines script) t.says

bad-retries : (f : spec.Form) (ls : List Line) → says_threads f ≡ false → retries_first f ls ≡ 0
unfolding retries_first answered
bad-retries (spec.threads n) ls e = absurd (subst T e tt)
bad-retries (spec.request r) ls e = refl
bad-retries spec.note ls e = refl
bad-retries spec.bad ls e = refl

pub retries-bad : {script : List ℕ} → NoThreads script → run_retries (lines_of script) ≡ 0
unfolding run_retries
retries-bad {script} t = bad-retries (first_form (lines_of script)) (move_lines script) t.says

-- ---- reading

bad-tests : {A : Type 0} (a : A) (f : spec.Form) (ts : List Test) → says_threads f ≡ false → answered (first_tests f ++ ts) a ≡ refused 8 1
unfolding answered
bad-tests a (spec.threads n) ts e = absurd (subst T e tt)
bad-tests a (spec.request r) ts e = refl
bad-tests a spec.note ts e = refl
bad-tests a spec.bad ts e = refl

module _ {script : List ℕ} where
  -- a script whose first line says N
  module _ {n : ℕ} {rest : List Line} (t : ThreadsFirst script n rest) where
    pub read-tests : script_tests (lines_of script) ≡ test_at 1 1 (count_fits n) ∷ lines_tests 2 n rest
    unfolding script_tests
    read-tests =
        ap (λ (f : spec.Form). first_tests f ++ lines_tests 2 (threads_first f) (move_lines script)) t.says
        ∙ ap (λ (ls : List Line). test_at 1 1 (count_fits n) ∷ lines_tests 2 n ls) t.behind

    pub read_count : threads_of script ≡ n
    read_count = ap threads_first t.says

  -- one whose first line doesn't
  pub read-bad : {A : Type 0} (a : A) → NoThreads script → answered (script_tests (lines_of script)) a ≡ refused 8 1
  unfolding script_tests
  read-bad a t = bad-tests a (first_form (lines_of script)) (lines_tests 2 (threads_of script) (move_lines script)) t.says
