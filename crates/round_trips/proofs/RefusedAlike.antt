-- "Read refuses a line by 1, 3, 5 or 8 exactly if the run of the script up to that line, with its refusals 6 and 7 set aside, would" (02 §3, theorem 4).
-- `refused_alike`: reading and that run stop at the same line by the same number, or both pass. `read-numbers`: the number is 1, 3, 5 or 8, and the line is one of the script's.
-- `run-ended`: the run as it prints ends in one of three ways, each with what reading says of the script; `finished_reads` and `run-refused`: the same from the last line that it prints.
use Prim.Native.Nat.{ℕ, suc, ◌+◌, ◌≤◌, ◌<◌}
use native.Mathlib.Omega.{arith}
use mathlib.Core.Bool.{Bool, true, false, cond, not}
use mathlib.Core.List.{List, [], ◌∷◌, ◌++◌, append_assoc}
use mathlib.Core.Logic.{◌⊎◌, inl, inr}
use mathlib.Core.Path.{◌≡◌, refl, sym, subst, ap, ◌∙◌}
use lib.Dec.{T, leb, ltb, le→leb}
use lib.ListN.{length, drop}
use Rattle.definitions.specs.Answers.{Reply, accepted, refused, MoveAnswer, Test, test_at, answered, passes_all}
use Rattle.definitions.specs.Bounds.{last_move}
use Rattle.definitions.specs.Forms.{Form, threads, request, note, bad, form_of, line_form, first_form, first_tests, threads_first, line_tests}
use Rattle.definitions.specs.Moves.{target_fits, number_tests, move_answer, move_table}
use Rattle.definitions.specs.Run.{event_line, steps_line, refused_line, Turn, stops, passes, makes, turn_for, turn_of, printed, printed_for, printed_first, run_text, run_output_of}
use Rattle.definitions.specs.Scripts.{lines_tests, script_tests}
use Rattle.definitions.specs.Table.{table_of, count_fits, fresh}
use Rattle.definitions.specs.Texts.{Line, lines_of}
use Rattle.definitions.specs.Threads.{among}
use Rattle.definitions.specs.declared.Request.{Request}
use Rattle.forms.specs.Grammar.{Spells}
use Rattle.round_trips.specs.Exchange.{judged, read_reply, IfRefused, read_numbers, ReadRefusal, set_aside, stop_from, stop_for, stop_of, RunRefused}
use Rattle.theory.specs.Tables.{SoundBytes}
use Rattle.basics.proofs.Replies.{behind, in_front_lem, passed_or_refused}
use Rattle.basics.proofs.Tests.{no_both, cond_yes, cond_no, cond_either}
use Rattle.forms.proofs.Spelling.{read-spelled}
use Rattle.runs.proofs.LastLine.{refused_once, steps_not_refused}
use Rattle.theory.proofs.Discipline.{disciplined}
use Rattle.theory.proofs.LineTurns.{numbers, later, move_answers, request-turn}
use Rattle.theory.proofs.SoundKept.{fresh_is_sound, sound-kept}

-- ---- refusals

-- P holds of the number and the place of each test that fails
abbrev EachFailed : (ℕ → ℕ → Type 0) → List Test → Type 0
EachFailed P [] = Unit {0}
EachFailed P (t ∷ ts) = (T (not t.passed) → P t.number t.place) × EachFailed P ts

-- so it does of the refusal that they give
if_refused : (P : ℕ → ℕ → Type 0) {A : Type 0} (a : A) (ts : List Test) → EachFailed P ts → IfRefused P (answered ts a)
unfolding answered
if_refused P a [] p = tt
if_refused P a (t ∷ ts) p = cond_either (IfRefused P) t.passed (answered ts a) (refused t.number t.place) (λ u. if_refused P a ts p.1) p.0

-- a reply with its refusal at another place
abbrev placed : {A : Type 0} → ℕ → Reply A → Reply A
placed place (accepted a) = accepted a
placed place (refused number other) = refused number place

-- a request's numbers are refused by the same number at every place
numbers_placed : {A : Type 0} (a : A) (p q n : ℕ) (r : Request) → answered (number_tests p n r) a ≡ placed p (answered (number_tests q n r) a)
unfolding answered
numbers_placed a p q n r = by (ltb r.thread n) (leb r.mv last_move) (target_fits n r.mv r.target)
  where
    tests : ℕ → Bool → Bool → Bool → List Test
    tests place x y z = test_at place 3 x ∷ test_at place 4 y ∷ test_at place 5 z ∷ []

    by : (x y z : Bool) → answered (tests p x y z) a ≡ placed p (answered (tests q x y z) a)
    by false y z = refl
    by true false z = refl
    by true true false = refl
    by true true true = refl

-- ---- one line

-- what reading says of the lines ls behind line k, to the threads of a table
abbrev rest : ℕ → List Line → List ℕ → Reply (Unit {0})
rest k ls table = judged (lines_tests (suc k) (table_of table).threads ls)

module _ (table : List ℕ) (k : ℕ) (ls : List Line) where
  -- and of line k and those behind it, by what line k does to the run: the run's refusal, or what it says of the lines behind where the run refuses line k by 6 or 7 or takes it
  abbrev Agrees : Reply (Unit {0}) → Turn → Type 0
  Agrees whole (stops number) = (T (set_aside number) × (whole ≡ rest k ls table)) ⊎ (T (not (set_aside number)) × (whole ≡ refused number k))
  Agrees whole passes = whole ≡ rest k ls table
  Agrees whole (makes r answer) = whole ≡ rest k ls (move_table table r)

  module _ (s : SoundBytes table) where
    request_agrees : (r : Request) → Agrees (judged (number_tests k (table_of table).threads r ++ lines_tests (suc k) (table_of table).threads ls)) (turn_of table (request r))
    unfolding passes_all
    request_agrees r = by (passed_or_refused tt (numbers table r))
      where
        here : List Test
        here = number_tests k (table_of table).threads r

        behind_it : List Test
        behind_it = lines_tests (suc k) (table_of table).threads ls

        answer : MoveAnswer
        answer = move_answer (table_of table) r

        turn : (x : Reply MoveAnswer) → answered (numbers table r ++ later table r) answer ≡ x → turn_of table (request r) ≡ turn_for r x
        turn x e = request-turn table r s ∙ ap (turn_for r) (move_answers table r s ∙ e)

        moved : judged (here ++ behind_it) ≡ judged behind_it → (x : Reply MoveAnswer) → IfRefused (λ number place. T (set_aside number)) x → Agrees (judged (here ++ behind_it)) (turn_for r x)
        moved p (accepted a) q = p ∙ ap (λ (n : ℕ). judged (lines_tests (suc k) n ls)) (sym (disciplined table r).threads-kept)
        moved p (refused number place) q = inl (q, p)

        by : T (passes_all (numbers table r)) ⊎ ((number : ℕ) × (place : ℕ) × (judged (numbers table r) ≡ refused number place))
            → Agrees (judged (here ++ behind_it)) (turn_of table (request r))
        by (inl p) =
            subst (Agrees (judged (here ++ behind_it))) (sym (turn _ (behind answer (numbers table r) (later table r) p)))
            (moved (behind tt here behind_it p) (answered (later table r) answer)
            (if_refused (λ number place. T (set_aside number)) answer (later table r) ((λ t. tt), ((λ t. tt), tt))))
        by (inr (number, place, e)) =
            subst (Agrees (judged (here ++ behind_it))) (sym (turn _ (in_front_lem answer tt (numbers table r) (later table r) number place e)))
            (inr (
              subst (IfRefused (λ other place. T (not (set_aside other)))) e
                  (if_refused (λ other place. T (not (set_aside other))) tt (numbers table r) ((λ t. tt), ((λ t. tt), ((λ t. tt), tt)))),
              in_front_lem tt tt here behind_it number k (numbers_placed tt k 0 (table_of table).threads r ∙ ap (placed k) e),
            ))

    line_agrees : (f : Form) → Agrees (judged (line_tests k (table_of table).threads f ++ lines_tests (suc k) (table_of table).threads ls)) (turn_of table f)
    unfolding answered
    line_agrees (threads n) = inr (tt, refl)
    line_agrees (request r) = request_agrees r
    line_agrees note = refl
    line_agrees bad = inr (tt, refl)

-- ---- the lines behind the first

-- on every sound table
lines_alike : (table : List ℕ) → SoundBytes table → (k : ℕ) (ls : List Line) → judged (lines_tests k (table_of table).threads ls) ≡ stop_from table k ls
unfolding lines_tests stop_from answered
lines_alike table s k [] = refl
lines_alike table s k (l ∷ ls) =
    by (judged (lines_tests k (table_of table).threads (l ∷ ls))) (turn_of table (line_form l)) (line_agrees table k ls s (line_form l))
    (λ bytes z. lines_alike bytes z (suc k) ls)
  where
    by : (whole : Reply (Unit {0})) (u : Turn) → Agrees table k ls whole u
        → ((bytes : List ℕ) → SoundBytes bytes → rest k ls bytes ≡ stop_from bytes (suc k) ls)
        → whole
        ≡ elim u [
          | stops number ↦ cond (set_aside number) (stop_from table (suc k) ls) (refused number k)
          | passes ↦ stop_from table (suc k) ls
          | makes r answer ↦ stop_from (move_table table r) (suc k) ls
        ]
    by whole (stops number) (inl (a, p)) next = p ∙ (next table s ∙ sym (cond_yes (set_aside number) (stop_from table (suc k) ls) (refused number k) a))
    by whole (stops number) (inr (a, e)) next = e ∙ sym (cond_no (set_aside number) (stop_from table (suc k) ls) (refused number k) a)
    by whole passes p next = p ∙ next table s
    by whole (makes r answer) p next = p ∙ next (move_table table r) (sound-kept table r s)

-- ---- the whole script

first_alike : (f : Form) (ls : List Line) → judged (first_tests f ++ lines_tests 2 (threads_first f) ls) ≡ stop_for (answered (first_tests f) (threads_first f)) ls
unfolding answered fresh
first_alike (threads n) ls = by (count_fits n) (λ t. lines_alike (fresh n) (fresh_is_sound n t) 2 ls)
  where
    by : (b : Bool) → (T b → judged (lines_tests 2 n ls) ≡ stop_from (fresh n) 2 ls)
        → cond b (judged (lines_tests 2 n ls)) (refused 1 1) ≡ stop_for (cond b (accepted n) (refused 1 1)) ls
    by true e = e tt
    by false e = refl
first_alike (request r) ls = refl
first_alike note ls = refl
first_alike bad ls = refl

lines_refused_alike : (ls : List Line) → judged (script_tests ls) ≡ stop_of ls
unfolding script_tests stop_of
lines_refused_alike ls = first_alike (first_form ls) (drop 1 ls)

-- theorem 4: reading a script refuses the line, and by the number, that its run stops at with its refusals 6 and 7 set aside, or neither refuses it
pub refused_alike : (script : List ℕ) → read_reply script ≡ stop_of (lines_of script)
refused_alike script = lines_refused_alike (lines_of script)

-- ---- by which numbers, and at which lines

-- a form whose request, if it states one, is for one of the moves
abbrev MoveKnown : Form → Type 0
MoveKnown (threads n) = Unit {0}
MoveKnown (request r) = r.mv ≤ last_move
MoveKnown note = Unit {0}
MoveKnown bad = Unit {0}

line_known : (l : Line) → MoveKnown (line_form l)
line_known l = cond_either MoveKnown l.ended (form_of l.text) bad (λ t. by (form_of l.text) (read-spelled l.text)) (λ t. tt)
  where
    by : (f : Form) → Spells l.text f → MoveKnown f
    by (threads n) s = tt
    by (request r) s = s.can_be.move-fits
    by note s = tt
    by bad s = tt

module _ (P : ℕ → ℕ → Type 0) where
  each_append : (ts us : List Test) → EachFailed P ts → EachFailed P us → EachFailed P (ts ++ us)
  each_append [] us p q = q
  each_append (t ∷ ts) us p q = (p.0, each_append ts us p.1 q)

  first_line_failed : (f : Form) → ((number : ℕ) → T (among number read_numbers) → P number 1) → EachFailed P (first_tests f)
  unfolding among
  first_line_failed (threads n) at = ((λ t. at 1 tt), tt)
  first_line_failed (request r) at = ((λ t. at 8 tt), tt)
  first_line_failed note at = ((λ t. at 8 tt), tt)
  first_line_failed bad at = ((λ t. at 8 tt), tt)

  -- a form whose move is known is not refused by 4
  line_failed : (k n : ℕ) (f : Form) → MoveKnown f → ((number : ℕ) → T (among number read_numbers) → P number k) → EachFailed P (line_tests k n f)
  unfolding among
  line_failed k n (threads m) known at = ((λ t. at 8 tt), tt)
  line_failed k n (request r) known at =
      ((λ t. at 3 tt), ((λ t. absurd (no_both (leb r.mv last_move) (le→leb r.mv last_move known) t)), ((λ t. at 5 tt), tt)))
  line_failed k n note known at = tt
  line_failed k n bad known at = ((λ t. at 8 tt), tt)

  lines_failed : (k n : ℕ) (ls : List Line) → ((number line : ℕ) → T (among number read_numbers) → k ≤ line → line < k + length ls → P number line)
      → EachFailed P (lines_tests k n ls)
  unfolding lines_tests
  lines_failed k n [] at = tt
  lines_failed k n (l ∷ ls) at =
      each_append (line_tests k n (line_form l)) (lines_tests (suc k) n ls)
      (line_failed k n (line_form l) (line_known l) (λ number t. at number k t (omega arith) (omega arith)))
      (lines_failed (suc k) n ls (λ number line t low high. at number line t (omega arith) (omega arith)))

-- reading refuses none of the lines before the first that it is given
refused-from : (k n : ℕ) (ls : List Line) → IfRefused (λ number line. k ≤ line) (judged (lines_tests k n ls))
refused-from k n ls = if_refused (λ number line. k ≤ line) tt (lines_tests k n ls) (lines_failed (λ number line. k ≤ line) k n ls (λ number line t low high. low))

lines-refused : (ls : List Line) → IfRefused (ReadRefusal ls) (judged (script_tests ls))
unfolding script_tests answered among
lines-refused [] = (tt, inr (refl, refl))
lines-refused (l ∷ ls) =
    if_refused (ReadRefusal (l ∷ ls)) tt (script_tests (l ∷ ls))
    (each_append (ReadRefusal (l ∷ ls)) (first_tests (line_form l)) (lines_tests 2 (threads_first (line_form l)) ls)
    (first_line_failed (ReadRefusal (l ∷ ls)) (line_form l) (λ number t. (t, inl (omega arith, omega arith))))
    (lines_failed (ReadRefusal (l ∷ ls)) 2 (threads_first (line_form l)) ls (λ number line t low high. (t, inl (omega arith, omega arith)))))

-- reading refuses a line by 1, 3, 5 or 8, and the place is the number of a line
pub read-numbers : (script : List ℕ) (number line : ℕ) → read_reply script ≡ refused number line → ReadRefusal (lines_of script) number line
read-numbers script number line e = subst (IfRefused (ReadRefusal (lines_of script))) e (lines-refused (lines_of script))

-- ---- the run as it prints

-- how a run ended that printed an output, and what reading then says of the script
pub data Ended (output : List ℕ) (reading : Reply (Unit {0})) : Type 0 where
  -- it finished: reading refuses no line
  finished : (events : List ℕ) (steps : ℕ) → output ≡ events ++ steps_line steps → reading ≡ accepted tt → Ended output reading
  -- it stopped at a line for its form or its numbers: reading refuses that line by that number
  turned_down : (events : List ℕ) (number line : ℕ) → output ≡ events ++ refused_line number line → reading ≡ refused number line → Ended output reading
  -- it stopped at a line by 6 or 7: reading refuses no line, or one behind it
  not_now : (events : List ℕ) (number line : ℕ) → output ≡ events ++ refused_line number line → T (set_aside number) → IfRefused (λ other place. line < place) reading
      → Ended output reading

-- an output with more events in front
behind-events : (more output : List ℕ) (reading : Reply (Unit {0})) → Ended output reading → Ended (more ++ output) reading
behind-events more output reading e = by e
  where
    longer : (events last : List ℕ) → output ≡ events ++ last → more ++ output ≡ (more ++ events) ++ last
    longer events last p = ap (λ (xs : List ℕ). more ++ xs) p ∙ sym (append_assoc more events last)

    by : Ended output reading → Ended (more ++ output) reading
    by (finished events steps p q) = finished (more ++ events) steps (longer events _ p) q
    by (turned_down events number line p q) = turned_down (more ++ events) number line (longer events _ p) q
    by (not_now events number line p t q) = not_now (more ++ events) number line (longer events _ p) t q

lines-ended : (table : List ℕ) → SoundBytes table → (k steps : ℕ) (ls : List Line) → Ended (printed table k steps ls) (judged (lines_tests k (table_of table).threads ls))
unfolding lines_tests printed answered
lines-ended table s k steps [] = finished [] steps refl refl
lines-ended table s k steps (l ∷ ls) =
    by (judged (lines_tests k (table_of table).threads (l ∷ ls))) (turn_of table (line_form l)) (line_agrees table k ls s (line_form l))
    (λ bytes z made. lines-ended bytes z (suc k) made ls)
  where
    by : (whole : Reply (Unit {0})) (u : Turn) → Agrees table k ls whole u
        → ((bytes : List ℕ) → SoundBytes bytes → (made : ℕ) → Ended (printed bytes (suc k) made ls) (rest k ls bytes))
        → Ended
        (elim u [
          | stops number ↦ refused_line number k
          | passes ↦ printed table (suc k) steps ls
          | makes r answer ↦ event_line r.thread answer.seen ++ printed (move_table table r) (suc k) (suc steps) ls
        ])
        whole
    by whole (stops number) (inl (a, p)) next = not_now [] number k refl a (subst (IfRefused (λ other line. k < line)) (sym p) (refused-from (suc k) (table_of table).threads ls))
    by whole (stops number) (inr (a, e)) next = turned_down [] number k refl e
    by whole passes p next = subst (Ended (printed table (suc k) steps ls)) (sym p) (next table s steps)
    by whole (makes r answer) p next =
        let after = printed (move_table table r) (suc k) (suc steps) ls in
        behind-events (event_line r.thread answer.seen) after whole (subst (Ended after) (sym p) (next (move_table table r) (sound-kept table r s) (suc steps)))

first_ended : (f : Form) (ls : List Line) → Ended (printed_first f ls) (judged (first_tests f ++ lines_tests 2 (threads_first f) ls))
unfolding printed_first answered fresh
first_ended (threads n) ls = by (count_fits n) (λ t. lines-ended (fresh n) (fresh_is_sound n t) 2 0 ls)
  where
    by : (b : Bool) → (T b → Ended (printed (fresh n) 2 0 ls) (judged (lines_tests 2 n ls)))
        → Ended (printed_for (cond b (accepted n) (refused 1 1)) ls) (cond b (judged (lines_tests 2 n ls)) (refused 1 1))
    by true e = e tt
    by false e = turned_down [] 1 1 refl refl
first_ended (request r) ls = turned_down [] 8 1 refl refl
first_ended note ls = turned_down [] 8 1 refl refl
first_ended bad ls = turned_down [] 8 1 refl refl

text-ended : (ls : List Line) → Ended (run_text ls) (judged (script_tests ls))
unfolding run_text script_tests
text-ended ls = first_ended (first_form ls) (drop 1 ls)

-- every script's run ends in one of these ways
pub run-ended : (script : List ℕ) → Ended (run_output_of script) (read_reply script)
run-ended script = text-ended (lines_of script)

-- a script whose run finishes is one that reading refuses no line of
pub finished_reads : (script before : List ℕ) (steps : ℕ) → run_output_of script ≡ before ++ steps_line steps → read_reply script ≡ accepted tt
finished_reads script before steps e = by (run-ended script)
  where
    by : Ended (run_output_of script) (read_reply script) → read_reply script ≡ accepted tt
    by (finished events k p q) = q
    by (turned_down events number line p q) = absurd (steps_not_refused before events steps number line (sym e ∙ p))
    by (not_now events number line p t q) = absurd (steps_not_refused before events steps number line (sym e ∙ p))

-- a run whose output ends in `(refused R L)`: reading refuses L by R, or R is 6 or 7 and reading refuses no line up to L
pub run-refused : (script before : List ℕ) (number line : ℕ) → run_output_of script ≡ before ++ refused_line number line → RunRefused (read_reply script) number line
run-refused script before number line e = by (run-ended script)
  where
    here : (events : List ℕ) (m k : ℕ) → run_output_of script ≡ events ++ refused_line m k → RunRefused (read_reply script) m k → RunRefused (read_reply script) number line
    here events m k p q =
        let same = refused_once events before m number k line (sym p ∙ e) in
        subst (λ (x : ℕ). RunRefused (read_reply script) x line) same.1 (subst (RunRefused (read_reply script) m) same.2 q)

    by : Ended (run_output_of script) (read_reply script) → RunRefused (read_reply script) number line
    by (finished events steps p q) = absurd (steps_not_refused events before steps number line (sym p ∙ e))
    by (turned_down events m k p q) = here events m k p (inl q)
    by (not_now events m k p t q) = here events m k p (inr (t, q))
