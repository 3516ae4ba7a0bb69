-- What the printed output of a run makes of the promise.
use Prim.Native.Nat.{ℕ, ◌+◌, ◌*◌, ◌≤◌, ◌<◌}
use native.Mathlib.Omega.{arith}
use mathlib.Core.Bool.{Bool, not}
use mathlib.Core.List.{List, []}
use mathlib.Core.Path.{◌≡◌, sym, subst}
use borrow.Author.Tests.{le-leb, lt-leb}
use lib.Dec.{T, leb}
use lib.ListN.{length, take, length-drop}
use Rattle.definitions.specs.Answers.{Reply, accepted, refused, number_of, answer_reply, test, counted}
use Rattle.definitions.specs.Bounds.{most_script}
use Rattle.definitions.specs.Run.{run_output_of, run_retries, RunCounts, run_entry}
use Rattle.definitions.specs.Texts as texts
use Rattle.definitions.specs.declared.Refused.{Refused}
use Rattle.definitions.specs.Scripts.{move_lines}
use Rattle.definitions.specs.Texts.{lines_of}
use Rattle.std.specs.Prelude.{Result, Ok, Err}
use Rattle.basics.specs.ShortestLines.{shortest_move}
use Rattle.runs.proofs.Lines.{behind-size, lines-size, lines-count}
use Rattle.running.proofs.Loop.{sizes}
use Rattle.basics.specs.Outputs.{answering, Delivered}
use Rattle.printing.specs.Output.{output_of, Measurable}
use Rattle.running.specs.Records.{Roomy, Recorded}
use Rattle.running.specs.declared.Ran.{Ran}
use Rattle.basics.proofs.Outputs.{turned_down, with_answer}
use Rattle.basics.proofs.Replies.{failed, pass, no_test}
use Rattle.basics.proofs.Tests.{true-T}
use Rattle.runs.proofs.Suffices.{suffices}

module _ (script out : List ℕ) where
  pub too_long : most_script < length script → Delivered (run_entry script) out out (refused 8 0)
  too_long h =
      turned_down (run_entry script) out (run_entry script).answer 8 0
      (failed (test 8 (leb (length script) most_script)) [] (run_entry script).answer (subst (λ (b : Bool). T (not b)) (sym (lt-leb (length script) most_script h)) tt))

  module _ (short : length script ≤ most_script) {history : List ℕ} {ran : Ran} (r : Recorded (run_output_of script) (run_retries (texts.lines_of script)) history ran) where
    pub measurable : Measurable (take ran.shown history) ran.ending
    measurable = record { short = rw (← r.prints) (suffices script short) }

    -- what a run answers beside a number of bytes
    abbrev counts : ℕ → RunCounts
    counts bytes = record { bytes = bytes; retries = ran.retries }

    -- the output printed is the one promised, and so is the answer
    run-answered : {out' : List ℕ} {a : Reply ℕ} → Delivered (counted [] (output_of (take ran.shown history) ran.ending)) out out' a → Delivered (run_entry script) out out' (answering counts a)
    run-answered {out'} {a} p =
        let text = output_of (take ran.shown history) ran.ending in
        with_answer counts (counted [] text) (run_entry script) no_test (pass _ [] (true-T _ (le-leb (length script) most_script short)) no_test) r.prints
        (λ i. record { bytes = length (r.prints i); retries = r.counts i }) p

    -- in either case of what the printing answers
    pub run-printed : {out' : List ℕ} {a : Result ℕ Refused} (n : ℕ) → a ≡ Ok n → Delivered (counted [] (output_of (take ran.shown history) ran.ending)) out out' (answer_reply a)
        → Delivered (run_entry script) out out' (accepted (counts n))
    run-printed {out'} n e p = subst (λ (x : Result ℕ Refused). Delivered (run_entry script) out out' (answering counts (answer_reply x))) e (run-answered p)

    pub run-refused : {out' : List ℕ} {a : Result ℕ Refused} (x : Refused) → a ≡ Err x
        → Delivered (counted [] (output_of (take ran.shown history) ran.ending)) out out' (answer_reply a) → Delivered (run_entry script) out out' (refused (number_of x.refusal) x.place)
    run-refused {out'} x e p = subst (λ (y : Result ℕ Refused). Delivered (run_entry script) out out' (answering counts (answer_reply y))) e (run-answered p)

-- the history has room for a pair for every line of a move
pub roomy : (script history : List ℕ) → length script ≤ most_script → 2 * most_script < shortest_move * (length history + 1) → Roomy (move_lines script) history
roomy script history short long =
    record {
      few = omega (arith, length-drop 1 (lines_of script), lines-count script);
      pairs = omega (arith, sizes (move_lines script), behind-size (lines_of script), lines-size script);
    }
