-- What the program prints: the run's output or the line for a script too long, 65,536 bytes suffice for it, and no byte of the input behind the first 30,001 has a say in it. For every input.
use Prim.Native.Nat.{ℕ, ◌+◌, ◌≤◌, ◌<◌}
use native.Mathlib.Omega.{arith}
use mathlib.Core.List.{List, []}
use mathlib.Core.Logic.{⊎_elim}
use mathlib.Core.Path.{◌≡◌, refl, sym, subst, ap, ◌∙◌}
use borrow.Author.Tests.{le-leb, lt-leb}
use Rattle.std.specs.Prelude.{Result, Ok, Err}
use Rattle.std.specs.Result.{result_unwrap_or}
use lib.Dec.{T, le→leb}
use lib.ListN.{length, take}
use lib.Seq.{length-take-le, take_all}
use Rattle.definitions.specs.Answers.{Reply, accepted, refused, is_accepted, number_of, answer_reply, delivery_reply, delivery_output, filled, counted}
use Rattle.definitions.specs.Bounds.{most_script, enough_output}
use Rattle.definitions.specs.Run.{refused_line, run_output_of, RunCounts, running_reply, run_entry, program_output}
use Rattle.definitions.specs.Texts.{bytes, decimal_within}
use Rattle.definitions.specs.declared.Refused.{Refused}
use Rattle.definitions.specs.declared.Running.{Running}
use Rattle.basics.specs.Outputs.{answering, Delivered}
use Rattle.printout.specs.Buffer.{Printed}
use Rattle.basics.proofs.Outputs.{whole, with_answer}
use Rattle.basics.proofs.Replies.{pass, no_test}
use Rattle.basics.proofs.Tests.{below?}
use Rattle.runs.proofs.Suffices.{suffices}

-- ---- which of the two it is

pub too_long : (input : List ℕ) → most_script < length input → program_output input ≡ refused_line 8 0
unfolding program_output
too_long input h = rw (lt-leb (length input) most_script h)

pub not_too_long : (input : List ℕ) → length input ≤ most_script → program_output input ≡ run_output_of input
unfolding program_output
not_too_long input h = rw (le-leb (length input) most_script h)

-- the line for a script too long, as the code has it
pub too_long_line : refused_line 8 0 ≡ bytes "(refused 8 0)\n"
unfolding refused_line bytes decimal_within
too_long_line = refl

-- ---- it always fits

-- "65,536 bytes always suffice": for what the program prints, whatever it reads
pub output-fits : (input : List ℕ) → length (program_output input) ≤ enough_output
unfolding bytes
output-fits input =
    ⊎_elim
    (λ l. omega (arith, ap length (too_long input l), ap length too_long_line))
    (λ l. omega (arith, ap length (not_too_long input l), suffices input l))
    (below? (length input) most_script)

-- ---- as much of the input as the program reads

-- the program's output is that for the input's first 30,001 bytes
pub read_enough : (input : List ℕ) → program_output (take (most_script + 1) input) ≡ program_output input
read_enough input = ⊎_elim long short (below? (length input) most_script)
  where
    long : most_script < length input → program_output (take (most_script + 1) input) ≡ program_output input
    long l =
        too_long (take (most_script + 1) input) (omega (arith, length-take-le (most_script + 1) input (omega arith)))
        ∙ sym (too_long input l)

    short : length input ≤ most_script → program_output (take (most_script + 1) input) ≡ program_output input
    short l = ap program_output (take_all (most_script + 1) input (omega arith))

-- ---- what is delivered

-- the run's delivery is the program's, whichever case its answer is
module _ (input out : List ℕ) (l : length input ≤ most_script) {after : List ℕ} where
  delivers : (r : Reply RunCounts) → Delivered (run_entry input) out after r → Delivered (counted [] (program_output input)) out after (answering (λ c. c.bytes) r)
  delivers r =
      with_answer (λ c. c.bytes) (run_entry input) (counted [] (program_output input)) (pass _ [] (le→leb (length input) most_script l) no_test) no_test
      (not_too_long input l) (ap length (not_too_long input l))

  pub run_prints : {a : Result Running Refused} (ran : Running) → a ≡ Ok ran → Delivered (run_entry input) out after (running_reply a)
      → Delivered (counted [] (program_output input)) out after (accepted ran.bytes)
  run_prints ran e p = subst (λ (x : Result Running Refused). Delivered (counted [] (program_output input)) out after (answering (λ c. c.bytes) (running_reply x))) e (delivers _ p)

  pub run_refuses : {a : Result Running Refused} (x : Refused) → a ≡ Err x → Delivered (run_entry input) out after (running_reply a)
      → Delivered (counted [] (program_output input)) out after (refused (number_of x.refusal) x.place)
  run_refuses x e p = subst (λ (y : Result Running Refused). Delivered (counted [] (program_output input)) out after (answering (λ c. c.bytes) (running_reply y))) e (delivers _ p)

-- it is answered and left by the run's
module _ (input out : List ℕ) (l : length input ≤ most_script) where
  by_run : let d = run_entry input in Delivered (counted [] (program_output input)) out (delivery_output d out) (answering (λ (c : RunCounts). c.bytes) (delivery_reply d out))
  by_run = delivers input out l _ (record { reply = refl; output = refl })

  pub its_reply : delivery_reply (counted [] (program_output input)) out ≡ answering (λ (c : RunCounts). c.bytes) (delivery_reply (run_entry input) out)
  its_reply = sym by_run.reply

  pub its_output : delivery_output (counted [] (program_output input)) out ≡ delivery_output (run_entry input) out
  its_output = sym by_run.output

-- in a buffer that suffices it is written, and nothing else is answered
module _ (input : List ℕ) {out : List ℕ} (room : enough_output ≤ length out) where
  written : Delivered (counted [] (program_output input)) out (filled out (program_output input)) (accepted (length (program_output input)))
  written = whole (counted [] (program_output input)) out no_test (omega (arith, output-fits input))

  pub printed : {after : List ℕ} (r : Result ℕ Refused) → Delivered (counted [] (program_output input)) out after (answer_reply r) → Printed input out after (result_unwrap_or r 0)
  printed (Ok n) d =
      let same : accepted n ≡ accepted (length (program_output input)) = d.reply ∙ sym written.reply in
      record { count = cc; output = d.output ∙ sym written.output }
  printed (Err x) d = absurd (subst (λ (a : Reply ℕ). T (is_accepted a)) (sym (d.reply ∙ sym written.reply)) tt)
