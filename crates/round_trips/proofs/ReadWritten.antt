-- Reading what was written gives back N and the same triples, for every list that can be written.
-- First as definitions (`read_back`), then through the two entries (`read_written`): what was written stands at the front of the output, and is read from there.
use Prim.Native.Nat.{ℕ, suc, ◌≤◌}
use mathlib.Core.List.{List, [], ◌∷◌, ◌++◌}
use mathlib.Core.Path.{◌≡◌, refl, sym, subst, ap, ◌∙◌}
use lib.Dec.{T, le→leb}
use lib.ListN.{length, take, drop}
use Rattle.definitions.specs.Answers.{accepted, passes_all, filled, delivery_reply, delivery_output}
use Rattle.definitions.specs.Bounds.{most_script}
use Rattle.definitions.specs.Chains.{requests_of}
use Rattle.definitions.specs.Forms.{Form, request, threads_line, spelled, line_form, first_tests, threads_first, line_tests, request_in}
use Rattle.definitions.specs.Plan.{bytes_of}
use Rattle.definitions.specs.Scripts.{script_of, lines_tests, requests_in, script_tests, threads_of_lines, threads_of, stated_by, write_entry, read_entry}
use Rattle.definitions.specs.Table.{count_fits}
use Rattle.definitions.specs.Texts.{Line, lines_of}
use Rattle.definitions.specs.declared.Request.{Request}
use Rattle.basics.specs.Outputs.{Delivered}
use Rattle.round_trips.specs.Exchange.{Writable, Readable}
use Rattle.basics.proofs.Outputs.{whole, delivered_as, answered_so, text_first}
use Rattle.basics.proofs.Replies.{pass, no_test}
use Rattle.basics.proofs.TestLists.{passes-join}
use Rattle.theory.proofs.RequestNumbers.{NumbersFit, AllNumbersFit, numbers_i}
use Rattle.theory.proofs.Stages.{count_most}
use Rattle.theory.proofs.Triples.{triples_written}
use Rattle.round_trips.proofs.WrittenLines.{line_of, lines_for, script_lines, writable_e, count-read, move_read}

-- what the lines of a script are read as: they pass their tests, and state N and these requests
record ReadAs (n : ℕ) (rs : List Request) (ls : List Line) : Type 0 where
  pub passes : T (passes_all (script_tests ls))
  pub count : threads_of_lines ls ≡ n
  pub requests : requests_in (drop 1 ls) ≡ rs

module _ (n : ℕ) (fits : T (count_fits n)) where
  line_read : (r : Request) → NumbersFit n r → line_form (line_of (spelled r)) ≡ request r
  line_read r = move_read n r (count_most n fits)

  lines-pass : (k : ℕ) (rs : List Request) → AllNumbersFit n rs → T (passes_all (lines_tests k n (lines_for rs)))
  unfolding lines_tests
  lines-pass k [] f = no_test
  lines-pass k (r ∷ rs) f =
      passes-join (line_tests k n (line_form (line_of (spelled r)))) (lines_tests (suc k) n (lines_for rs))
      (subst (λ (form : Form). T (passes_all (line_tests k n form))) (sym (line_read r f.0)) (numbers_i k n r f.0))
      (lines-pass (suc k) rs f.1)

  lines_state : (rs : List Request) → AllNumbersFit n rs → requests_in (lines_for rs) ≡ rs
  unfolding requests_in
  lines_state [] f = refl
  lines_state (r ∷ rs) f =
      ap (λ (form : Form). request_in form ++ requests_in (lines_for rs)) (line_read r f.0)
      ∙ ap (λ (qs : List Request). r ∷ qs) (lines_state rs f.1)

  script_read : (rs : List Request) → AllNumbersFit n rs → ReadAs n rs (line_of (threads_line n) ∷ lines_for rs)
  unfolding script_tests
  script_read rs f =
      let first = count-read n fits in
      record {
        passes =
            subst (λ (form : Form). T (passes_all (first_tests form ++ lines_tests 2 (threads_first form) (lines_for rs)))) (sym first)
            (pass _ _ fits (lines-pass 2 rs f));
        count = ap threads_first first;
        requests = lines_state rs f;
      }

-- Reading the script of a list that can be written gives back N and the triples.
pub read_back : (n : ℕ) (triples : List ℕ) → Writable n triples
    → Readable (script_of n (requests_of triples))
    × (threads_of (script_of n (requests_of triples)) ≡ n)
    × (bytes_of (stated_by (script_of n (requests_of triples))) ≡ triples)
read_back n triples w =
    let f = writable_e n triples w in
    let rs = requests_of triples in
    let read : ReadAs n rs (lines_of (script_of n rs)) = rw (script_lines n rs) (script_read n f.count rs f.numbers) in (
      pass _ _ (le→leb (length (script_of n rs)) most_script f.short) read.passes,
      read.count,
      ap bytes_of read.requests ∙ triples_written triples f.whole,
    )

-- Whatever list the writing entry accepts, the reading entry, with as many bytes lent, answers its N and size for the script written, and leaves its triples.
pub read_written : (n : ℕ) (triples out back : List ℕ) (size : ℕ) → delivery_reply (write_entry n triples) out ≡ accepted size → length triples ≤ length back
    → let script = take size (delivery_output (write_entry n triples) out) in
    Delivered (read_entry script) back (filled back triples) (accepted (record { threads = n; bytes = length triples }))
read_written n triples out back size e room =
    let s = answered_so (write_entry n triples) out size e in
    let r = read_back n triples s.tested in
    rw (text_first (write_entry n triples) out size size e s.answer)
    (delivered_as (whole (read_entry (script_of n (requests_of triples))) back r.0 (rw r.2 room)) (ap (filled back) (sym r.2))
    (ap accepted (λ k. record { threads = sym r.1 k; bytes = length (sym r.2 k) })))
