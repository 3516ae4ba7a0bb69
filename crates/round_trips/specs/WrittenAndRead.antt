-- Scripts written out and read: each undoes the other, reading refuses the lines that a run would, and a plan that is written and run shows its history (02 §3).
use Rattle.std.specs.Prelude.{ℕ, ◌≤◌, List, ◌++◌, ◌≡◌, length, take}
use Rattle.definitions.specs.Answers.{accepted, refused, filled, delivery_reply, delivery_output}
use Rattle.definitions.specs.Bounds.{most_script, enough_output}
use Rattle.definitions.specs.Chains.{requests_of}
use Rattle.definitions.specs.PlainLock.{pairs_of, check_reply}
use Rattle.definitions.specs.Plan.{plan, bytes_of, plan_entry}
use Rattle.definitions.specs.Run.{event_lines, steps_line, refused_line, run_output_of, run_entry}
use Rattle.definitions.specs.Scripts.{script_of, write_entry, Listed, read_entry}
use Rattle.definitions.specs.Texts.{lines_of}
use Rattle.basics.specs.Outputs.{Delivered}
use Rattle.round_trips.specs.Exchange.{Writable, without_notes, read_reply, ReadRefusal, stop_of, RunRefused}

pub record WrittenAndRead : Type 0 where
  -- Reading what was written gives back N and the same triples; writing what was read gives the script without its note lines, byte for byte.
  pub read_written : (n : ℕ) (triples out back : List ℕ) (size : ℕ) → delivery_reply (write_entry n triples) out ≡ accepted size → length triples ≤ length back
      → let script = take size (delivery_output (write_entry n triples) out) in
      Delivered (read_entry script) back (filled back triples) (accepted (record { threads = n; bytes = length triples }))
  pub written_read : (script out back : List ℕ) (a : Listed) → delivery_reply (read_entry script) out ≡ accepted a → length (without_notes (lines_of script)) ≤ length back
      → let triples = take a.bytes (delivery_output (read_entry script) out) in
      let text = without_notes (lines_of script) in
      Delivered (write_entry a.threads triples) back (filled back text) (accepted (length text))
  -- Two lists have the same script only if they, and their N, are equal.
  pub same_script : (n m : ℕ) (xs ys : List ℕ) → Writable n xs → Writable m ys → script_of n (requests_of xs) ≡ script_of m (requests_of ys) → (n ≡ m) × (xs ≡ ys)
  -- Reading refuses the line, and by the number, that the run stops at with its refusals 6 and 7 set aside, or neither refuses; the number is 1, 3, 5 or 8, and the line one of the script's.
  pub refused_alike : (script : List ℕ) → read_reply script ≡ stop_of (lines_of script)
  pub read-numbers : (script : List ℕ) (number line : ℕ) → read_reply script ≡ refused number line → ReadRefusal (lines_of script) number line
  -- By the last line that the run prints: where that is `(steps K)`, reading refuses no line; where it is `(refused R L)`, reading refuses L by R, or R is 6 or 7 and reading refuses no line up to L.
  pub finished_reads : (script before : List ℕ) (steps : ℕ) → run_output_of script ≡ before ++ steps_line steps → read_reply script ≡ accepted tt
  pub run-refused : (script before : List ℕ) (number line : ℕ) → run_output_of script ≡ before ++ refused_line number line → RunRefused (read_reply script) number line
  -- Plan, then write, then run: for every history that the check passes and whose script isn't too long, the run prints the events of the history, and makes no retry.
  pub plan-write-run : (n : ℕ) (bytes plan-out script-out run_out : List ℕ) (events : ℕ) → check_reply n bytes ≡ accepted events
      → let moves = plan n (pairs_of bytes) in
      let script = script_of n moves in
      let text = event_lines (pairs_of bytes) ++ steps_line (length moves) in
      length script ≤ most_script → length (bytes_of moves) ≤ length plan-out → length script ≤ length script-out → enough_output ≤ length run_out
      → Delivered (plan_entry n bytes) plan-out (filled plan-out (bytes_of moves)) (accepted (length moves))
      × Delivered (write_entry n (bytes_of moves)) script-out (filled script-out script) (accepted (length script))
      × Delivered (run_entry script) run_out (filled run_out text) (accepted (record { bytes = length text; retries = 0 }))
