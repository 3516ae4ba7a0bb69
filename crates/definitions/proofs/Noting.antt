-- Examples of 02 §5, the depth of a note in the run and in reading, against the definitions. Every line computes.
use Prim.Native.Nat.{ℕ}
use mathlib.Core.Bool.{true, false}
use mathlib.Core.List.{List, ◌++◌}
use mathlib.Core.Path.{◌≡◌, refl}
use lib.ListN.{replicate}
use Rattle.definitions.specs.Answers.{Reply, accepted, refused, answered, delivery_reply}
use Rattle.definitions.specs.Forms.{occurrences, note_fits, note_form, form_of}
use Rattle.definitions.specs.Plan.{bytes_of}
use Rattle.definitions.specs.Run.{steps_line, refused_line, printed, printed_first, run_text, run_output_of}
use Rattle.definitions.specs.Scripts.{lines_tests, requests_in, script_tests, Listed, read_entry}
use Rattle.definitions.specs.Texts.{bytes, same, lines_of, digits_of, value_from, decimal_within, number_read}
use Rattle.definitions.specs.Threads.{every}

-- a text of brackets to a depth, and a script with it as a note
abbrev nested : ℕ → List ℕ
nested depth = replicate depth 40 ++ replicate depth 41

abbrev noted : ℕ → List ℕ
noted depth = bytes "(threads 1)\n(note " ++ (nested depth ++ bytes ")\n")

abbrev read : List ℕ → Reply Listed
read script = delivery_reply (read_entry script) (replicate 3 7)

pub record NotingExamples : Type 0 where
  -- "depth 16 stays the last that passes", also behind brackets that are closed
  pub deepest : (note_fits (nested 16) ≡ true) × (note_fits (nested 15 ++ nested 16) ≡ true)
  pub deeper : (note_fits (nested 17) ≡ false) × (note_fits (nested 16 ++ nested 17) ≡ false)
  pub run : (run_output_of (noted 16) ≡ bytes "(steps 0)\n") × (run_output_of (noted 17) ≡ bytes "(refused 8 2)\n")
  pub reading : (read (noted 16) ≡ accepted (record { threads = 1; bytes = 0 })) × (read (noted 17) ≡ refused 8 2)

pub noting_examples : NotingExamples
unfolding answered delivery_reply bytes_of occurrences note_fits note_form form_of steps_line refused_line printed printed_first run_text lines_tests requests_in script_tests bytes same lines_of digits_of value_from decimal_within number_read every
noting_examples =
    record {
      deepest = (refl, refl);
      deeper = (refl, refl);
      run = (refl, refl);
      reading = (refl, refl);
    }
