-- Examples of 02 §3, scripts written out and read, against the definitions. Every line computes.
use Prim.Native.Nat.{ℕ}
use mathlib.Core.List.{List, [], ◌∷◌, ◌++◌}
use mathlib.Core.Path.{◌≡◌, refl}
use lib.ListN.{replicate}
use Rattle.definitions.specs.Answers.{Reply, accepted, refused, answered, delivery_reply, delivery_output}
use Rattle.definitions.specs.Chains.{requests_of}
use Rattle.definitions.specs.Forms.{act_text, occurrences, note_fits, note_form, aimed_form, plain_moves, plain_form, act_form, form_of}
use Rattle.definitions.specs.Plan.{bytes_of}
use Rattle.definitions.specs.Scripts.{moves_text, script_of, triples_tests, write_entry, lines_tests, requests_in, script_tests, Listed, read_entry}
use Rattle.definitions.specs.Texts.{bytes, same, lines_of, digits_of, value_from, decimal_within, number_read}
use Rattle.definitions.specs.Threads.{every, gather}

-- what writing answers, and what it leaves of an output of that many bytes 7
abbrev written : ℕ → List ℕ → ℕ → Reply ℕ
written n triples room = delivery_reply (write_entry n triples) (replicate room 7)

abbrev left : ℕ → List ℕ → ℕ → List ℕ
left n triples room = delivery_output (write_entry n triples) (replicate room 7)

-- what reading does
abbrev read : List ℕ → ℕ → Reply Listed
read script room = delivery_reply (read_entry script) (replicate room 7)

abbrev found : List ℕ → ℕ → List ℕ
found script room = delivery_output (read_entry script) (replicate room 7)

-- N and the number of bytes
abbrev yes : ℕ → ℕ → Reply Listed
yes threads bytes = accepted (record { threads = threads; bytes = bytes })

-- two threads; a call, a set and a clear
abbrev triples : List ℕ
triples = 0 ∷ 2 ∷ 0 ∷ 0 ∷ 3 ∷ 1 ∷ 1 ∷ 4 ∷ 0 ∷ []

abbrev script : List ℕ
script = bytes "(threads 2)\n(0 (call exclusive))\n(0 (set 1))\n(1 (clear 0))\n"

abbrev noted : List ℕ
noted = bytes "(threads 2)\n(note the (panel) writes)\n(0 (call exclusive))\n(0 (set 1))\n(note )\n(1 (clear 0))\n"

pub record WritingExamples : Type 0 where
  -- "the threads line, then one form a move, no notes"; the byte behind the script stays
  pub writes : (written 2 triples 60 ≡ accepted 59) × (left 2 triples 60 ≡ script ++ (7 ∷ []))
  -- "or 12", and every byte stays
  pub no_room : (written 2 triples 58 ≡ refused 12 0) × (left 2 triples 58 ≡ replicate 58 7)
  -- "Reading a script gives N and the triples"; notes are passed over
  pub reads : (read noted 10 ≡ yes 2 9) × (found noted 10 ≡ triples ++ (7 ∷ []))
  pub read_back : (read script 9 ≡ yes 2 9) × (found script 9 ≡ triples)
  pub no_room_read : (read script 8 ≡ refused 12 0) × (found script 8 ≡ replicate 8 7)
  -- no move at all
  pub empty : (written 200 [] 14 ≡ accepted 14) × (read (bytes "(threads 200)\n") 0 ≡ yes 200 0)
  -- "Order: 1, 8, then triple by triple 3, 4, 5, with the triple's index as place"
  pub order : (written 0 (9 ∷ []) 0 ≡ refused 1 0) × (written 201 (9 ∷ []) 0 ≡ refused 1 0) × (written 1 (9 ∷ []) 0 ≡ refused 8 0)
  pub numbers : (written 2 (0 ∷ 0 ∷ 0 ∷ 2 ∷ 7 ∷ 9 ∷ []) 0 ≡ refused 3 1) × (written 2 (0 ∷ 0 ∷ 0 ∷ 1 ∷ 7 ∷ 9 ∷ []) 0 ≡ refused 4 1) × (written 2 (0 ∷ 3 ∷ 2 ∷ 2 ∷ 0 ∷ 0 ∷ []) 0 ≡ refused 5 0)
  -- each triple is tried for all three before the next, and the target of a move that names no thread is 0
  pub first_triple : written 2 (0 ∷ 0 ∷ 1 ∷ 2 ∷ 0 ∷ 0 ∷ []) 0 ≡ refused 5 0
  -- "with the first such line as place": 8 for a bad form, 1 for a bad N, 3 and 5 for a thread and a target
  pub lines : (read [] 9 ≡ refused 8 1) × (read (bytes "(note )\n(threads 1)\n") 9 ≡ refused 8 1) × (read (bytes "(threads 201)\n(0 (go))\n") 9 ≡ refused 1 1)
  pub line_thread : read (bytes "(threads 2)\n(0 (go))\n(2 (set 2))\n(0 go)\n") 9 ≡ refused 3 3
  pub line_target : read (bytes "(threads 2)\n(0 (set 2))\n") 9 ≡ refused 5 2
  pub line_form_lem : (read (bytes "(threads 2)\n(threads 2)\n") 9 ≡ refused 8 2) × (read (bytes "(threads 2)\n(0 (go))") 9 ≡ refused 8 2)
  -- "The list may hold moves that a run would later refuse": a go in phase 0
  pub later : (read (bytes "(threads 1)\n(0 (go))\n") 3 ≡ yes 1 3) × (written 1 (0 ∷ 0 ∷ 0 ∷ []) 21 ≡ accepted 21)

pub writing_examples : WritingExamples
unfolding answered delivery_reply delivery_output requests_of bytes_of act_text occurrences note_fits note_form aimed_form plain_moves plain_form act_form form_of moves_text script_of triples_tests lines_tests requests_in script_tests bytes same lines_of digits_of value_from decimal_within number_read every gather
writing_examples =
    record {
      writes = (refl, refl);
      no_room = (refl, refl);
      reads = (refl, refl);
      read_back = (refl, refl);
      no_room_read = (refl, refl);
      empty = (refl, refl);
      order = (refl, refl, refl);
      numbers = (refl, refl, refl);
      first_triple = refl;
      lines = (refl, refl, refl);
      line_thread = refl;
      line_target = refl;
      line_form_lem = (refl, refl);
      later = (refl, refl);
    }
