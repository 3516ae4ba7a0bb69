-- The bounds of the scope paper, each named once: threads, phases, moves, "no target", events, histories, scripts and their output, and the depth of a note.
use Rattle.std.specs.Prelude.{ℕ}

-- "N threads, 1 to 200"
abbrev pub most_threads : ℕ
most_threads = 200

-- "phases are at most 17"; "Add phase 18" (02 §1)
abbrev pub last_phase : ℕ
last_phase = 18

-- "Refusal 4 is now a move above 6" (02 §1)
abbrev pub last_move : ℕ
last_move = 6

-- "the target (a thread number, or 255 for none)"
abbrev pub no_target : ℕ
no_target = 255

-- "The eight events bear codes 1 to 8"
abbrev pub first_event : ℕ
first_event = 1

abbrev pub last_event : ℕ
last_event = 8

-- "The history has an odd length or exceeds 60,000 bytes"
abbrev pub most_history : ℕ
most_history = 60_000

-- "the script breaks its form or exceeds 30,000 bytes"
abbrev pub most_script : ℕ
most_script = 30_000

-- "the run's output, for which 65,536 bytes always suffice"
abbrev pub enough_output : ℕ
enough_output = 65_536

-- "round brackets balance, to depth 16 with the outermost as 1"
abbrev pub most_depth : ℕ
most_depth = 16
