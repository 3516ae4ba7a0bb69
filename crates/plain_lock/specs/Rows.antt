-- The rows of constants that the code looks an event up in, by its code: what the event asks and does, packed in one number.
use Rattle.std.specs.Prelude.{ℕ, ◌+◌, ◌-◌, ◌*◌, ◌/◌, ◌%◌, ◌^◌, cond, ◌||◌, ◌==◌}
use Rattle.definitions.specs.Bounds.{first_event, last_event}
use Rattle.definitions.specs.PlainLock.{place_after}
use Rattle.definitions.specs.Threads.{between}
use Rattle.plain_lock.specs.Counts.{any, most_for, counted_in, counted_out}
use Rattle.plain_lock.specs.declared.Standing.{Standing}

-- the place that an event follows: "Each thread goes round 1, 2, 3, 4 or 5, 6, 7, 8."
abbrev pub place_before : ℕ → ℕ
place_before event = cond (event == 1 || event == 5) 0 (event - 1)

-- what an event adds to the total, modulo 2 ^ 32
abbrev pub change : ℕ → ℕ
change event = (counted_in event + (2 ^ 32 - counted_out event)) % 2 ^ 32

-- from the lowest bit: a byte each for the place before and the place after, 16 bits for the largest total, and 32 for what is added to the total
abbrev pub packed : ℕ → ℕ → ℕ → ℕ → ℕ
packed before after most added = before + 2 ^ 8 * after + 2 ^ 16 * most + 2 ^ 32 * added

abbrev pub known_row : ℕ → ℕ
known_row event = packed (place_before event) (place_after event) (most_for event) (change event)

-- no thread is ever at this place: a 4 leads to 0
abbrev pub no_place : ℕ
no_place = 4

-- the row of a code that is no event
abbrev pub unknown_row : ℕ
unknown_row = packed no_place 0 any 0

unfoldable pub event_row : ℕ → ℕ
event_row code = cond (between first_event last_event code) (known_row code) unknown_row

-- what a row does to a standing
abbrev pub moved_by : Standing → ℕ → Standing
moved_by s row = record { place = row / 2 ^ 8 % 2 ^ 8; inside = (s.inside + row / 2 ^ 32) % 2 ^ 32 }
