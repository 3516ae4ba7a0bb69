-- The shortest lines of a script, and so the most moves that it can have.
use Rattle.std.specs.Prelude.{ℕ, ◌/◌}
use Rattle.definitions.specs.Bounds.{most_script}

-- the bytes of the shortest threads line, `(threads 1)` with its line feed
abbrev pub shortest_threads : ℕ
shortest_threads = 12

-- the bytes of the shortest line of a move, `(0 (go))` with its line feed
abbrev pub shortest_move : ℕ
shortest_move = 9

-- a script has so many moves at most
abbrev pub most_script_moves : ℕ
most_script_moves = most_script / shortest_move
