-- The lines that specs/ShortestLines speaks of have so many bytes.
-- That none of their kind has fewer stands with the lines that are read (the crates runs and round_trips) and written (the crate spelling).
use mathlib.Core.Path.{◌≡◌, refl}
use lib.ListN.{length}
use Rattle.definitions.specs.Codes.{go}
use Rattle.definitions.specs.Forms.{threads_line, act_text, spelled}
use Rattle.definitions.specs.Moves.{ask}
use Rattle.definitions.specs.Scripts.{ended}
use Rattle.definitions.specs.Texts.{bytes, decimal_within}
use Rattle.basics.specs.ShortestLines.{shortest_threads, shortest_move}

pub shortest_threads_lem : length (ended (threads_line 1)) ≡ shortest_threads
unfolding bytes decimal_within
shortest_threads_lem = refl

pub shortest_move_lem : length (ended (spelled (ask 0 go 0))) ≡ shortest_move
unfolding bytes decimal_within act_text
shortest_move_lem = refl
