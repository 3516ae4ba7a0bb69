-- The open moves of a thread, and the entry for them.
use Rattle.std.specs.Prelude.{ℕ, suc, cond, List, [], ◌∷◌, ◌++◌, ltb}
use Rattle.definitions.specs.Answers.{test, Delivery, counted}
use Rattle.definitions.specs.Bounds.{last_move}
use Rattle.definitions.specs.Moves.{ask, accepts}
use Rattle.definitions.specs.Sound.{table_tests}
use Rattle.definitions.specs.Table.{Table, table_of}
use Rattle.definitions.specs.Threads.{gather}

-- "Open moves are byte pairs, move then target, by move, then target: exactly those a request would have accepted."
unfoldable pub open_moves : Table → ℕ → List ℕ
open_moves s thread =
    gather (suc last_move) (λ mv.
    gather s.threads (λ target.
    cond (accepts s (ask thread mv target)) (mv ∷ target ∷ []) []))

-- the open moves entry turns down by 1, 2, 3, 12
abbrev pub open_entry : List ℕ → ℕ → Delivery ℕ
open_entry bytes thread =
    counted (table_tests bytes ++ (test 3 (ltb thread (table_of bytes).threads) ∷ [])) (open_moves (table_of bytes) thread)
