-- The requests that the plan's writers repeat.
use Rattle.std.specs.Prelude.{ℕ, List, [], ◌∷◌}
use Rattle.definitions.specs.Codes.{go, set_move, clear_move}
use Rattle.definitions.specs.Moves.{ask}
use Rattle.definitions.specs.Threads.{gather}
use Rattle.definitions.specs.declared.Request.{Request}

-- go, a number of times
abbrev pub go_times : ℕ → ℕ → List Request
go_times i count = gather count (λ t. ask i go 0 ∷ [])

-- "for each t from 0 upward set t and go"
abbrev pub set_each : ℕ → ℕ → List Request
set_each i n = gather n (λ t. ask i set_move t ∷ ask i go 0 ∷ [])

-- "clear each t from 0 upward"
abbrev pub clear_each : ℕ → ℕ → List Request
clear_each i n = gather n (λ t. ask i clear_move t ∷ [])
