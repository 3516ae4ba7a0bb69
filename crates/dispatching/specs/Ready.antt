-- Whether a thread of a sound table has a move of the dispatcher's, and which, from its phase, the mutex and the busy of the table's target. TurnKinds shows that these are the definitions' own.
use Rattle.std.specs.Prelude.{ℕ, Bool, cond, not, ◌&&◌, ◌||◌, eqb}
use Rattle.definitions.specs.Codes.{go, set_move, clear_move}
use Rattle.definitions.specs.Table.{Table}
use Rattle.definitions.specs.Threads.{implies}

-- the phases in which every move is the host's: in 0 calls, in 4 retries, in 6 and 14 leavings
abbrev pub hosts : ℕ → Bool
hosts phase = eqb phase 0 || (eqb phase 4 || (eqb phase 6 || eqb phase 14))

-- in the others a thread is ready, but that in 9 the mutex must be free, and in 11 the target not busy
unfoldable pub ready_by : ℕ → ℕ → ℕ → Bool
ready_by mutex busy phase = not (hosts phase) && (implies (eqb phase 9) (eqb mutex 0) && implies (eqb phase 11) (eqb busy 0))

abbrev pub ready : Table → ℕ → Bool
ready s i = ready_by s.mutex (s.busy s.target) (s.phase i)

-- the move is set in 10, clear in 15, and else go
unfoldable pub move_by : ℕ → ℕ
move_by phase = cond (eqb phase 10) set_move (cond (eqb phase 15) clear_move go)
