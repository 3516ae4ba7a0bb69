-- A thread's phase and its place in the plain lock's round.
use Rattle.std.specs.Prelude.{ℕ, [], ◌∷◌, get_or}
use Rattle.definitions.specs.Phases.{node_of}
use Rattle.definitions.specs.PlainLock.{Places}
use Rattle.definitions.specs.Table.{Table}

-- the place of a thread, its last event's code, 0 before the first and after a 4 or 8, by its node: from Free, ES and LOE on, in the order of their codes
unfoldable pub place_of : ℕ → ℕ
place_of phase = get_or (0 ∷ 1 ∷ 1 ∷ 2 ∷ 3 ∷ 5 ∷ 5 ∷ 5 ∷ 6 ∷ 7 ∷ 7 ∷ []) (node_of phase) 0

abbrev pub places_of : Table → Places
places_of s = λ t. place_of (s.phase t)

-- the phase in which the plan leaves a thread at each place, 0 to 7; nobody is ever at place 4
unfoldable pub rest_phase : ℕ → ℕ
rest_phase place = get_or (0 ∷ 1 ∷ 6 ∷ 8 ∷ 0 ∷ 9 ∷ 14 ∷ 17 ∷ []) place 0
