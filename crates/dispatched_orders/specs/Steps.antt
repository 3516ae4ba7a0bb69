-- A host that makes requests of its own and lets a dispatcher take turns, in any order: what is shown, and what is left (02 §8).
-- Each step gets the table that the one before left, and nothing else writes it. A turn is one by any choice of the thread that moves, its own each time; 02 §8's is `mover_in`.
use Rattle.std.specs.Prelude.{ℕ, List, [], ◌∷◌, ◌++◌, ◌≡◌}
use Rattle.definitions.specs.Answers.{Reply, accepted, refused}
use Rattle.definitions.specs.Chains.{pair_seen, pair_for, history, table_after}
use Rattle.definitions.specs.Dispatch.{DispatchAnswer, made, waiting}
use Rattle.definitions.specs.Moves.{move_reply, move_table}
use Rattle.definitions.specs.PlainLock.{Pair}
use Rattle.definitions.specs.Table.{Table}
use Rattle.definitions.specs.declared.Request.{Request}
use Rattle.dispatching.specs.Turns.{turn_reply, turn_table, NamesTurn}

-- one step: a request to the move, or a turn of a dispatcher, by its choice
pub data Step : Type 0 where
  asks : Request → Step
  turn : (Table → ℕ) → Step

-- the choices of the turns name threads which have a turn
abbrev pub NameTurns : List Step → Type 0
NameTurns [] = Unit {0}
NameTurns (asks r ∷ xs) = NameTurns xs
NameTurns (turn choice ∷ xs) = NamesTurn choice × NameTurns xs

-- a turn shows its thread and event where it made a move that shows one
abbrev pub pair_of_turn : Reply DispatchAnswer → List Pair
pair_of_turn (accepted (made r answer)) = pair_seen r.thread answer.seen
pair_of_turn (accepted waiting) = []
pair_of_turn (refused number place) = []

abbrev pub shown_at : List ℕ → Step → List Pair
shown_at table (asks r) = pair_for r.thread (move_reply table r)
shown_at table (turn choice) = pair_of_turn (turn_reply choice table)

abbrev pub left_at : List ℕ → Step → List ℕ
left_at table (asks r) = move_table table r
left_at table (turn choice) = turn_table choice table

-- what a list of steps shows, and what it leaves
unfoldable pub shown_by : List ℕ → List Step → List Pair
shown_by table [] = []
shown_by table (x ∷ xs) = shown_at table x ++ shown_by (left_at table x) xs

unfoldable pub left_by : List ℕ → List Step → List ℕ
left_by table [] = table
left_by table (x ∷ xs) = left_by (left_at table x) xs

-- ---- the same by requests alone

-- the request that a turn makes: none where it waits or is refused
abbrev pub request_of_turn : Reply DispatchAnswer → List Request
request_of_turn (accepted (made r answer)) = r ∷ []
request_of_turn (accepted waiting) = []
request_of_turn (refused number place) = []

abbrev pub requests_at : List ℕ → Step → List Request
requests_at table (asks r) = r ∷ []
requests_at table (turn choice) = request_of_turn (turn_reply choice table)

-- the host's own requests in their order, each turn's move in its place
unfoldable pub requests_by : List ℕ → List Step → List Request
requests_by table [] = []
requests_by table (x ∷ xs) = requests_at table x ++ requests_by (left_at table x) xs

-- they show and leave the same as the steps
pub record AsRequests (table : List ℕ) (xs : List Step) : Type 0 where
  pub shows : history table (requests_by table xs) ≡ shown_by table xs
  pub leaves : table_after table (requests_by table xs) ≡ left_by table xs
