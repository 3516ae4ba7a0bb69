-- The plan for a history: the requests of each event, the plan's bytes, the plan entry, and what is answered of a plan's length.
use Rattle.std.specs.Prelude.{ℕ, List, [], ◌∷◌, ◌++◌, length, get_or}
use Rattle.definitions.specs.Answers.{Reply, answered, Delivery}
use Rattle.definitions.specs.Codes.{go, call_shared, call_exclusive, set_move, clear_move}
use Rattle.definitions.specs.Moves.{ask}
use Rattle.definitions.specs.PlainLock.{Pair, pairs_of, check_tests}
use Rattle.definitions.specs.Threads.{gather}
use Rattle.definitions.specs.declared.Request.{Request}

-- the requests of thread i for an event, a row for each of the events' codes from 0; 0 is no event
abbrev pub plan_rows : ℕ → ℕ → List (List Request)
plan_rows n i =
    []
    -- "For 1 and 5: the call."
    ∷ (ask i call_shared 0 ∷ [])
    -- "For 2: go three times."
    ∷ (ask i go 0 ∷ ask i go 0 ∷ ask i go 0 ∷ [])
    -- "For 3: go twice."
    ∷ (ask i go 0 ∷ ask i go 0 ∷ [])
    -- "For 4 and 8: go."
    ∷ (ask i go 0 ∷ [])
    ∷ (ask i call_exclusive 0 ∷ [])
    -- "For 6: go, then for each t from 0 upward set t and go, then go."
    ∷ ((ask i go 0 ∷ []) ++ (gather n (λ t. ask i set_move t ∷ ask i go 0 ∷ []) ++ (ask i go 0 ∷ [])))
    -- "For 7: go, clear each t from 0 upward, go."
    ∷ ((ask i go 0 ∷ []) ++ (gather n (λ t. ask i clear_move t ∷ []) ++ (ask i go 0 ∷ [])))
    ∷ (ask i go 0 ∷ [])
    ∷ []

unfoldable pub plan_of : ℕ → Pair → List Request
plan_of n x = get_or (plan_rows n x.thread) x.event []

-- "event by event"
unfoldable pub plan : ℕ → List Pair → List Request
plan n [] = []
plan n (x ∷ xs) = plan_of n x ++ plan n xs

-- "The plan for a history writes byte triples, thread, move, target"
unfoldable pub bytes_of : List Request → List ℕ
bytes_of [] = []
bytes_of (r ∷ rs) = r.thread ∷ r.mv ∷ r.target ∷ bytes_of rs

-- the plan entry turns down as the check does, "number and place", then by 12; it answers "a plan, its number of moves"
abbrev pub plan_entry : ℕ → List ℕ → Delivery ℕ
plan_entry n bytes =
    record { tests = check_tests n bytes; text = bytes_of (plan n (pairs_of bytes)); answer = length (plan n (pairs_of bytes)) }

-- "Given N and a history, answer the number of moves of its plan without making the plan. .. A history that the check turns down gets the check's number and place." (02 §4)
unfoldable pub plan_length_reply : ℕ → List ℕ → Reply ℕ
plan_length_reply n bytes = answered (check_tests n bytes) (length (plan n (pairs_of bytes)))
