-- A watch by the plain lock's rules alone: no record is kept, but the events accepted so far. "its verdict on each event is the one that the plain lock's rules give for the events
-- accepted so far with this one added"
use Rattle.std.specs.Prelude.{ℕ, Bool, List, [], ◌∷◌, ◌++◌}
use Rattle.definitions.specs.Answers.{Reply, answered, leaves}
use Rattle.definitions.specs.PlainLock.{Pair, Places, at_start, places_after, pair_tests}
use Rattle.definitions.specs.Threads.{some, among}

-- the plain lock's verdict on an event behind the events accepted so far, with place 0
abbrev pub verdict_on : ℕ → List Pair → Pair → Reply (Unit {0})
verdict_on n before x = answered (pair_tests n (places_after at_start before) 0 x) tt

-- "A bad event leaves the record as found, and the watch goes on from there.": the events accepted so far, this one among them if it is accepted
abbrev pub kept_with : ℕ → List Pair → Pair → List Pair
kept_with n before x = leaves (verdict_on n before x) (before ++ (x ∷ [])) before

-- the verdicts on a list of events, and those of them that are accepted
unfoldable pub verdicts_on : ℕ → List Pair → List Pair → List (Reply (Unit {0}))
verdicts_on n before [] = []
verdicts_on n before (x ∷ xs) = verdict_on n before x ∷ verdicts_on n (kept_with n before x) xs

unfoldable pub accepted_of : ℕ → List Pair → List Pair → List Pair
accepted_of n before [] = before
accepted_of n before (x ∷ xs) = accepted_of n (kept_with n before x) xs

-- some thread is in shared or in exclusive
abbrev pub some_inside : ℕ → Places → Bool
some_inside n places = some n (λ t. among (places t) (2 ∷ 6 ∷ []))
