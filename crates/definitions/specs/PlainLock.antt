-- The plain readers-writer lock: a history, each thread's place in its round, what each event needs, permitted histories, and what the check answers.
-- A thread's place is its last event's code, 0 before the first and after a 4 or 8. A pair is judged by the pairs before it alone.
use Rattle.std.specs.Prelude.{ℕ, ◌+◌, ◌%◌, Bool, true, cond, not, ◌&&◌, ◌||◌, List, [], ◌∷◌, ◌++◌, leb, ltb, eqb, length, get_or, take}
use Rattle.definitions.specs.Answers.{Reply, Test, test, test_at, passes_all, answered}
use Rattle.definitions.specs.Bounds.{first_event, last_event, most_history}
use Rattle.definitions.specs.Table.{count_fits}
use Rattle.definitions.specs.Threads.{every, some, how_many, gather, between}

-- "A history is a list of byte pairs, thread then event."
pub record Pair : Type 0 where
  pub thread : ℕ
  pub event : ℕ

unfoldable pub pairs_of : List ℕ → List Pair
pairs_of [] = []
pairs_of (t ∷ []) = []
pairs_of (t ∷ e ∷ rest) = record { thread = t; event = e } ∷ pairs_of rest

-- each thread's place in its round
abbrev pub Places : Type 0
Places = ℕ → ℕ

-- those that a list holds, an entry for each thread
abbrev pub places_in : List ℕ → Places
places_in places = λ t. get_or places t 0

abbrev pub at_start : Places
at_start = λ t. 0

-- "A thread's first event, and the one after a 4 or 8, is 1 or 5."
abbrev pub place_after : ℕ → ℕ
place_after event = cond (eqb event 4 || eqb event 8) 0 event

abbrev pub advanced : Places → Pair → Places
advanced places x = λ t. cond (eqb t x.thread) (place_after x.event) (places t)

-- the places after a list of pairs
unfoldable pub places_after : Places → List Pair → Places
places_after places [] = places
places_after places (x ∷ xs) = places_after (advanced places x) xs

-- "Each thread goes round 1, 2, 3, 4 or 5, 6, 7, 8."
abbrev pub is_next : ℕ → ℕ → Bool
is_next place event = cond (eqb place 0) (eqb event 1 || eqb event 5) (eqb event (place + 1))

-- "A thread is in shared after its 2 until its 3, in exclusive after its 6 until its 7."
abbrev pub any_in_shared : ℕ → Places → Bool
any_in_shared n places = some n (λ t. eqb (places t) 2)

abbrev pub any_in_exclusive : ℕ → Places → Bool
any_in_exclusive n places = some n (λ t. eqb (places t) 6)

-- how many of the threads below n are at a place
abbrev pub how_many_at : ℕ → Places → ℕ → ℕ
how_many_at n places place = how_many n (λ t. eqb (places t) place)

-- "Event 2 needs nobody in exclusive. Event 6 needs nobody in either. Nothing else is forbidden."
abbrev pub need_met : ℕ → Places → ℕ → Bool
need_met n places event =
    cond (eqb event 2)
    (not (any_in_exclusive n places))
    (cond (eqb event 6) (not (any_in_shared n places) && not (any_in_exclusive n places)) true)

-- the refusals of a pair of index k, given the places before it, in their order:
-- "A history's event is outside 1 to 8, or its thread isn't below N." "The event isn't the thread's next." "The event's need of an empty section isn't met."
abbrev pub pair_tests : ℕ → Places → ℕ → Pair → List Test
pair_tests n places k x =
    test_at k 9 (between first_event last_event x.event && ltb x.thread n)
    ∷ test_at k 10 (is_next (places x.thread) x.event)
    ∷ test_at k 11 (need_met n places x.event)
    ∷ []

-- those of a history's pair of index k, "after the pairs before it"
unfoldable pub tests_of : ℕ → List Pair → ℕ → List Test
tests_of n history k =
    pair_tests n (places_after at_start (take k history)) k (get_or history k (record { thread = 0; event = 0 }))

-- "A history, of any length, is permitted for N exactly when each pair has a thread below N and an event that is that thread's next and whose need, if it has one, is met after the pairs before it."
unfoldable pub permitted : ℕ → List Pair → Bool
permitted n history = every (length history) (λ k. passes_all (tests_of n history k))

-- refusal 1, and 8: "The history has an odd length or exceeds 60,000 bytes"
abbrev pub form_tests : ℕ → List ℕ → List Test
form_tests n bytes = test 1 (count_fits n) ∷ test 8 (eqb (length bytes % 2) 0 && leb (length bytes) most_history) ∷ []

-- "each pair tried for all three before the next"
abbrev pub pairs_tests : ℕ → List ℕ → List Test
pairs_tests n bytes = gather (length (pairs_of bytes)) (tests_of n (pairs_of bytes))

-- the refusals of the check, in their order
abbrev pub check_tests : ℕ → List ℕ → List Test
check_tests n bytes = form_tests n bytes ++ pairs_tests n bytes

-- "An accepted history answers its number of events"
unfoldable pub check_reply : ℕ → List ℕ → Reply ℕ
check_reply n bytes = answered (check_tests n bytes) (length (pairs_of bytes))
