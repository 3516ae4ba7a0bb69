-- Histories and the requests that make them: the bytes of a list of pairs, what the check passes, what a first bad pair is, and a list of requests that shows a history.
use Rattle.std.specs.Prelude.{ℕ, ◌*◌, ◌/◌, ◌≤◌, ◌<◌, List, [], ◌∷◌, ◌≡◌, T, length}
use Rattle.definitions.specs.Answers.{refused, answered, passes_all}
use Rattle.definitions.specs.Bounds.{most_threads, most_history}
use Rattle.definitions.specs.Chains.{history, accepts_all, AllFit16}
use Rattle.definitions.specs.PlainLock.{Pair, pairs_of, tests_of, permitted}
use Rattle.definitions.specs.Table.{fresh}
use Rattle.definitions.specs.declared.Request.{Request}

-- 60,000 bytes are this many pairs
abbrev pub most_events : ℕ
most_events = most_history / 2

-- a thread's event
abbrev pub pair_of : ℕ → ℕ → Pair
pair_of thread event = record { thread = thread; event = event }

-- "A history is a list of byte pairs, thread then event."
unfoldable pub history_bytes : List Pair → List ℕ
history_bytes [] = []
history_bytes (x ∷ xs) = x.thread ∷ x.event ∷ history_bytes xs

-- numbers that are bytes
abbrev pub AllBytes : List ℕ → Type 0
AllBytes [] = Unit {0}
AllBytes (b ∷ bs) = (b < 256) × AllBytes bs

-- bytes that the check for n threads passes: pairs, so many events, at most 60,000 bytes, that are permitted
pub record Passes (n : ℕ) (bytes : List ℕ) (events : ℕ) : Type 0 where
  pub least : 1 ≤ n
  pub most : n ≤ most_threads
  pub whole : length bytes ≡ 2 * events
  pub short : length bytes ≤ most_history
  pub allowed : T (permitted n (pairs_of bytes))

-- the pair at a place is the first bad one, and number is the first of 9, 10 and 11 that it fails
pub record FirstBad (n : ℕ) (pairs : List Pair) (number place : ℕ) : Type 0 where
  pub inside : place < length pairs
  pub fails : answered (tests_of n pairs place) (length pairs) ≡ refused number place
  pub earlier : (k : ℕ) → k < place → T (passes_all (tests_of n pairs k))

-- the requests rs, 16 bits each, are all accepted from the fresh table for n, and show h
pub record Makes (n : ℕ) (rs : List Request) (h : List Pair) : Type 0 where
  pub numbers : AllFit16 rs
  pub accepted : T (accepts_all (fresh n) rs)
  pub shows : history (fresh n) rs ≡ h
