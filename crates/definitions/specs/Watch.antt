-- The watcher of 02 §2: a record that judges each event as it happens, without the history being kept. First the record and when it is consistent;
-- then its three entries, the start, one event, and "Is anybody inside?"; last a watch, a list of events put to it one after the other.
-- An event is judged by the plain lock's own tests (PlainLock), at the places that the record holds. A record's `places` are 200 bytes, as its type says.
use Rattle.std.specs.Prelude.{Result, ℕ, Bool, cond, not, ◌||◌, List, [], ◌∷◌, ◌++◌, leb, ltb, eqb, replicate}
use Rattle.definitions.specs.Answers.{Reply, reply_by_0, Test, test, answered, leaves}
use Rattle.definitions.specs.Bounds.{most_threads}
use Rattle.definitions.specs.PlainLock.{Pair, Places, places_in, advanced, how_many_at, pair_tests}
use Rattle.definitions.specs.Table.{count_fits}
use Rattle.definitions.specs.Threads.{every, list_of, among, all_of, implies}
use Rattle.definitions.specs.declared.Refusal.{Refusal}
use Rattle.definitions.specs.declared.Watcher.{Watcher}

-- ---- the record

-- "A watcher record holds N, each thread's place in its round (its last event's code, 0 before the first and after a 4 or 8), and how many are in shared and in exclusive.",
-- "and entries from N upward must stay 0": the record of n threads at these places
abbrev pub record_of : ℕ → Places → Watcher
record_of n places =
    record {
      threads = n;
      shared = how_many_at n places 2;
      exclusive = how_many_at n places 6;
      places = list_of most_threads (λ t. cond (ltb t n) (places t) 0);
    }

-- "It starts with every place 0 and both totals 0"
abbrev pub started : ℕ → Watcher
started n = record { threads = n; shared = 0; exclusive = 0; places = replicate most_threads 0 }

-- the places of a round: the events' codes but 4 and 8, which lead to 0
abbrev pub round_places : List ℕ
round_places = 0 ∷ 1 ∷ 2 ∷ 3 ∷ 5 ∷ 6 ∷ 7 ∷ []

-- "places that the plain lock never shows" are all but these: each in a round, one thread at most in exclusive, and then nobody in shared
unfoldable pub places_fit : ℕ → Places → Bool
places_fit n places =
    all_of
    (every n (λ t. among (places t) round_places)
    ∷ leb (how_many_at n places 6) 1
    ∷ (eqb (how_many_at n places 6) 0 || eqb (how_many_at n places 2) 0)
    ∷ [])

-- "A record with a false total, an entry from N upward that isn't 0, or places that the plain lock never shows" isn't consistent
unfoldable pub consistent : Watcher → Bool
consistent w =
    all_of
    (eqb w.shared (how_many_at w.threads (places_in w.places) 2)
    ∷ eqb w.exclusive (how_many_at w.threads (places_in w.places) 6)
    ∷ every most_threads (λ t. implies (leb w.threads t) (eqb (places_in w.places t) 0))
    ∷ places_fit w.threads (places_in w.places)
    ∷ [])

-- ---- the entries

-- the reply that the result of the start or of an event stands for, and that of the question: yes or no
abbrev pub watched_reply : Result (Unit {0}) Refusal → Reply (Unit {0})
watched_reply = reply_by_0 (λ good. good)

abbrev pub inside_reply : Result Bool Refusal → Reply Bool
inside_reply = reply_by_0 (λ somebody. somebody)

-- the start: 1 for a bad N, and then the record stays
unfoldable pub start_reply : ℕ → Reply (Unit {0})
start_reply n = answered (test 1 (count_fits n) ∷ []) tt

unfoldable pub start_record : ℕ → Watcher → Watcher
start_record n w = leaves (start_reply n) (started n) w

-- "13, the watcher record is inconsistent, tested after 1 and before 9"
abbrev pub record_tests : Watcher → List Test
record_tests w = test 1 (count_fits w.threads) ∷ test 13 (consistent w) ∷ []

-- one event: "a bad event gets 9, 10 or 11 with place 0"
unfoldable pub event_reply : Watcher → Pair → Reply (Unit {0})
event_reply w x = answered (record_tests w ++ pair_tests w.threads (places_in w.places) 0 x) tt

-- "A bad event leaves the record as found"; another one leaves that of the places after it
unfoldable pub event_record : Watcher → Pair → Watcher
event_record w x = leaves (event_reply w x) (record_of w.threads (advanced (places_in w.places) x)) w

-- "'Is anybody inside?' is yes exactly when a total isn't 0"
unfoldable pub question_reply : Watcher → Reply Bool
question_reply w = answered (record_tests w) (not (eqb w.shared 0) || not (eqb w.exclusive 0))

-- ---- a watch

-- "It .. is updated there, event by event": what a watcher answers to a list of events, and the record that they leave
unfoldable pub watch_replies : Watcher → List Pair → List (Reply (Unit {0}))
watch_replies w [] = []
watch_replies w (x ∷ xs) = event_reply w x ∷ watch_replies (event_record w x) xs

unfoldable pub watch_record : Watcher → List Pair → Watcher
watch_record w [] = w
watch_record w (x ∷ xs) = watch_record (event_record w x) xs
