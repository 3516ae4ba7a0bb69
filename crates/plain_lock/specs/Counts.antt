-- An event judged by plain counts: its thread's place in its round, and the total of the threads inside. These are all that has to be kept of the pairs before it.
-- `standing_of` are the place and the total that the places of all threads give;
-- that the tests by counts are then those of the plain lock, and that an event leaves the total of the places after it, is proved in proofs/StandingLaws.
use Rattle.std.specs.Prelude.{Result, Ok, Err, ◌≡◌, ℕ, ◌+◌, ◌-◌, ◌*◌, ◌<◌, ◌≤◌, Bool, cond, ◌&&◌, List, [], ◌∷◌, ◌==◌, nat_le, nat_lt}
use Rattle.definitions.specs.Answers.{number_of, Reply, accepted, refused, Test, test_at}
use Rattle.definitions.specs.Bounds.{most_threads, first_event, last_event}
use Rattle.definitions.specs.PlainLock.{Pair, Places, place_after, is_next, how_many_at}
use Rattle.definitions.specs.Threads.{between}
use Rattle.definitions.specs.declared.Refusal.{Refusal}
use Rattle.plain_lock.specs.declared.Standing.{Standing}

-- in a total of those inside a thread in shared is 1 and one in exclusive this, more than there are threads
abbrev pub writer : ℕ
writer = 256

-- the total of so many in shared and so many in exclusive
abbrev pub total : ℕ → ℕ → ℕ
total shared exclusive = shared + writer * exclusive

-- that of the threads below n, by their places
abbrev pub total_at : ℕ → Places → ℕ
total_at n places = total (how_many_at n places 2) (how_many_at n places 6)

abbrev pub standing_of : ℕ → Places → ℕ → Standing
standing_of n places thread = record { place = places thread; inside = total_at n places }

-- the largest total with nobody in exclusive, and the largest of 16 bits, above every total of 200 threads
abbrev pub readers : ℕ
readers = 255

abbrev pub any : ℕ
any = 65_535

-- the largest total that meets an event's need: "Event 2 needs nobody in exclusive. Event 6 needs nobody in either. Nothing else is forbidden."
abbrev pub most_for : ℕ → ℕ
most_for event = cond (event == 2) readers (cond (event == 6) 0 any)

abbrev pub counts_meet : Standing → ℕ → Bool
counts_meet s event = nat_le s.inside (most_for event)

-- the refusals 9, 10 and 11 of a pair of index k
abbrev pub count_tests : ℕ → Standing → ℕ → Pair → List Test
count_tests n s k x =
    test_at k 9 (between first_event last_event x.event && nat_lt x.thread n)
    ∷ test_at k 10 (is_next s.place x.event)
    ∷ test_at k 11 (counts_meet s x.event)
    ∷ []

-- what an event adds to the total and takes from it: a 2 counts its thread into shared and a 3 out of it, a 6 and a 7 into and out of exclusive
abbrev pub counted_in : ℕ → ℕ
counted_in event = total (cond (event == 2) 1 0) (cond (event == 6) 1 0)

abbrev pub counted_out : ℕ → ℕ
counted_out event = total (cond (event == 3) 1 0) (cond (event == 7) 1 0)

-- what an event that is accepted does
abbrev pub standing_after : Standing → ℕ → Standing
standing_after s event = record { place = place_after event; inside = s.inside + counted_in event - counted_out event }

-- what is asked of a standing: the total is that of at most 200 threads, the thread itself in it where it is inside, and its place is one in a round (a 4 leads to 0)
pub record Counted (n thread : ℕ) (s : Standing) : Type 0 where
  pub few : n ≤ most_threads
  pub most : s.inside ≤ total n n
  pub in_shared : thread < n → s.place ≡ 2 → 1 ≤ s.inside
  pub in_exclusive : thread < n → s.place ≡ 6 → writer ≤ s.inside
  pub is_in_round : s.place ≡ 4 → ⊥

-- the reply that a verdict on a pair of index k stands for: where it leaves its thread, or why it is turned down
abbrev pub verdict_reply : ℕ → Result Standing Refusal → Reply Standing
verdict_reply k (Ok s) = accepted s
verdict_reply k (Err r) = refused (number_of r) k
