-- What one pass over the 200 entries of a record finds, of the threads and of the entries from N upward, and what is decided from it. That this is `consistent` is proved in proofs/OnePass.
use Rattle.std.specs.Prelude.{ℕ, ◌+◌, ◌<◌, Bool, cond, not, ◌&&◌, ◌||◌, List, leb, eqb}
use Rattle.definitions.specs.Bounds.{most_threads}
use Rattle.definitions.specs.PlainLock.{places_in, how_many_at}
use Rattle.definitions.specs.Threads.{every}
use Rattle.definitions.specs.declared.Watcher.{Watcher}
use Rattle.consistency.specs.declared.Found.{Found}

-- a place of a round: 0, 1, 2, 3, 5, 6 or 7
abbrev pub in_round : ℕ → Bool
in_round place = leb place 7 && not (eqb place 4)

-- there is room for one more thread
pub record Room (found : Found) : Type 0 where
  pub shared : found.shared < most_threads
  pub exclusive : found.exclusive < most_threads

-- what is found with one more thread
abbrev pub with_place : Found → ℕ → Found
with_place found place =
    record {
      shared = found.shared + cond (eqb place 2) 1 0;
      exclusive = found.exclusive + cond (eqb place 6) 1 0;
      rounds = found.rounds && in_round place;
    }

-- what is found of the first k threads
abbrev pub found_in : List ℕ → ℕ → Found
found_in places k =
    record {
      shared = how_many_at k (places_in places) 2;
      exclusive = how_many_at k (places_in places) 6;
      rounds = every k (λ t. in_round (places_in places t));
    }

-- whether the first k entries are 0
abbrev pub all_zero : List ℕ → ℕ → Bool
all_zero places k = every k (λ t. eqb (places_in places t) 0)

-- the record's totals are those found, and nobody is inside beside a thread in exclusive
abbrev pub found_fits : Watcher → Found → Bool → Bool
found_fits w found empty =
    (eqb w.shared found.shared && eqb w.exclusive found.exclusive)
    && (empty && (found.rounds && (leb found.exclusive 1 && (eqb found.exclusive 0 || eqb found.shared 0))))
