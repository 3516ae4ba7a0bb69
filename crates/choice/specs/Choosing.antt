-- What the functions that make the choice are handed, and what is chosen.
use Rattle.std.specs.Prelude.{ℕ, ◌<◌, Bool, Option, MatchOption, List, ◌≡◌, not, ◌&&◌, leb, T}
use Rattle.definitions.specs.Answers.{number_of_move}
use Rattle.definitions.specs.Dispatch.{chosen, is_waiting}
use Rattle.definitions.specs.Moves.{ask}
use Rattle.definitions.specs.Sound.{sound}
use Rattle.definitions.specs.Table.{Table, table_of}
use Rattle.definitions.specs.Threads.{lowest}
use Rattle.definitions.specs.declared.Request.{Request}
use Rattle.theory.specs.Tables.{Sized}
use Rattle.choice.specs.declared.request.Chosen.{Chosen}

-- ---- what is found

-- the lowest of the threads from `from` to `to` - 1 of which f holds, and `to` where there is none
abbrev pub lowest_from : ℕ → ℕ → (ℕ → Bool) → ℕ
lowest_from from to f = lowest to (λ t. leb from t && f t)

-- the lowest of these threads, if there is one
abbrev pub IsLowestFrom : ℕ → ℕ → (ℕ → Bool) → Option ℕ → Type 0
IsLowestFrom from to f r = MatchOption r (lowest_from from to f ≡ to) (λ i. (i < to) × (lowest_from from to f ≡ i))

-- the lowest of the threads below n of which f holds, if there is one
abbrev pub IsLowest : ℕ → (ℕ → Bool) → Option ℕ → Type 0
IsLowest n f r = MatchOption r (lowest n f ≡ n) (λ i. (i < n) × (lowest n f ≡ i))

-- ---- what is handed on

-- a table that passed test 1, and its N
pub record CountedFor (bytes : List ℕ) (n : ℕ) : Type 0 where
  pub size : Sized bytes
  pub count : n ≡ (table_of bytes).threads

-- one that passed test 2 as well
pub record SoundFor (bytes : List ℕ) (n : ℕ) : Type 0 where
  pub counted : CountedFor bytes n
  pub is_sound : T (sound (table_of bytes))

-- ---- what is chosen

-- its request
abbrev pub asked : Chosen → Request
asked c = ask c.thread (number_of_move c.mv) c.target

-- a choice is the request that the dispatcher makes, and is none where it waits
abbrev pub Chooses : Table → Option Chosen → Type 0
Chooses s r = MatchOption r (T (is_waiting s)) (λ c. T (not (is_waiting s)) × (asked c ≡ chosen s))
