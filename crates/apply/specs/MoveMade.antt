-- The move entry's promise on bytes, `MoveMade`, and what the functions behind it are handed: instances of what `moving` says of any storage.
use Rattle.std.specs.Prelude.{ℕ, ◌<◌, List, Result}
use Rattle.definitions.specs.Table.{table_of, byte_table}
use Rattle.definitions.specs.declared.Move.{Move}
use Rattle.definitions.specs.declared.Outcome.{Outcome}
use Rattle.definitions.specs.declared.Refusal.{Refusal}
use Rattle.definitions.specs.declared.Request.{Request}
use Rattle.moving.specs.Moved.{MoveMadeIn, MoveTriedIn, TestedIn, AcceptingIn}
use Rattle.moving.specs.declared.Made.{Made}
use Rattle.theory.specs.Tables.{Sized}

-- the move's answer, and the table's bytes at exit, refused or not
abbrev pub MoveMade : List ℕ → Request → List ℕ → Result Outcome Refusal → Type 0
MoveMade = MoveMadeIn byte_table

-- the same of a move that also tells how many forbidden are 1 where it is accepted
abbrev pub MoveTried : List ℕ → Request → List ℕ → Result Made Refusal → Type 0
MoveTried = MoveTriedIn byte_table

-- a table that passes the tests 1 and 2, and of whose threads k have forbidden 1
abbrev pub TestedTable : List ℕ → ℕ → Type 0
TestedTable = TestedIn byte_table

-- with a request that it accepts, and the request's move
abbrev pub Accepting : List ℕ → ℕ → Request → Move → Type 0
Accepting = AcceptingIn byte_table

-- the mover i and the subject t are threads of a table of the right size
pub record TwoThreads (bytes : List ℕ) (i t : ℕ) : Type 0 where
  pub size : Sized bytes
  pub mover : i < (table_of bytes).threads
  pub subject : t < (table_of bytes).threads
