-- The dispatcher's promise, `Turned`, and what a turn on a table that was tested is handed and tells.
use Rattle.std.specs.Prelude.{ℕ, List, ◌≡◌, Result, Ok, Err, IfOk}
use Rattle.definitions.specs.Dispatch.{dispatch_reply, dispatch_table, dispatched_reply}
use Rattle.definitions.specs.Table.{table_of}
use Rattle.definitions.specs.declared.Dispatched.{Dispatched}
use Rattle.definitions.specs.declared.Dispatched.TheVariants.{Refused}
use Rattle.definitions.specs.declared.Refusal.{Refusal}
use Rattle.apply.specs.MoveMade.{TestedTable}
use Rattle.choice.specs.Choosing.{SoundFor}
use Rattle.theory.specs.Tables.{forbidden_count}
use Rattle.dispatch.specs.declared.turn.Turn.{Turn}
use Rattle.table.specs.declared.tests.Examined.{Examined}

-- its answer, and the table's bytes at exit, refused or not
pub record Turned (before after : List ℕ) (answer : Dispatched) : Type 0 where
  pub reply : dispatched_reply answer ≡ dispatch_reply before
  pub table : after ≡ dispatch_table before

-- the answer of a turn that also tells how many forbidden are 1 after it
abbrev pub answer_of : Result Turn Refusal → Dispatched
answer_of (Ok t) = t.answer
answer_of (Err x) = Refused x

-- the same of such a turn
pub record TurnTaken (before after : List ℕ) (taken : Result Turn Refusal) : Type 0 where
  pub turned : Turned before after (answer_of taken)
  pub count : IfOk taken (λ (t : Turn). t.forbidden ≡ forbidden_count (table_of after))

-- a table that passes the tests 1 and 2, from what was told of it
pub record TurnTable (bytes : List ℕ) (told : Examined) : Type 0 where
  pub counted : SoundFor bytes told.threads
  pub tested : TestedTable bytes told.forbidden
