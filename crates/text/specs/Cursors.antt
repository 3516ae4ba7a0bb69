-- An output as it begins, the room that a text asks of it, and the output once the text is put.
use Rattle.std.specs.Prelude.{ℕ, ◌+◌, ◌≤◌, List, ◌≡◌, length}
use Rattle.std.specs.Borrow.{MutBor}
use Rattle.basics.specs.Outputs.{PutAt}
use Rattle.text.specs.declared.Output.{Output}

-- an output over lent bytes: the very bytes lent, and nothing written
pub record Begins (lent : MutBor (List ℕ)) (o : Output) : Type 0 where
  pub same_bytes : o.bytes.ghost_name ≡ lent.ghost_name
  pub content : o.bytes.now ≡ lent.now
  pub front : o.at ≡ 0

-- the text ends within the bytes
pub record HasRoom (o : Output) (text : List ℕ) : Type 0 where
  pub ends : o.at + length text ≤ length o.bytes.now

-- the text is put into the same bytes, and the next is put behind it
pub record Puts (before : Output) (text : List ℕ) (after : Output) : Type 0 where
  pub same_bytes : after.bytes.ghost_name ≡ before.bytes.ghost_name
  pub fits : after.at ≤ length after.bytes.now
  pub size : length after.bytes.now ≡ length before.bytes.now
  pub put : PutAt before.bytes.now before.at text after.bytes.now after.at
