-- A text put into a lent output at a position, and the promise of an entry that writes.
use Rattle.std.specs.Prelude.{ℕ, ◌+◌, ◌≤◌, List, ◌++◌, ◌≡◌, length, take, drop}
use Rattle.definitions.specs.Answers.{Reply, accepted, refused, Delivery, delivery_reply, delivery_output}

-- the output with the text at `at`
unfoldable pub put_at : List ℕ → ℕ → List ℕ → List ℕ
put_at out at text = take at out ++ (text ++ drop (at + length text) out)

-- what a function that puts a text asks: it ends within the output
pub record RoomAt (out : List ℕ) (at : ℕ) (text : List ℕ) : Type 0 where
  pub ends : at + length text ≤ length out

-- what it answers, the position behind its text, and what it leaves
pub record PutAt (before : List ℕ) (at : ℕ) (text : List ℕ) (after : List ℕ) (answer : ℕ) : Type 0 where
  pub next : answer ≡ at + length text
  pub output : after ≡ put_at before at text

-- a reply whose answer is put in other words
abbrev pub answering : {A B : Type 0} → (A → B) → Reply A → Reply B
answering f (accepted a) = accepted (f a)
answering f (refused number place) = refused number place

-- the promise of an entry that writes: its answer, and the output at exit, refused or not
pub record Delivered {A : Type 0} (d : Delivery A) (before after : List ℕ) (answer : Reply A) : Type 0 where
  pub reply : answer ≡ delivery_reply d before
  pub output : after ≡ delivery_output d before
