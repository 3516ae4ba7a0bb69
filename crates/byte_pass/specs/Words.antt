-- The words in which the pass over a table reads it: four bytes as one number, and the words of threads.
use Rattle.std.specs.Prelude.{ℕ, ◌+◌, ◌-◌, ◌%◌, cond, List, eqb, get_or}
use Rattle.definitions.specs.Table.{Table}
use Rattle.rows.specs.Rows.{word_of, thread_word}

-- four bytes, the lowest first
abbrev pub word_from : List ℕ → ℕ → ℕ
word_from bytes at = word_of (get_or bytes at 0) (get_or bytes (at + 1) 0) (get_or bytes (at + 2) 0) (get_or bytes (at + 3) 0)

-- the last thread but one, where the threads before the last are odd in number; else 0
unfoldable pub odd_word : Table → ℕ → ℕ
odd_word s last = cond (eqb (last % 2) 0) 0 (thread_word s (last - 1) 0)
