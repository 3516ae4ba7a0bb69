-- What the number readers answer.
use Rattle.std.specs.Prelude.{ℕ, Bool, cond, ◌&&◌, List, length, Option, Some, None}
use Rattle.definitions.specs.Texts.{same, digits_of, number_read}
use Rattle.words.specs.declared.Number.{Number}

-- the number at the front of xs, with how many digits it has, where a test holds
abbrev pub number_if : Bool → List ℕ → Option Number
number_if test xs = cond test (Some (record { value = (number_read xs).value; digits = length (digits_of xs) })) None

-- the number at the front of xs, if it is well formed
abbrev pub number_for : List ℕ → Option Number
number_for xs = number_if (number_read xs).fits xs

-- the same, if a text follows it and nothing else
abbrev pub closed_for : List ℕ → List ℕ → Option Number
closed_for xs closing = number_if ((number_read xs).fits && same (number_read xs).rest closing) xs
