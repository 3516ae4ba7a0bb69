-- Texts of a script and of its output: bytes of a text, comparisons, lines, and numbers as they are read and printed.
use Prim.Native.Char.{code}
use Rattle.std.specs.Prelude.{ℕ, zero, suc, ◌+◌, ◌-◌, ◌*◌, ◌/◌, ◌%◌, Bool, true, false, cond, not, ◌&&◌, ◌||◌, List, [], ◌∷◌, ◌++◌, ltb, eqb, length, get_or, take, drop}
use Prim.Native.String as text
use Prim.Native.String.{String}
use Rattle.definitions.specs.Threads.{between}

-- ---- bytes

-- the bytes of a text
unfoldable pub bytes : String → List ℕ
bytes text.[] = []
bytes (text.◌∷◌ c s) = code c ∷ bytes s

-- two lists of bytes are the same
unfoldable pub same : List ℕ → List ℕ → Bool
same [] [] = true
same [] (y ∷ ys) = false
same (x ∷ xs) [] = false
same (x ∷ xs) (y ∷ ys) = eqb x y && same xs ys

-- xs begins with p
abbrev pub starts : List ℕ → List ℕ → Bool
starts p xs = same (take (length p) xs) p

-- ---- lines

-- "One form a line, each ended by a line feed (10)"
abbrev pub line_feed : ℕ
line_feed = 10

-- a line's bytes without its line feed, and whether it has one
pub record Line : Type 0 where
  pub text : List ℕ
  pub ended : Bool

-- a byte in front of the first line
abbrev pub in_front : ℕ → List Line → List Line
in_front c [] = record { text = c ∷ []; ended = false } ∷ []
in_front c (l ∷ ls) = record { text = c ∷ l.text; ended = l.ended } ∷ ls

-- "from one line feed to the next"; nothing after the last line feed is no line
unfoldable pub lines_of : List ℕ → List Line
lines_of [] = []
lines_of (c ∷ cs) = cond (eqb c line_feed) (record { text = []; ended = true } ∷ lines_of cs) (in_front c (lines_of cs))

-- ---- numbers

abbrev pub is_digit : ℕ → Bool
is_digit c = between 48 57 c

-- the digits at the front of xs, and what follows them
unfoldable pub digits_of : List ℕ → List ℕ
digits_of [] = []
digits_of (c ∷ cs) = cond (is_digit c) (c ∷ digits_of cs) []

-- "numbers of one to three digits without leading zeros"
abbrev pub number_fits : List ℕ → Bool
number_fits digits = between 1 3 (length digits) && (eqb (length digits) 1 || not (eqb (get_or digits 0 0) 48))

-- the number that digits stand for, in base ten
unfoldable pub value_from : ℕ → List ℕ → ℕ
value_from high [] = high
value_from high (c ∷ cs) = value_from (10 * high + (c - 48)) cs

-- "its numbers take the digits that they need"; more than n steps are never wanted
unfoldable pub decimal_within : ℕ → ℕ → List ℕ
decimal_within zero n = []
decimal_within (suc k) n = cond (ltb n 10) ((48 + n) ∷ []) (decimal_within k (n / 10) ++ ((48 + n % 10) ∷ []))

abbrev pub decimal : ℕ → List ℕ
decimal n = decimal_within (suc n) n

-- a number at the front of xs: whether it is well formed, its value, and what follows its digits
pub record NumberRead : Type 0 where
  pub fits : Bool
  pub value : ℕ
  pub rest : List ℕ

unfoldable pub number_read : List ℕ → NumberRead
number_read xs =
    record {
      fits = number_fits (digits_of xs);
      value = value_from 0 (digits_of xs);
      rest = drop (length (digits_of xs)) xs;
    }
