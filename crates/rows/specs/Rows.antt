-- The soundness test's one pass as sums: what each thread adds to one total, by its three bytes, and what the total tells.
-- First the row of a thread, then states, which are the three bytes as one number where they have few bits, and the state in a word;
-- then what is told by the total of all rows and by all bits of the words.
-- That this is what one pass finds (`found_of`) stands in proofs/Packed.
use Rattle.std.specs.Prelude.{ℕ, ◌+◌, ◌*◌, ◌/◌, ◌%◌, Option, Some, None, Bool, cond, ◌&&◌, ltb, eqb}
use Rattle.std.specs.Int.Bits.{bit_and}
use Rattle.definitions.specs.Sound.{backed_off}
use Rattle.definitions.specs.Table.{Table}
use Rattle.soundness.specs.Pass.{thread_fits, forbidden_reader, holder_phase}
use Rattle.tallies.specs.declared.Tally.{Tally}

-- ---- the row of a thread

-- one in each field of a total above the lowest, which is the sum of the holders' phases:
-- a forbidden of 1, one of a thread in 5 to 7, a thread in 3, 4 or 18, and a thread that fails the rules on one thread by itself
abbrev pub one_flag : ℕ
one_flag = 4_096

abbrev pub one_reader : ℕ
one_reader = 1_048_576

abbrev pub one_backed : ℕ
one_backed = 268_435_456

abbrev pub one_bad : ℕ
one_bad = 68_719_476_736

-- what a thread adds
unfoldable pub row_for : ℕ → ℕ → ℕ → ℕ
row_for phase busy forbidden =
    cond (thread_fits phase busy forbidden)
    (holder_phase phase
    + (one_flag * cond (eqb forbidden 1) 1 0 + (one_reader * cond (forbidden_reader phase forbidden) 1 0 + one_backed * cond (backed_off phase) 1 0)))
    one_bad

-- ---- states and words

-- the bytes of a thread that may pass by itself have few bits
abbrev pub few_bits : ℕ → ℕ → ℕ → Bool
few_bits phase busy forbidden = ltb phase 32 && (ltb busy 2 && ltb forbidden 2)

-- bytes of few bits as one number, and the row of such a number
abbrev pub state_of : ℕ → ℕ → ℕ → ℕ
state_of phase busy forbidden = forbidden + 2 * busy + 4 * phase

unfoldable pub row_at : ℕ → ℕ
row_at state = row_for (state / 4) (state / 2 % 2) (state % 2)

-- a thread's bytes from the lowest on, and any number above them
abbrev pub word_of : ℕ → ℕ → ℕ → ℕ → ℕ
word_of phase busy forbidden above = phase + 256 * busy + 65_536 * forbidden + 16_777_216 * above

-- the state in a word whose bytes have few bits: times 2^9 + 2^18 + 2^27, forbidden, busy and phase stand from bit 25 on, and nothing else does below bit 32
abbrev pub state_in : ℕ → ℕ
state_in word = word * 134_480_384 / 33_554_432 % 128

-- in a word, the bits of a phase of 32 or more and of a flag of 2 or more
abbrev pub high : ℕ
high = 16_711_392

-- ---- the threads of a table

abbrev pub few_at : Table → ℕ → Bool
few_at s i = few_bits (s.phase i) (s.busy i) (s.forbidden i)

-- a thread's bytes, with any number above them
abbrev pub thread_word : Table → ℕ → ℕ → ℕ
thread_word s i above = word_of (s.phase i) (s.busy i) (s.forbidden i) above

abbrev pub thread_row : Table → ℕ → ℕ
thread_row s i = row_for (s.phase i) (s.busy i) (s.forbidden i)

-- ---- what is told

unfoldable pub found_by : ℕ → ℕ → Option Tally
found_by total seen =
    cond (eqb (bit_and seen high) 0 && ltb total one_bad)
    (Some
    (record {
      holder = total % one_flag;
      forbidden = total / one_flag % 256;
      readers = total / one_reader % 256;
      backed_off = total / one_backed % 256;
    }))
    None
