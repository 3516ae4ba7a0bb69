-- How long the output of a run can be, and the credit by which that is shown.
use Rattle.std.specs.Prelude.{ℕ, ◌+◌, ◌*◌, [], ◌∷◌, get_or}

-- for a script of so many bytes: twice as many, and the last line
abbrev pub longest_output : ℕ → ℕ
longest_output script = 2 * script + 18

-- the credit of a thread in each phase: what the lines of its next moves can print beyond twice their own bytes
unfoldable pub credit : ℕ → ℕ
credit phase = get_or (0 ∷ 0 ∷ 8 ∷ 0 ∷ 0 ∷ 26 ∷ 12 ∷ 0 ∷ 14 ∷ 0 ∷ 0 ∷ 14 ∷ 0 ∷ 32 ∷ 15 ∷ 0 ∷ 0 ∷ 17 ∷ []) phase 0
