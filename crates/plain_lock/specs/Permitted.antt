-- What is permitted at any places, as those of a table that isn't fresh or of a watcher's record; `permitted` is the same at the start (proofs/PlainLaws).
use Rattle.std.specs.Prelude.{ℕ, Bool, true, ◌&&◌, List, [], ◌∷◌}
use Rattle.definitions.specs.Answers.{passes_all}
use Rattle.definitions.specs.PlainLock.{Pair, Places, advanced, pair_tests}

-- a pair passes its three tests, whatever its index is
abbrev pub pair_fits : ℕ → Places → Pair → Bool
pair_fits n p x = passes_all (pair_tests n p 0 x)

-- each pair fits, after those before it
unfoldable pub permitted_from : ℕ → Places → List Pair → Bool
permitted_from n p [] = true
permitted_from n p (x ∷ xs) = pair_fits n p x && permitted_from n (advanced p x) xs
