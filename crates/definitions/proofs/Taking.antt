-- Figure 1 against the definitions: of two Free threads the second takes the arrow from Free to ES; a thread that is not there takes none, whatever the nodes are.
use Prim.Native.Nat.{ℕ, ◌≤◌}
use native.Mathlib.Omega.{arith}
use mathlib.Core.List.{List, [], ◌∷◌}
use mathlib.Core.Path.{refl}
use lib.ListN.{length, get_or}
use Rattle.definitions.specs.Answers.{Seen, shown, quiet}
use Rattle.definitions.specs.Codes.{Free, ES}
use Rattle.definitions.specs.Nodes.{Arrow, arrows, any_in, Taken}
use Rattle.definitions.specs.Threads.{among}

-- Free to ES, the first of the twelve
abbrev free_to_eS : Arrow
free_to_eS = get_or arrows 0 (record { from = 0; to = 0; shows = quiet; nobody_in = [] })

pub record TakingExamples : Type 0 where
  pub second : Taken free_to_eS (Free ∷ Free ∷ []) 1 (shown 1) (Free ∷ ES ∷ [])
  pub not_there : (a : Arrow) (before : List ℕ) (i : ℕ) (seen : Seen) (after : List ℕ) → length before ≤ i → Taken a before i seen after → ⊥

pub taking_examples : TakingExamples
unfolding arrows any_in among
taking_examples =
    record {
      second = record { there = omega arith; begins = refl; guard = tt; ends = refl; shows = refl };
      not_there = λ a before i seen after past taken. omega arith;
    }
