-- The nodes of all threads, the entry for them, and Figure 1 with its twelve arrows, their events and their guards.
use Rattle.std.specs.Prelude.{ℕ, ◌<◌, Bool, false, not, ◌||◌, ◌⊎◌, ◌≡◌, T, length, get_or, set}
use mathlib.Core.List.{List, [], ◌∷◌, Memᴰ}
use Rattle.definitions.specs.Answers.{Seen, shown, quiet, Delivery, counted}
use Rattle.definitions.specs.Codes.{Free, ES, LOE, Shared, LS, EE, SAF, LOS, Exclusive, LE, OE}
use Rattle.definitions.specs.Phases.{node_of}
use Rattle.definitions.specs.Sound.{table_tests}
use Rattle.definitions.specs.Table.{Table, table_of}
use Rattle.definitions.specs.Threads.{list_of, among}

-- "Nodes are N bytes."
unfoldable pub nodes_of : Table → List ℕ
nodes_of s = list_of s.threads (λ i. node_of (s.phase i))

-- the nodes entry
abbrev pub nodes_entry : List ℕ → Delivery ℕ
nodes_entry bytes = counted (table_tests bytes) (nodes_of (table_of bytes))

-- ---- Figure 1

-- an arrow: where it leads from and to, what is seen of it, and the nodes in which its guard wants nobody
pub record Arrow : Type 0 where
  pub from : ℕ
  pub to : ℕ
  pub shows : Seen
  pub nobody_in : List ℕ

abbrev arrow : ℕ → ℕ → Seen → List ℕ → Arrow
arrow a b e g = record { from = a; to = b; shows = e; nobody_in = g }

-- the twelve arrows; "Figure 1's guards: ES to LOE needs nobody in LOS or Exclusive; EE to SAF nobody in SAF, LOS, Exclusive or LE; SAF to LOS nobody in LOE or Shared."
unfoldable pub arrows : List Arrow
arrows =
    arrow Free ES (shown 1) []
    ∷ arrow ES LOE quiet (LOS ∷ Exclusive ∷ [])
    ∷ arrow LOE Shared (shown 2) []
    ∷ arrow Shared LS (shown 3) []
    ∷ arrow LS Free (shown 4) []
    ∷ arrow Free EE (shown 5) []
    ∷ arrow EE SAF quiet (SAF ∷ LOS ∷ Exclusive ∷ LE ∷ [])
    ∷ arrow SAF LOS quiet (LOE ∷ Shared ∷ [])
    ∷ arrow LOS Exclusive (shown 6) []
    ∷ arrow Exclusive LE (shown 7) []
    ∷ arrow LE OE quiet []
    ∷ arrow OE Free (shown 8) []
    ∷ []

-- some thread's node is one of a list
unfoldable pub any_in : List ℕ → List ℕ → Bool
any_in wanted [] = false
any_in wanted (node ∷ nodes) = among node wanted || any_in wanted nodes

-- thread i takes an arrow: it is one of the threads, it stands where the arrow begins, the arrow's guard is met, exactly this thread's node changes, and the arrow's event is seen
pub record Taken (a : Arrow) (before : List ℕ) (i : ℕ) (seen : Seen) (after : List ℕ) : Type 0 where
  pub there : i < length before
  pub begins : get_or before i 0 ≡ a.from
  pub guard : T (not (any_in a.nobody_in before))
  pub ends : after ≡ set before i a.to
  pub shows : seen ≡ a.shows

-- "Seen from outside, each accepted move keeps every task in its node or takes one task along one arrow of Figure 1, that arrow's condition met"
abbrev pub Figure1 : List ℕ → ℕ → Seen → List ℕ → Type 0
Figure1 before i seen after =
    ((after ≡ before) × (seen ≡ quiet)) ⊎ ((a : Arrow) × Memᴰ a arrows × Taken a before i seen after)
