-- An arrow of Figure 1 that can be taken after moves that keep every thread in its node (02 §7), and how many such moves suffice.
use Rattle.std.specs.Prelude.{ℕ, ◌*◌, ◌-◌, ◌≤◌, ◌<◌, cond, not, List, [], ◌∷◌, ◌++◌, ◌≡◌, T, eqb, length, get_or}
use Rattle.definitions.specs.Chains.{table_after, AllFit16}
use Rattle.definitions.specs.Codes.{ES, LS, EE, SAF, LE, OE}
use Rattle.definitions.specs.Moves.{effect, accepts_in, move_table}
use Rattle.definitions.specs.Nodes.{nodes_of, Arrow, any_in, Taken}
use Rattle.definitions.specs.Table.{table_of, byte_table}
use Rattle.definitions.specs.Threads.{among}
use Rattle.definitions.specs.declared.Request.{Request}

-- "moves that keep every thread in its node": each request of the list is accepted and leaves all nodes as they were
abbrev pub KeepNodes : List ℕ → List Request → Type 0
KeepNodes table [] = Unit {0}
KeepNodes table (r ∷ rs) =
    T (accepts_in byte_table table r) × (nodes_of (table_of (move_table table r)) ≡ nodes_of (table_of table)) × KeepNodes (move_table table r) rs

-- how many such moves suffice before an arrow, of N threads, by the node where the arrow begins:
-- 8 from ES to LOE, 4N - 2 from SAF to LOS, N - 1 from LE to OE, 1 from LS and OE to Free and from EE to SAF, and none before the other six, which are taken at once
unfoldable pub moves_before : ℕ → Arrow → ℕ
moves_before n a =
    cond (eqb a.from ES) 8
    (cond (eqb a.from SAF) (4 * n - 2)
    (cond (eqb a.from LE) (n - 1)
    (cond (among a.from (LS ∷ OE ∷ EE ∷ [])) 1 0)))

-- "can be taken by that thread, after moves that keep every thread in its node": at most `moves_before` of them, and then a request of the thread's own that is accepted and takes it along the arrow;
-- all numbers have 16 bits
pub record CanTake (table : List ℕ) (a : Arrow) (i : ℕ) : Type 0 where
  pub before : List Request
  pub last : Request
  pub few : length before ≤ moves_before (table_of table).threads a
  pub numbers : AllFit16 (before ++ (last ∷ []))
  pub keep : KeepNodes table before
  pub own : last.thread ≡ i
  pub is_accepted_lem : T (accepts_in byte_table (table_after table before) last)
  pub takes : Taken a (nodes_of (table_of (table_after table before))) i (effect (table_of (table_after table before)) last).shows
      (nodes_of (table_of (move_table (table_after table before) last)))

-- "each arrow from one node to another whose condition holds there for a thread": it is one of the threads, it stands where the arrow begins, and nobody is where its guard wants nobody
pub record Enabled (nodes : List ℕ) (a : Arrow) (i : ℕ) : Type 0 where
  pub there : i < length nodes
  pub begins : get_or nodes i 0 ≡ a.from
  pub guard : T (not (any_in a.nobody_in nodes))
