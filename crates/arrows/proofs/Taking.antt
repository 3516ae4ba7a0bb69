-- An arrow that can be taken from a table, on the record, and by how many moves: at once (`at_once`), or after one more move that keeps every thread in its node (`after_one`).
use Prim.Native.Nat.{ℕ, suc, ◌≤◌, ◌<◌}
use native.Mathlib.Omega.{arith}
use mathlib.Core.List.{List, [], ◌∷◌}
use mathlib.Core.Path.{◌≡◌}
use lib.Dec.{T}
use lib.ListN.{length}
use Rattle.definitions.specs.Moves.{effect, accepts}
use Rattle.definitions.specs.Nodes.{nodes_of, Arrow, Taken}
use Rattle.definitions.specs.Table.{Table, applied}
use Rattle.definitions.specs.declared.Request.{Request}
use Rattle.theory.proofs.Figure1.{arrow_at}
use Rattle.arrows.specs.Arrows.{Enabled}

-- from s, requests that are accepted and keep all nodes leave t
pub data Kept : Table → List Request → Table → Type 0 where
  here : (s : Table) → Kept s [] s
  next : (s : Table) (r : Request) (rs : List Request) (t : Table)
      → T (accepts s r) → nodes_of (applied s (effect s r).writes) ≡ nodes_of s → Kept (applied s (effect s r).writes) rs t → Kept s (r ∷ rs) t

-- thread i can take arrow a from s by at most b moves, the last of which takes it along
pub record Can (b : ℕ) (s : Table) (a : Arrow) (i : ℕ) : Type 0 where
  pub before : List Request
  pub reached : Table
  pub last : Request
  pub few : length before < b
  pub keep : Kept s before reached
  pub own : last.thread ≡ i
  pub is_accepted_lem : T (accepts reached last)
  pub takes : Taken a (nodes_of reached) i (effect reached last).shows (nodes_of (applied reached (effect reached last).writes))

pub at_once : (s : Table) (a : Arrow) (i : ℕ) (r : Request) → r.thread ≡ i → T (accepts s r) → Taken a (nodes_of s) i (effect s r).shows (nodes_of (applied s (effect s r).writes)) → Can 1 s a i
at_once s a i r own t takes = record { before = []; reached = s; last = r; few = omega arith; keep = here s; own = own; is_accepted_lem = t; takes = takes }

pub after_one : {b : ℕ} (s : Table) (a : Arrow) (i : ℕ) (r : Request) → T (accepts s r) → nodes_of (applied s (effect s r).writes) ≡ nodes_of s
    → Can b (applied s (effect s r).writes) a i → Can (suc b) s a i
after_one s a i r t same can =
    record {
      before = r ∷ can.before;
      reached = can.reached;
      last = can.last;
      few = let rest = can.few in omega arith;
      keep = next s r can.before can.reached t same can.keep;
      own = can.own;
      is_accepted_lem = can.is_accepted_lem;
      takes = can.takes;
    }

-- a higher limit holds too
pub at_most : {b c : ℕ} {s : Table} {a : Arrow} {i : ℕ} → b ≤ c → Can b s a i → Can c s a i
at_most less can =
    record {
      before = can.before;
      reached = can.reached;
      last = can.last;
      few = let most = can.few in omega arith;
      keep = can.keep;
      own = can.own;
      is_accepted_lem = can.is_accepted_lem;
      takes = can.takes;
    }

-- thread i can take the arrow at place k of `arrows` by at most b moves where that arrow's condition holds for it
abbrev pub CanAt : ℕ → Table → ℕ → ℕ → Type 0
CanAt b s i k = Enabled (nodes_of s) (arrow_at k) i → Can b s (arrow_at k) i
