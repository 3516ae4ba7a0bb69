-- What can be taken on the record can be taken on the bytes that store it (`carried`), with 16-bit requests.
use Prim.Native.Nat.{ℕ, suc}
use native.Mathlib.Omega.{arith}
use mathlib.Core.List.{List, [], ◌∷◌, ◌++◌}
use mathlib.Core.Path.{◌≡◌, refl, sym, subst, ap, ◌∙◌}
use lib.Dec.{T}
use Rattle.definitions.specs.Chains.{after_in, table_after, Fits16, AllFit16}
use Rattle.definitions.specs.Moves.{effect, accepts, accepts_in, move_table}
use Rattle.definitions.specs.Nodes.{nodes_of, Arrow, Taken}
use Rattle.definitions.specs.Table.{Table, table_of, applied, sized, byte_table}
use Rattle.definitions.specs.declared.Request.{Request}
use Rattle.theory.proofs.Bytes.{byte_keeps, sized_e}
use Rattle.theory.proofs.Chains.{one, all_16}
use Rattle.theory.proofs.Storages.{accepts_e, accepts_i, accepted-table, fits-step}
use Rattle.theory.proofs.Ways.{accepted_e}
use Rattle.arrows.specs.Arrows.{KeepNodes, moves_before, CanTake}
use Rattle.arrows.proofs.Taking.{Kept, here, next, Can}

-- an accepted request has 16-bit numbers
accepted_16 : (table : List ℕ) (r : Request) → T (accepts_in byte_table table r) → Fits16 r
accepted_16 table r t =
    let (fits, u) = accepts_e byte_table table r t in
    (all_16 (table_of table) (r ∷ []) (sized_e table fits).most (one (table_of table) r (accepted_e (table_of table) r u)).all-accepted).0

module _ (table : List ℕ) (r : Request) (t : T (accepts_in byte_table table r)) where
  -- the table that it leaves, as a record
  abbrev left : Table
  left = applied (table_of table) (effect (table_of table) r).writes

  is_left : table_of (move_table table r) ≡ left
  is_left = accepted-table byte_table byte_keeps table r t

-- requests from bytes, the last of which is r: they are accepted, all before r keep all nodes, and those leave bytes of u
record Follow (table : List ℕ) (rs : List Request) (r : Request) (u : Table) : Type 0 where
  pub numbers : AllFit16 (rs ++ (r ∷ []))
  pub keep : KeepNodes table rs
  pub is_accepted_lem : T (accepts_in byte_table (table_after table rs) r)
  pub leave : table_of (table_after table rs) ≡ u

module _ (r : Request) where
  -- the requests before the last one by one
  behind : {s u : Table} {rs : List Request} → Kept s rs u → T (accepts u r) → (table : List ℕ) → T (sized table) → table_of table ≡ s → Follow table rs r u
  unfolding after_in
  behind (here s) t table fits e =
      let last = accepts_i byte_table table r fits (subst (λ (x : Table). T (accepts x r)) (sym e) t) in
      record { numbers = (accepted_16 table r last, tt); keep = tt; is_accepted_lem = last; leave = e }
  behind (next s q qs u p same rest) t table fits e =
      let first = accepts_i byte_table table q fits (subst (λ (x : Table). T (accepts x q)) (sym e) p) in
      let others = behind rest t (move_table table q) (fits-step byte_table byte_keeps table q fits) (is_left table q first ∙ ap (λ (x : Table). applied x (effect x q).writes) e) in
      record {
        numbers = (accepted_16 table q first, others.numbers);
        keep = (first, ap nodes_of (is_left table q first) ∙ subst (λ (x : Table). nodes_of (applied x (effect x q).writes) ≡ nodes_of x) (sym e) same, others.keep);
        is_accepted_lem = others.is_accepted_lem;
        leave = others.leave;
      }

-- a whole list of requests
pub carried : (a : Arrow) (i : ℕ) (table : List ℕ) → T (sized table) → Can (suc (moves_before (table_of table).threads a)) (table_of table) a i → CanTake table a i
carried a i table fits can =
    let all = behind can.last can.keep can.is_accepted_lem table fits refl in
    let before = table_after table can.before in
    record {
      before = can.before;
      last = can.last;
      few = let few = can.few in omega arith;
      numbers = all.numbers;
      keep = all.keep;
      own = can.own;
      is_accepted_lem = all.is_accepted_lem;
      takes = subst (λ (x : Table). Taken a (nodes_of (table_of before)) i (effect (table_of before) can.last).shows (nodes_of x)) (sym (is_left before can.last all.is_accepted_lem))
          (subst (λ (x : Table). Taken a (nodes_of x) i (effect x can.last).shows (nodes_of (applied x (effect x can.last).writes))) (sym all.leave) can.takes);
    }
