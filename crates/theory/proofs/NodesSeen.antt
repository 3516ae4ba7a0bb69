-- What the nodes show of a table, on bytes. `fresh_free`: those of a fresh table are all Free. `kept-quiet`: an accepted request that keeps every node is quiet, for each arrow leads to another node.
-- `exclusive_alone`: in a sound table a thread in Exclusive keeps every other out of Exclusive, LOS, LOE and Shared. For every N, every table and every request with any numbers.
use Prim.Native.Nat.{ℕ, suc, ◌<◌}
use native.Mathlib.Omega.{arith}
use mathlib.Core.Bool.{Bool, not, ◌||◌}
use mathlib.Core.List.{List, [], ◌∷◌, Memᴰ}
use mathlib.Core.Logic.{inl, inr, ⊎_elim}
use mathlib.Core.Path.{◌≡◌, sym, subst, ap, ◌∙◌}
use lib.Dec.{T, eqb}
use lib.ListN.{length, get_or, replicate, get_or-replicate, length-replicate}
use lib.Seq.{ext_get_or, get_or-set_same}
use Rattle.definitions.specs.Answers.{accepted, Seen, quiet, moved}
use Rattle.definitions.specs.Bounds.{last_phase}
use Rattle.definitions.specs.Codes.{Free, LOE, Shared, LOS, Exclusive}
use Rattle.definitions.specs.Moves.{is_retry, accepts_in, move_reply, move_table}
use Rattle.definitions.specs.Nodes.{nodes_of, Arrow, arrows, Figure1}
use Rattle.definitions.specs.Phases.{rows, node_of, holds, reading}
use Rattle.definitions.specs.Table.{Table, fresh_table, table_of, byte_table, fresh}
use Rattle.definitions.specs.Threads.{every, list_of, among, between, implies}
use Rattle.definitions.specs.declared.Request.{Request}
use Rattle.theory.specs.Tables.{SoundBytes}
use Rattle.theory.proofs.Bytes.{fresh-table}
use Rattle.theory.proofs.Figure1.{figure_1}
use Rattle.basics.proofs.Lists.{length-list_of, get_d_list_of, each_member}
use Rattle.basics.proofs.Quantifiers.{every_at}
use Rattle.theory.proofs.Soundness.{Sound, sound_e}
use Rattle.theory.proofs.Storages.{accepts_e}
use Rattle.basics.proofs.Tests.{not_i, or_e, implies_e}
use Rattle.theory.proofs.Ways.{accepted_e}

-- ---- a fresh table

all_free : (n : ℕ) → nodes_of (fresh_table n) ≡ replicate n Free
unfolding nodes_of rows
all_free n =
    ext_get_or 0 (list_of n (λ i. Free)) (replicate n Free) (length-list_of n (λ i. Free) ∙ sym (length-replicate n Free))
    (λ j l. let k : j < n = subst (λ (m : ℕ). j < m) (length-list_of n (λ i. Free)) l in get_d_list_of n (λ i. Free) j 0 k ∙ sym (get_or-replicate n j Free 0 k))

pub fresh_free : (n : ℕ) → nodes_of (table_of (fresh n)) ≡ replicate n Free
fresh_free n = ap nodes_of (fresh-table n) ∙ all_free n

-- ---- a move that keeps the nodes

-- each arrow leads to another node
leads : (a : Arrow) → Memᴰ a arrows → a.from ≡ a.to → ⊥
unfolding arrows
leads = each_member (λ a. a.from ≡ a.to → ⊥) arrows (omega arith)

-- so where the nodes stay, no arrow is taken
stays-quiet : (nodes : List ℕ) (i : ℕ) (seen : Seen) (after : List ℕ) → i < length nodes → Figure1 nodes i seen after → after ≡ nodes → seen ≡ quiet
stays-quiet nodes i seen after l (inl (same, q)) e = q
stays-quiet nodes i seen after l (inr (a, m, t)) e =
    absurd (leads a m (sym t.begins ∙ (ap (λ (xs : List ℕ). get_or xs i 0) (sym e ∙ t.ends) ∙ get_or-set_same nodes i a.to 0 l)))

pub kept-quiet : (bytes : List ℕ) (r : Request) → T (accepts_in byte_table bytes r) → nodes_of (table_of (move_table bytes r)) ≡ nodes_of (table_of bytes)
    → move_reply bytes r ≡ accepted (moved quiet (is_retry (table_of bytes) r))
unfolding nodes_of
kept-quiet bytes r t e =
    let s = table_of bytes in
    let view = figure_1 bytes r t in
    let long = length-list_of s.threads (λ j. node_of (s.phase j)) in
    let below : r.thread < length (nodes_of s) = subst (λ (m : ℕ). r.thread < m) (sym long) (accepted_e s r (accepts_e byte_table bytes r t).1).thread-fits in
    view.reply ∙ ap (λ (x : Seen). accepted (moved x (is_retry s r))) (stays-quiet (nodes_of s) r.thread view.seen _ below view.moves e)

-- ---- a thread in Exclusive

module _ (s : Table) (z : Sound s) where
  -- what a node says of the phase, by trying every phase
  of_node : (p f : ℕ → Bool) → T (every (suc last_phase) (λ q. implies (p (node_of q)) (f q))) → (j : ℕ) → j < s.threads → T (p (node_of (s.phase j))) → T (f (s.phase j))
  of_node p f t j l u =
      implies_e (p (node_of (s.phase j))) (f (s.phase j)) (every_at (λ q. implies (p (node_of q)) (f q)) (suc last_phase) t (s.phase j) (let h = z.phases j l in omega arith)) u

  alone : (i j : ℕ) → i < s.threads → j < s.threads → (i ≡ j → ⊥) → T (eqb (node_of (s.phase i)) Exclusive)
      → T (not (among (node_of (s.phase j)) (Exclusive ∷ LOS ∷ LOE ∷ Shared ∷ [])))
  unfolding every among rows
  alone i j l k other u =
      not_i (among (node_of (s.phase j)) (Exclusive ∷ LOS ∷ LOE ∷ Shared ∷ []))
      (λ v.
      ⊎_elim (λ h. other (z.one_holder i l j k (of_node (λ n. eqb n Exclusive) holds tt i l u) h)) (z.no_reader i l (of_node (λ n. eqb n Exclusive) (between 13 14) tt i l u) j k)
      (or_e (holds (s.phase j)) (reading (s.phase j)) (of_node (λ n. among n (Exclusive ∷ LOS ∷ LOE ∷ Shared ∷ [])) (λ q. holds q || reading q) tt j k v)))

pub exclusive_alone : (bytes : List ℕ) → SoundBytes bytes → (i j : ℕ) → i < (table_of bytes).threads → j < (table_of bytes).threads → (i ≡ j → ⊥)
    → get_or (nodes_of (table_of bytes)) i 0 ≡ Exclusive → T (not (among (get_or (nodes_of (table_of bytes)) j 0) (Exclusive ∷ LOS ∷ LOE ∷ Shared ∷ [])))
unfolding nodes_of
exclusive_alone bytes g i j l k other e =
    let s = table_of bytes in
    let node = get_d_list_of s.threads (λ j. node_of (s.phase j)) in
    rw (node j 0 k) (alone s (sound_e s g.is_sound) i j l k other (subst (λ (x : ℕ). T (eqb x Exclusive)) (sym (sym (node i 0 l) ∙ e)) tt))
