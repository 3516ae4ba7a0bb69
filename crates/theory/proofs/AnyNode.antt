-- Whether a node of a list is one of those wanted (`any_in`), thread by thread. For every n.
use Prim.Native.Nat.{ℕ, zero, suc, ◌<◌}
use native.Mathlib.Nat.{not-suc-le-zero}
use native.Mathlib.Omega.{arith}
use mathlib.Core.Bool.{not, ◌||◌}
use mathlib.Core.List.{List, [], ◌∷◌}
use mathlib.Core.Logic.{⊎_elim}
use mathlib.Core.Path.{sym, subst}
use lib.Dec.{T}
use lib.ListN.{length, get_or}
use Rattle.definitions.specs.Nodes.{any_in}
use Rattle.definitions.specs.Threads.{list_of, among}
use Rattle.basics.proofs.Tests.{or_e, or_l, or_r, no_both, not_i}
use Rattle.basics.proofs.Lists.{length-list_of, get_d_list_of}

-- nobody's node is one of a list
any_in_none : (wanted nodes : List ℕ) → ((j : ℕ) → j < length nodes → T (not (among (get_or nodes j 0) wanted))) → T (not (any_in wanted nodes))
unfolding any_in
any_in_none wanted [] h = tt
any_in_none wanted (node ∷ nodes) h =
    let rest = any_in_none wanted nodes (λ j l. h (suc j) (omega arith)) in
    not_i (among node wanted || any_in wanted nodes)
    (λ t. ⊎_elim (λ u. no_both (among node wanted) u (h 0 (omega arith))) (λ u. no_both (any_in wanted nodes) u rest) (or_e (among node wanted) (any_in wanted nodes) t))

pub any_in-list_of : (wanted : List ℕ) (n : ℕ) (f : ℕ → ℕ) → ((j : ℕ) → j < n → T (not (among (f j) wanted))) → T (not (any_in wanted (list_of n f)))
any_in-list_of wanted n f h =
    any_in_none wanted (list_of n f)
    (λ j l. let k : j < n = subst (λ (m : ℕ). j < m) (length-list_of n f) l in subst (λ (x : ℕ). T (not (among x wanted))) (sym (get_d_list_of n f j 0 k)) (h j k))

-- and the other way: where nobody's is, no single entry is
any_in_at : (wanted nodes : List ℕ) → T (not (any_in wanted nodes)) → (j : ℕ) → j < length nodes → T (not (among (get_or nodes j 0) wanted))
unfolding any_in
any_in_at wanted [] t j l = absurd (not-suc-le-zero l)
any_in_at wanted (node ∷ nodes) t zero l = not_i (among node wanted) (λ u. no_both (among node wanted || any_in wanted nodes) (or_l (among node wanted) (any_in wanted nodes) u) t)
any_in_at wanted (node ∷ nodes) t (suc j) l =
    any_in_at wanted nodes (not_i (any_in wanted nodes) (λ u. no_both (among node wanted || any_in wanted nodes) (or_r (among node wanted) (any_in wanted nodes) u) t)) j (omega arith)

-- so no thread's is
pub nobody_list_of : (wanted : List ℕ) (n : ℕ) (f : ℕ → ℕ) → T (not (any_in wanted (list_of n f))) → (j : ℕ) → j < n → T (not (among (f j) wanted))
nobody_list_of wanted n f t j l =
    subst (λ (x : ℕ). T (not (among x wanted))) (get_d_list_of n f j 0 l) (any_in_at wanted (list_of n f) t j (subst (λ (m : ℕ). j < m) (sym (length-list_of n f)) l))
