-- How many flags are set, and how the number changes with one thread's flag. For every n.
use Prim.Native.Nat.{ℕ, ◌+◌, ◌<◌}
use native.Mathlib.Omega.{arith}
use mathlib.Core.Bool.{cond}
use mathlib.Core.Path.{◌≡◌, refl, sym, ap}
use lib.Dec.{eqb}
use Rattle.definitions.specs.Table.{update}
use Rattle.definitions.specs.Threads.{how_many}
use Rattle.basics.proofs.Quantifiers.{how_many-change}
use Rattle.basics.proofs.Columns.{update_same, update_other}

-- how many flags are set
abbrev pub flags_set : ℕ → (ℕ → ℕ) → ℕ
flags_set n forbidden = how_many n (λ j. eqb (forbidden j) 1)

-- where thread i's becomes v
flags_change : (n : ℕ) (F : ℕ → ℕ) (i v : ℕ) → i < n → flags_set n (update F i v) + cond (eqb (F i) 1) 1 0 ≡ flags_set n F + cond (eqb v 1) 1 0
flags_change n F i v l =
    let change = how_many-change (λ j. eqb (F j) 1) (λ j. eqb (update F i v j) 1) n i l (λ j h. ap (λ (x : ℕ). eqb x 1) (sym (update_other F i v j h))) in
    let here : ◌≡◌ {A = ℕ} (cond (eqb (update F i v i) 1) 1 0) (cond (eqb v 1) 1 0) = ap (λ (x : ℕ). cond (eqb x 1) 1 0) (update_same F i v i refl) in
    omega arith

pub one_more : (n : ℕ) (F : ℕ → ℕ) (i : ℕ) → i < n → F i ≡ 0 → flags_set n (update F i 1) ≡ flags_set n F + 1
one_more n F i l e =
    let change = flags_change n F i 1 l in let old : ◌≡◌ {A = ℕ} (cond (eqb (F i) 1) 1 0) 0 = ap (λ (x : ℕ). cond (eqb x 1) 1 0) e in omega arith

pub one_fewer : (n : ℕ) (F : ℕ → ℕ) (i : ℕ) → i < n → F i ≡ 1 → flags_set n (update F i 0) + 1 ≡ flags_set n F
one_fewer n F i l e =
    let change = flags_change n F i 0 l in let old : ◌≡◌ {A = ℕ} (cond (eqb (F i) 1) 1 0) 1 = ap (λ (x : ℕ). cond (eqb x 1) 1 0) e in omega arith
