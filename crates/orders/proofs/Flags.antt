-- The plan for the events 6 and 7: the writer sets every flag from 0 upward, and clears every flag from 0 upward, by induction over the flags done so far. For every N.
use Prim.Native.Nat.{ℕ, zero, suc, ◌≤◌, ◌<◌}
use native.Mathlib.Omega.{arith}
use mathlib.Core.Bool.{Bool, true, false, cond, not, ◌&&◌, ◌||◌}
use mathlib.Core.List.{[], ◌∷◌}
use mathlib.Core.Logic.{◌⊎◌, inl, inr}
use mathlib.Core.Path.{◌≡◌, refl, sym, subst, ap, ◌∙◌, fun_ext}
use lib.Dec.{T, ltb, eqb, leb-suc-zero, ltb→lt, lt→ltb, eqb→eq}
use Rattle.definitions.specs.Bounds.{no_target}
use Rattle.definitions.specs.Codes.{go, set_move, clear_move}
use Rattle.definitions.specs.Moves.{ask, quietly, showing, all_forbidden, go_effect, set_effect, clear_effect, effect}
use Rattle.definitions.specs.Phases.{rows, holds, has_move}
use Rattle.definitions.specs.PlainLock.{Places, advanced, any_in_shared, any_in_exclusive}
use Rattle.definitions.specs.Plan.{plan_of}
use Rattle.definitions.specs.Sound.{sound}
use Rattle.definitions.specs.Table.{Table, mutex≔, target≔, phase≔, forbidden≔, update, applied}
use Rattle.definitions.specs.Threads.{every, among, gather}
use Rattle.orders.specs.Rounds.{rest_phase}
use Rattle.orders.specs.Histories.{pair_of}
use Rattle.basics.proofs.Quantifiers.{below_suc, every_at, every_i, some_i, none_at, none_i}
use Rattle.basics.proofs.Tests.{T_true, T_false, false-T, or_e, or_l, or_r, same_test, not_i, cond_yes, cond_no, eq_T, ne_T, same?}
use Rattle.basics.proofs.Columns.{update_same, update_other, along, same_column, kept, through, update_twice}
use Rattle.theory.proofs.Soundness.{sound_e}
use Rattle.theory.proofs.Writes.{same-table}
use Rattle.theory.proofs.Chains.{Leads, stays, both, arrives, makes, makes-go}
use Rattle.orders.proofs.RestTables.{rest_busy, resting, PlanLeads}

-- ---- tests

-- below suc k and below k differ at k alone
pub below_other : (t k : ℕ) → (t ≡ k → ⊥) → ltb t k ≡ ltb t (suc k)
below_other t k h =
    same_test (ltb t k) (ltb t (suc k))
    (λ u. lt→ltb t (suc k) (let l = ltb→lt t k u in omega arith))
    (λ u. lt→ltb t k (let l = ltb→lt t (suc k) u in omega arith))

here : (k : ℕ) → T (ltb k (suc k))
here k = lt→ltb k (suc k) (omega arith)

not_below : (t k : ℕ) → k ≤ t → T (not (ltb t k))
not_below t k l = not_i (ltb t k) (λ u. let m = ltb→lt t k u in omega arith)

-- ---- the flags set so far

-- the threads below k have forbidden 1
abbrev below : ℕ → ℕ → ℕ
below k = λ t. cond (ltb t k) 1 0

below_set : (k : ℕ) → update (below k) k 1 ≡ below (suc k)
below_set k =
    same_column (update (below k) k 1) (below (suc k)) k
    (update_same (below k) k 1 k refl ∙ sym (cond_yes (ltb k (suc k)) 1 0 (here k)))
    (λ t h. update_other (below k) k 1 t h ∙ ap (λ (b : Bool). cond b 1 0) (below_other t k h))

all_below : (n k : ℕ) → k ≤ n → every n (λ j. eqb (below k j) 1) ≡ eqb k n
all_below n k l = same_test (every n (λ j. eqb (below k j) 1)) (eqb k n) to from
  where
    to : T (every n (λ j. eqb (below k j) 1)) → T (eqb k n)
    to t = choose (same? k n)
      where
        choose : (k ≡ n) ⊎ (k ≡ n → ⊥) → T (eqb k n)
        choose (inl e) = eq_T k n e
        choose (inr h) =
            let m : k < n = omega arith in
            let one = eqb→eq (below k k) 1 (every_at (λ j. eqb (below k j) 1) n t k m) in
            let z : below k k ≡ 0 = cond_no (ltb k k) 1 0 (not_below k k (omega arith)) in
            absurd (omega arith)

    from : T (eqb k n) → T (every n (λ j. eqb (below k j) 1))
    from t =
        let e = eqb→eq k n t in
        every_i (λ j. eqb (below k j) 1) n (λ j m. eq_T (below k j) 1 (cond_yes (ltb j k) 1 0 (lt→ltb j k (omega arith))))

module _ (n : ℕ) (p : Places) (i : ℕ) (fits : i < n) where
  -- the writer has set the flags below k: it is back in 10, or in 13 when none is left
  abbrev setting : ℕ → Table
  setting k =
      record { threads = n; mutex = 1; target = no_target; phase = update (along rest_phase p) i (cond (eqb k n) 13 10); busy = along rest_busy p; forbidden = below k }

  set_one : (k : ℕ) → k < n → rest_busy (p k) ≡ 0 → T (sound (setting k)) → Leads (setting k) (ask i set_move k ∷ ask i go 0 ∷ []) [] (setting (suc k))
  unfolding effect set_effect go_effect rows among
  set_one k l idle g =
      let s = setting k in
      let f = along rest_phase p in
      let t = applied s (phase≔ i 11 ∷ forbidden≔ k 1 ∷ target≔ k ∷ []) in
      let at : s.phase i ≡ 10 = update_same f i (cond (eqb k n) 13 10) i refl ∙ cond_no (eqb k n) 13 10 (ne_T k n (λ e. omega arith)) in
      let at-11 : t.phase i ≡ 11 = update_same s.phase i 11 i refl in
      let all : all_forbidden t ≡ eqb (suc k) n = ap (λ (c : ℕ → ℕ). every n (λ j. eqb (c j) 1)) (below_set k) ∙ all_below n (suc k) l in
      let a : Leads s (ask i set_move k ∷ []) [] t =
      makes s i g fits set_move k (quietly (phase≔ i 11 ∷ forbidden≔ k 1 ∷ target≔ k ∷ [])) (omega arith) (lt→ltb k n l)
      (subst (λ (x : ℕ). T (has_move set_move x)) (sym at) tt) tt (rw at) in
      let b = makes-go t i a.sound_after fits 11 (quietly (phase≔ i (cond (eqb (suc k) n) 13 10) ∷ target≔ no_target ∷ [])) at-11 tt tt (rw (at-11, idle, all)) in
      arrives (both a b)
      (same-table _ (setting (suc k)) refl refl refl
      (update_twice s.phase i 11 (cond (eqb (suc k) n) 13 10) ∙ update_twice f i (cond (eqb k n) 13 10) (cond (eqb (suc k) n) 13 10))
      refl
      (below_set k))

  set_below : (k : ℕ) → k ≤ n → ((j : ℕ) → j < n → rest_busy (p j) ≡ 0) → T (sound (setting 0)) → Leads (setting 0) (gather k (λ t. ask i set_move t ∷ ask i go 0 ∷ [])) [] (setting k)
  unfolding gather
  set_below zero l idle g = stays (setting 0) g
  set_below (suc k) l idle g =
      let before = set_below k (omega arith) idle g in
      both before (set_one k l (idle k l) before.sound_after)

-- "For 6: go, then for each t from 0 upward set t and go, then go."
pub enters_exclusive : (n : ℕ) (p : Places) (i : ℕ) → T (sound (resting n p)) → i < n → p i ≡ 5 → any_in_shared n p ≡ false → any_in_exclusive n p ≡ false → PlanLeads n p (pair_of i 6)
unfolding plan_of go_effect rows among rest_phase
enters_exclusive n p i g fits at no_reader none =
    let x = pair_of i 6 in
    let f = along rest_phase p in
    let start = setting n p i fits 0 in
    let full = setting n p i fits n in
    let at-13 : full.phase i ≡ 13 = update_same f i (cond (eqb n n) 13 10) i refl ∙ cond_yes (eqb n n) 13 10 (eq_T n n refl) in
    let some-6 : any_in_exclusive n (advanced p x) ≡ true = T_true _ (some_i (λ t. eqb (advanced p x t) 6) n i fits (eq_T (advanced p x i) 6 (update_same p i 6 i refl))) in
    let a : Leads (resting n p) (ask i go 0 ∷ []) [] start = arrives
    (makes-go (resting n p) i g fits 9 (quietly (phase≔ i 10 ∷ mutex≔ 1 ∷ [])) (ap rest_phase at) tt (rw none tt) (rw at))
    (same-table _ start refl refl refl
    (ap (update f i) (sym (cond_no (eqb 0 n) 13 10 (ne_T 0 n (λ e. omega arith)))))
    refl
    (fun_ext (λ t. rw (none, leb-suc-zero t)))) in
    let b = set_below n p i fits n (omega arith) (λ j l. cond_no (eqb (p j) 2) 1 0 (none_at (λ t. eqb (p t) 2) n (false-T _ no_reader) j l)) a.sound_after in
    let c = makes-go full i b.sound_after fits 13 (showing 6 (phase≔ i 14 ∷ [])) at-13 tt tt (rw at-13) in
    arrives (both a (both b c))
    (same-table _ (resting n (advanced p x)) refl
    (ap (λ (q : Bool). cond q 1 0) (sym some-6))
    refl
    (update_twice f i (cond (eqb n n) 13 10) 14 ∙ sym (through p i rest_phase 6))
    (sym (kept p i rest_busy 6 (ap rest_busy at)))
    (ap (λ (q : Bool). λ (t : ℕ). cond (q && ltb t n) 1 0) (sym some-6)))

-- ---- the flags not yet cleared

-- the threads from k to n - 1 have forbidden 1
abbrev from_up : ℕ → ℕ → ℕ → ℕ
from_up n k = λ t. cond (ltb t k) 0 (below n t)

from_clear : (n k : ℕ) → update (from_up n k) k 0 ≡ from_up n (suc k)
from_clear n k =
    same_column (update (from_up n k) k 0) (from_up n (suc k)) k
    (update_same (from_up n k) k 0 k refl ∙ sym (cond_yes (ltb k (suc k)) 0 (below n k) (here k)))
    (λ t h. update_other (from_up n k) k 0 t h ∙ ap (λ (b : Bool). cond b 0 (below n t)) (below_other t k h))

-- clearing k clears the last one
none_from : (n k : ℕ) → k < n → every n (λ j. eqb j k || eqb (from_up n k j) 0) ≡ eqb (suc k) n
none_from n k l = same_test (every n (λ j. eqb j k || eqb (from_up n k j) 0)) (eqb (suc k) n) to from
  where
    to : T (every n (λ j. eqb j k || eqb (from_up n k j) 0)) → T (eqb (suc k) n)
    to t = choose (same? (suc k) n)
      where
        choose : (suc k ≡ n) ⊎ (suc k ≡ n → ⊥) → T (eqb (suc k) n)
        choose (inl e) = eq_T (suc k) n e
        choose (inr h) = absurd (split (or_e (eqb (suc k) k) (eqb (from_up n k (suc k)) 0) (every_at (λ j. eqb j k || eqb (from_up n k j) 0) n t (suc k) m)))
          where
            m : suc k < n
            m = omega arith

            split : T (eqb (suc k) k) ⊎ T (eqb (from_up n k (suc k)) 0) → ⊥
            split (inl u) = let e = eqb→eq (suc k) k u in omega arith
            split (inr u) =
                let z = eqb→eq (from_up n k (suc k)) 0 u in
                let one : from_up n k (suc k) ≡ 1 = cond_no (ltb (suc k) k) 0 (below n (suc k)) (not_below (suc k) k (omega arith)) ∙ cond_yes (ltb (suc k) n) 1 0 (lt→ltb (suc k) n m) in
                omega arith

    from : T (eqb (suc k) n) → T (every n (λ j. eqb j k || eqb (from_up n k j) 0))
    from t = every_i (λ j. eqb j k || eqb (from_up n k j) 0) n (λ j m. split j (below_suc j k (subst (λ (x : ℕ). j < x) (sym (eqb→eq (suc k) n t)) m)))
      where
        split : (j : ℕ) → (j ≡ k) ⊎ (j < k) → T (eqb j k || eqb (from_up n k j) 0)
        split j (inl e) = or_l (eqb j k) (eqb (from_up n k j) 0) (eq_T j k e)
        split j (inr m) = or_r (eqb j k) (eqb (from_up n k j) 0) (eq_T (from_up n k j) 0 (cond_yes (ltb j k) 0 (below n j) (lt→ltb j k m)))

module _ (n : ℕ) (p : Places) (i : ℕ) (fits : i < n) where
  -- the writer has cleared the flags below k: it stays in 15, or is in 16 when none is left; b tells whether none is left
  abbrev clearing_if : Bool → ℕ → Table
  clearing_if b k =
      record { threads = n; mutex = 1; target = no_target; phase = update (along rest_phase p) i (cond b 16 15); busy = along rest_busy p; forbidden = from_up n k }

  abbrev clearing : ℕ → Table
  clearing k = clearing_if (eqb k n) k

  clear_one : (k : ℕ) → k < n → T (sound (clearing k)) → Leads (clearing k) (ask i clear_move k ∷ []) [] (clearing (suc k))
  unfolding effect clear_effect rows among
  clear_one k l g =
      let s = clearing k in
      let at : s.phase i ≡ 15 = update_same (along rest_phase p) i (cond (eqb k n) 16 15) i refl ∙ cond_no (eqb k n) 16 15 (ne_T k n (λ e. omega arith)) in
      arrives
      (makes s i g fits clear_move k (quietly (forbidden≔ k 0 ∷ cond (eqb (suc k) n) (phase≔ i 16 ∷ []) [])) (omega arith) (lt→ltb k n l)
      (subst (λ (x : ℕ). T (has_move clear_move x)) (sym at) tt) tt (rw (none_from n k l)))
      (ends (eqb (suc k) n))
    where
      ends : (b : Bool) → applied (clearing k) (forbidden≔ k 0 ∷ cond b (phase≔ i 16 ∷ []) []) ≡ clearing_if b (suc k)
      ends true =
          same-table _ (clearing_if true (suc k)) refl refl refl (update_twice (along rest_phase p) i (cond (eqb k n) 16 15) 16) refl (from_clear n k)
      ends false =
          same-table _ (clearing_if false (suc k)) refl refl refl
          (ap (update (along rest_phase p) i) (cond_no (eqb k n) 16 15 (ne_T k n (λ e. omega arith))))
          refl
          (from_clear n k)

  clear_below : (k : ℕ) → k ≤ n → T (sound (clearing 0)) → Leads (clearing 0) (gather k (λ t. ask i clear_move t ∷ [])) [] (clearing k)
  unfolding gather
  clear_below zero l g = stays (clearing 0) g
  clear_below (suc k) l g =
      let before = clear_below k (omega arith) g in
      both before (clear_one k l before.sound_after)

-- a sound resting table has at most one thread in exclusive
only-writer : (n : ℕ) (p : Places) (i : ℕ) → T (sound (resting n p)) → i < n → p i ≡ 6 → any_in_exclusive n (advanced p (pair_of i 7)) ≡ false
unfolding rest_phase rows
only-writer n p i g fits at = T_false _ (none_i (λ t. eqb (advanced p (pair_of i 7) t) 6) n (λ t l. ne_T (advanced p (pair_of i 7) t) 6 (split t l (same? t i))))
  where
    inside : (t : ℕ) → p t ≡ 6 → T (holds (rest_phase (p t)))
    inside t e = rw e tt

    split : (t : ℕ) → t < n → (t ≡ i) ⊎ (t ≡ i → ⊥) → advanced p (pair_of i 7) t ≡ 6 → ⊥
    split t l (inl e) six = let z = update_same p i 7 t e in omega arith
    split t l (inr h) six = h ((sound_e (resting n p) g).one_holder t l i fits (inside t (sym (update_other p i 7 t h) ∙ six)) (inside i at))

-- "For 7: go, clear each t from 0 upward, go."
pub leaves-exclusive : (n : ℕ) (p : Places) (i : ℕ) → T (sound (resting n p)) → i < n → p i ≡ 6 → PlanLeads n p (pair_of i 7)
unfolding plan_of go_effect rows among rest_phase
leaves-exclusive n p i g fits at =
    let x = pair_of i 7 in
    let f = along rest_phase p in
    let start = clearing n p i fits 0 in
    let clear = clearing n p i fits n in
    let at-16 : clear.phase i ≡ 16 = update_same f i (cond (eqb n n) 16 15) i refl ∙ cond_yes (eqb n n) 16 15 (eq_T n n refl) in
    let some-6 : any_in_exclusive n p ≡ true = T_true _ (some_i (λ t. eqb (p t) 6) n i fits (eq_T (p i) 6 at)) in
    let none = only-writer n p i g fits at in
    let a : Leads (resting n p) (ask i go 0 ∷ []) (x ∷ []) start = arrives
    (makes-go (resting n p) i g fits 14 (showing 7 (phase≔ i 15 ∷ [])) (ap rest_phase at) tt tt (rw at))
    (same-table _ start refl
    (ap (λ (q : Bool). cond q 1 0) some-6)
    refl
    (ap (update f i) (sym (cond_no (eqb 0 n) 16 15 (ne_T 0 n (λ e. omega arith)))))
    refl
    (fun_ext (λ t. rw (some-6, leb-suc-zero t)))) in
    let b = clear_below n p i fits n (omega arith) a.sound_after in
    let c = makes-go clear i b.sound_after fits 16 (quietly (phase≔ i 17 ∷ mutex≔ 0 ∷ [])) at-16 tt tt (rw at-16) in
    arrives (both a (both b c))
    (same-table _ (resting n (advanced p x)) refl
    (ap (λ (q : Bool). cond q 1 0) (sym none))
    refl
    (update_twice f i (cond (eqb n n) 16 15) 17 ∙ sym (through p i rest_phase 7))
    (sym (kept p i rest_busy 7 (ap rest_busy at)))
    (fun_ext (λ t. all_clear (ltb t n)) ∙ ap (λ (q : Bool). λ (t : ℕ). cond (q && ltb t n) 1 0) (sym none)))
  where
    all_clear : (b : Bool) → ◌≡◌ {A = ℕ} (cond b 0 (cond b 1 0)) 0
    all_clear true = refl
    all_clear false = refl
