-- From the table with every thread in phase 9, the threads go round one after the other, by the plan's moves for the events 6, 7 and 8 (`in_turn`):
-- all are accepted, and the fresh table is left (`all_go_round`); they are N × (3N + 5) moves (`turn-length`). For every N.
use Prim.Native.Nat.{ℕ, zero, suc, ◌+◌, ◌*◌, ◌≤◌, ◌<◌}
use native.Mathlib.Nat.{mul_comm}
use native.Mathlib.Omega.{arith}
use mathlib.Core.Bool.{Bool, true, false, cond, not, ◌&&◌}
use mathlib.Core.List.{List, [], ◌∷◌}
use mathlib.Core.Path.{◌≡◌, refl, sym, subst, ap, ◌∙◌, fun_ext}
use lib.Dec.{T, ltb, eqb, leb-suc-zero, ltb→lt, lt→ltb}
use lib.ListN.{length}
use Rattle.definitions.specs.PlainLock.{Pair, Places}
use Rattle.definitions.specs.Plan.{plan}
use Rattle.definitions.specs.Sound.{sound}
use Rattle.definitions.specs.Table.{Table, fresh_table, update}
use Rattle.definitions.specs.Threads.{some, gather}
use Rattle.definitions.specs.declared.Request.{Request}
use Rattle.orders.specs.Histories.{pair_of}
use Rattle.orders.specs.Rounds.{rest_phase}
use Rattle.basics.proofs.Columns.{same_column, update_twice, update_same, update_other}
use Rattle.basics.proofs.Gathering.{gather-length}
use Rattle.basics.proofs.Quantifiers.{none_i}
use Rattle.basics.proofs.Tests.{T_false, cond_yes, cond_no, cond_either, not_i}
use Rattle.orders.proofs.EventPlans.{start_rests}
use Rattle.orders.proofs.Flags.{below_other, enters_exclusive, leaves-exclusive}
use Rattle.orders.proofs.RestTables.{rest_busy, resting, returns-exclusive}
use Rattle.theory.proofs.Chains.{Leads, stays, both, arrives}
use Rattle.theory.proofs.PlanLengths.{moves_for, moves_more}
use Rattle.theory.proofs.Writes.{same-table}
use Rattle.progress.specs.Progress.{most_progress}
use Rattle.progress.proofs.CalledTable.{called_table, called_sound}

-- a thread that has called goes round in exclusive
abbrev pub round_of : ℕ → List Pair
round_of i = pair_of i 6 ∷ pair_of i 7 ∷ pair_of i 8 ∷ []

-- the requests of the threads below k, in their order
unfoldable pub in_turn : ℕ → ℕ → List Request
in_turn n k = gather k (λ i. plan n (round_of i))

-- each round takes 3N + 5
pub turn-length : (n : ℕ) → length (in_turn n n) ≡ most_progress n
unfolding in_turn plan moves_for
turn-length n = gather-length (λ i. plan n (round_of i)) (3 * n + 5) n (λ i. simp (moves_more n) (omega arith)) ∙ mul_comm (3 * n + 5) n

module _ (n : ℕ) where
  -- the threads from k on have called, those below k are done
  abbrev called : ℕ → Places
  called k = λ j. cond (ltb j k) 0 (cond (ltb j n) 5 0)

  -- so nobody is at another place than 0 and 5
  nobody_at : (place k : ℕ) → T (not (eqb 0 place)) → T (not (eqb 5 place)) → some n (λ j. eqb (called k j) place) ≡ false
  nobody_at place k other-0 other-5 =
      T_false (some n (λ j. eqb (called k j) place))
      (none_i (λ j. eqb (called k j) place) n (λ j l.
      cond_either (λ p. T (not (eqb p place))) (ltb j k) 0 (cond (ltb j n) 5 0) (λ t. other-0) (λ t. cond_either (λ p. T (not (eqb p place))) (ltb j n) 5 0 (λ u. other-5) (λ u. other-0))))

  -- thread k is next
  next : (k : ℕ) → k < n → called k k ≡ 5
  next k l = cond_no (ltb k k) 0 (cond (ltb k n) 5 0) (not_i (ltb k k) (λ t. let m = ltb→lt k k t in omega arith)) ∙ cond_yes (ltb k n) 5 0 (lt→ltb k n l)

  -- and is done then
  done : (k : ℕ) → update (called k) k 0 ≡ called (suc k)
  done k =
      same_column (update (called k) k 0) (called (suc k)) k
      (update_same (called k) k 0 k refl ∙ sym (cond_yes (ltb k (suc k)) 0 (cond (ltb k n) 5 0) (lt→ltb k (suc k) (omega arith))))
      (λ j h. update_other (called k) k 0 j h ∙ ap (λ (b : Bool). cond b 0 (cond (ltb j n) 5 0)) (below_other j k h))

  -- one thread's round
  goes_round : (k : ℕ) → k < n → T (sound (resting n (called k))) → Leads (resting n (called k)) (plan n (round_of k)) (round_of k) (resting n (called (suc k)))
  unfolding plan
  goes_round k l g =
      let p = called k in
      let a = enters_exclusive n p k g l (next k l) (nobody_at 2 k tt tt) (nobody_at 6 k tt tt) in
      let b = leaves-exclusive n (update p k 6) k a.sound_after l (update_same p k 6 k refl) in
      let c = returns-exclusive n (update (update p k 6) k 7) k b.sound_after l (update_same (update p k 6) k 7 k refl) in
      let last = update_twice (update p k 6) k 7 0 ∙ (update_twice p k 6 0 ∙ done k) in
      arrives (both a (both b (both c (stays _ c.sound_after)))) (ap (resting n) last)

  -- those below k
  go_round : (k : ℕ) → k ≤ n → T (sound (resting n (called 0))) → Leads (resting n (called 0)) (in_turn n k) (gather k round_of) (resting n (called k))
  unfolding in_turn gather
  go_round zero l g = stays (resting n (called 0)) g
  go_round (suc k) l g = let before = go_round k (omega arith) g in both before (goes_round k l before.sound_after)

  -- ---- the first table and the last

  starts : resting n (called 0) ≡ called_table n
  unfolding rest_phase
  starts =
      let none = nobody_at 6 0 tt tt in
      same-table (resting n (called 0)) (called_table n) refl
      (ap (λ (b : Bool). cond b 1 0) none)
      refl
      (fun_ext (λ j. rw (leb-suc-zero j) (phase (ltb j n))))
      (fun_ext (λ j. rw (leb-suc-zero j) (busy (ltb j n))))
      (ap (λ (b : Bool). λ (j : ℕ). cond (b && ltb j n) 1 0) none)
    where
      phase : (b : Bool) → rest_phase (cond b 5 0) ≡ cond b 9 0
      phase true = refl
      phase false = refl

      busy : (b : Bool) → rest_busy (cond b 5 0) ≡ 0
      busy true = refl
      busy false = refl

  ends : resting n (called n) ≡ fresh_table n
  ends = ap (resting n) (fun_ext (λ j. all_done (ltb j n))) ∙ start_rests n
    where
      all_done : (b : Bool) → ◌≡◌ {A = ℕ} (cond b 0 (cond b 5 0)) 0
      all_done true = refl
      all_done false = refl

  -- all of them
  pub all_go_round : 1 ≤ n → Leads (called_table n) (in_turn n n) (gather n round_of) (fresh_table n)
  all_go_round least =
      subst (λ (s : Table). Leads s (in_turn n n) (gather n round_of) (fresh_table n)) starts
      (arrives (go_round n (omega arith) (subst (λ (s : Table). T (sound s)) (sym starts) (called_sound n least))) ends)
