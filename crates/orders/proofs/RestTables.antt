-- Resting tables: for each thread's place in its round one phase, and the flags that go with them. The plan leads from one resting table to the next;
-- here are the events 1 to 5 and 8.
use Prim.Native.Nat.{ℕ, ◌<◌}
use native.Mathlib.Omega.{arith}
use mathlib.Core.Bool.{Bool, false, cond, ◌&&◌}
use mathlib.Core.List.{[], ◌∷◌}
use mathlib.Core.Path.{◌≡◌, refl, sym, subst, ap, ◌∙◌}
use lib.Dec.{T, ltb, eqb}
use Rattle.definitions.specs.Bounds.{no_target}
use Rattle.definitions.specs.Codes.{go, call_shared, call_exclusive}
use Rattle.definitions.specs.Moves.{ask, quietly, showing, go_effect, effect}
use Rattle.definitions.specs.Phases.{rows, has_move}
use Rattle.definitions.specs.PlainLock.{Pair, Places, place_after, advanced, any_in_exclusive}
use Rattle.definitions.specs.Plan.{plan_of}
use Rattle.definitions.specs.Sound.{sound}
use Rattle.definitions.specs.Table.{Table, phase≔, busy≔, update, applied}
use Rattle.definitions.specs.Threads.{some, among}
use Rattle.orders.specs.Rounds.{rest_phase}
use Rattle.orders.specs.Histories.{pair_of}
use Rattle.basics.proofs.Columns.{update_same, along, kept, through, update-kept, update_twice}
use Rattle.theory.proofs.Writes.{same-table}
use Rattle.theory.proofs.Chains.{Leads, both, arrives, makes, makes-go}

-- busy is 1 in shared alone
abbrev pub rest_busy : ℕ → ℕ
rest_busy place = cond (eqb place 2) 1 0

-- the mutex and every forbidden are 1 exactly while somebody is in exclusive
abbrev pub resting : ℕ → Places → Table
resting n p =
    record {
      threads = n;
      mutex = cond (any_in_exclusive n p) 1 0;
      target = no_target;
      phase = along rest_phase p;
      busy = along rest_busy p;
      forbidden = λ t. cond (any_in_exclusive n p && ltb t n) 1 0;
    }

-- ---- arriving at a resting table

-- the event of x changes nothing about exclusive
module _ (n : ℕ) (p : Places) (x : Pair) (same : eqb (p x.thread) 6 ≡ eqb (place_after x.event) 6) where
  any-kept : any_in_exclusive n (advanced p x) ≡ any_in_exclusive n p
  any-kept = ap (some n) (kept p x.thread (λ k. eqb k 6) (place_after x.event) same)

  -- a table with the mover's phase and busy as they are after the event, and all else as before it
  pub rests : (f b : ℕ → ℕ) → f ≡ update (along rest_phase p) x.thread (rest_phase (place_after x.event)) → b ≡ update (along rest_busy p) x.thread (rest_busy (place_after x.event))
      → ◌≡◌ {A = Table} (record { threads = n; mutex = (resting n p).mutex; target = no_target; phase = f; busy = b; forbidden = (resting n p).forbidden }) (resting n (advanced p x))
  rests f b phases busies =
      same-table _ (resting n (advanced p x)) refl
      (ap (λ (a : Bool). cond a 1 0) (sym any-kept))
      refl
      (phases ∙ sym (through p x.thread rest_phase (place_after x.event)))
      (busies ∙ sym (through p x.thread rest_busy (place_after x.event)))
      (ap (λ (a : Bool). λ (t : ℕ). cond (a && ltb t n) 1 0) (sym any-kept))

-- ---- the events that change nothing about exclusive

-- from the resting table the plan for x is accepted throughout, shows x alone, and ends in the resting table after x
abbrev pub PlanLeads : ℕ → Places → Pair → Type 0
PlanLeads n p x = Leads (resting n p) (plan_of n x) (x ∷ []) (resting n (advanced p x))

module _ (n : ℕ) (p : Places) (i : ℕ) (g : T (sound (resting n p))) (fits : i < n) where
  -- a call of either kind
  pub shared_call : rest_phase (p i) ≡ 0 → rest_busy (p i) ≡ 0 → eqb (p i) 6 ≡ false → PlanLeads n p (pair_of i 1)
  unfolding plan_of effect rows among rest_phase
  shared_call at idle out =
      arrives
      (makes (resting n p) i g fits call_shared 0 (showing 1 (phase≔ i 1 ∷ [])) (omega arith) tt (subst (λ (k : ℕ). T (has_move call_shared k)) (sym at) tt) tt refl)
      (rests n p (pair_of i 1) out _ _ refl (sym (update-kept (along rest_busy p) i 0 idle)))

  pub exclusive_call : rest_phase (p i) ≡ 0 → rest_busy (p i) ≡ 0 → eqb (p i) 6 ≡ false → PlanLeads n p (pair_of i 5)
  unfolding plan_of effect rows among rest_phase
  exclusive_call at idle out =
      arrives
      (makes (resting n p) i g fits call_exclusive 0 (showing 5 (phase≔ i 9 ∷ [])) (omega arith) tt (subst (λ (k : ℕ). T (has_move call_exclusive k)) (sym at) tt) tt refl)
      (rests n p (pair_of i 5) out _ _ refl (sym (update-kept (along rest_busy p) i 0 idle)))

  pub enters_shared : p i ≡ 1 → any_in_exclusive n p ≡ false → PlanLeads n p (pair_of i 2)
  unfolding plan_of go_effect rows among rest_phase
  enters_shared at none =
      let s = resting n p in
      let t = applied s (phase≔ i 2 ∷ busy≔ i 1 ∷ []) in
      let u = applied t (phase≔ i 5 ∷ []) in
      let a : Leads s (ask i go 0 ∷ []) [] t = makes-go s i g fits 1 (quietly (phase≔ i 2 ∷ busy≔ i 1 ∷ [])) (ap rest_phase at) tt tt (rw at) in
      let at_2 : t.phase i ≡ 2 = update_same s.phase i 2 i refl in
      let at_5 : u.phase i ≡ 5 = update_same t.phase i 5 i refl in
      let b : Leads t (ask i go 0 ∷ []) [] u = makes-go t i a.sound_after fits 2 (quietly (phase≔ i 5 ∷ [])) at_2 tt tt (rw (at_2, none)) in
      let c = makes-go u i b.sound_after fits 5 (showing 2 (phase≔ i 6 ∷ [])) at_5 tt tt (rw at_5) in
      arrives (both a (both b c))
      (rests n p (pair_of i 2) (ap (λ (k : ℕ). eqb k 6) at) _ _
      (update_twice t.phase i 5 6 ∙ update_twice s.phase i 2 6)
      refl)

  pub leaves-shared : p i ≡ 2 → PlanLeads n p (pair_of i 3)
  unfolding plan_of go_effect rows among rest_phase
  leaves-shared at =
      let s = resting n p in
      let t = applied s (phase≔ i 7 ∷ []) in
      let a : Leads s (ask i go 0 ∷ []) (pair_of i 3 ∷ []) t = makes-go s i g fits 6 (showing 3 (phase≔ i 7 ∷ [])) (ap rest_phase at) tt tt (rw at) in
      let at_7 : t.phase i ≡ 7 = update_same s.phase i 7 i refl in
      let b = makes-go t i a.sound_after fits 7 (quietly (phase≔ i 8 ∷ busy≔ i 0 ∷ [])) at_7 tt tt (rw at_7) in
      arrives (both a b)
      (rests n p (pair_of i 3) (ap (λ (k : ℕ). eqb k 6) at) _ _ (update_twice s.phase i 7 8) refl)

  pub returns-shared : p i ≡ 3 → PlanLeads n p (pair_of i 4)
  unfolding plan_of go_effect rows among rest_phase
  returns-shared at =
      arrives (makes-go (resting n p) i g fits 8 (showing 4 (phase≔ i 0 ∷ [])) (ap rest_phase at) tt tt (rw at))
      (rests n p (pair_of i 4) (ap (λ (k : ℕ). eqb k 6) at) _ _ refl (sym (update-kept (along rest_busy p) i 0 (ap rest_busy at))))

  pub returns-exclusive : p i ≡ 7 → PlanLeads n p (pair_of i 8)
  unfolding plan_of go_effect rows among rest_phase
  returns-exclusive at =
      arrives (makes-go (resting n p) i g fits 17 (showing 8 (phase≔ i 0 ∷ [])) (ap rest_phase at) tt tt (rw at))
      (rests n p (pair_of i 8) (ap (λ (k : ℕ). eqb k 6) at) _ _ refl (sym (update-kept (along rest_busy p) i 0 (ap rest_busy at))))
