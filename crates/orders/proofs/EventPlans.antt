-- The plan for every permitted history: each pair by the place that its thread has before it, then pair by pair. For every N and every length.
use Prim.Native.Nat.{ℕ, ◌+◌, ◌≤◌}
use native.Mathlib.Omega.{arith}
use mathlib.Core.Bool.{Bool, false, cond, not, ◌&&◌}
use mathlib.Core.List.{List, [], ◌∷◌}
use mathlib.Core.Path.{◌≡◌, refl, sym, subst, ap}
use lib.Dec.{T, ltb, eqb, eqb→eq}
use Rattle.definitions.specs.PlainLock.{Pair, Places, at_start, advanced, places_after, is_next, any_in_shared, any_in_exclusive}
use Rattle.definitions.specs.Plan.{plan}
use Rattle.definitions.specs.Sound.{sound}
use Rattle.definitions.specs.Table.{Table, fresh_table}
use Rattle.definitions.specs.Threads.{list_of}
use Rattle.orders.specs.Rounds.{rest_phase}
use Rattle.orders.specs.Histories.{pair_of}
use Rattle.plain_lock.specs.Permitted.{pair_fits, permitted_from}
use Rattle.basics.proofs.Cases.{or_at, none_of, among_range}
use Rattle.basics.proofs.Quantifiers.{none_i}
use Rattle.basics.proofs.Tests.{and_l, and_r, T_false, eq_T}
use Rattle.plain_lock.proofs.PlainLaws.{Next, calls-shared, calls-exclusive, goes_on, next_e, leaves_by}
use Rattle.theory.proofs.Stages.{fresh-fits}
use Rattle.theory.proofs.Writes.{same-table}
use Rattle.theory.proofs.Chains.{Leads, stays, both}
use Rattle.orders.proofs.Flags.{enters_exclusive, leaves-exclusive}
use Rattle.orders.proofs.PairTests.{Permits, permits_e}
use Rattle.orders.proofs.RestTables.{rest_busy, resting, PlanLeads, shared_call, exclusive_call, enters_shared, leaves-shared, returns-shared, returns-exclusive}

-- ---- the place before an event

-- a place from which a thread calls: 0, or 4, where nobody ever is, though by its number 5 would follow it
record Idle (place : ℕ) : Type 0 where
  phase : rest_phase place ≡ 0
  busy : rest_busy place ≡ 0
  out : eqb place 6 ≡ false

idle_0 : (place : ℕ) → place ≡ 0 → Idle place
unfolding rest_phase
idle_0 place e = record { phase = ap rest_phase e; busy = ap rest_busy e; out = ap (λ (k : ℕ). eqb k 6) e }

idle_4 : (place : ℕ) → place ≡ 4 → Idle place
unfolding rest_phase
idle_4 place e = record { phase = ap rest_phase e; busy = ap rest_busy e; out = ap (λ (k : ℕ). eqb k 6) e }

before_1 : (place : ℕ) → Next place 1 → Idle place
before_1 place (calls-shared z c) = idle_0 place z
before_1 place (calls-exclusive z c) = idle_0 place z
before_1 place (goes_on c) = idle_0 place (omega arith)

before_5 : (place : ℕ) → Next place 5 → Idle place
before_5 place (calls-shared z c) = idle_0 place z
before_5 place (calls-exclusive z c) = idle_0 place z
before_5 place (goes_on c) = idle_4 place (omega arith)

-- before any other event its thread is at the place one below
pub before : (place at : ℕ) → 1 ≤ at → (at ≡ 4 → ⊥) → T (is_next place (at + 1)) → place ≡ at
before place at some no_4 t = eqb→eq place at (subst T (sym (leaves_by place (at + 1) at some no_4 t)) (eq_T (at + 1) (at + 1) refl))

-- ---- every permitted pair

module _ (n : ℕ) (p : Places) (i : ℕ) (g : T (sound (resting n p))) where
  plan_1 : Permits n p (pair_of i 1) → PlanLeads n p (pair_of i 1)
  plan_1 a = let c = before_1 (p i) (next_e (p i) 1 a.next) in shared_call n p i g a.fits c.phase c.busy c.out

  plan_2 : Permits n p (pair_of i 2) → PlanLeads n p (pair_of i 2)
  plan_2 a = enters_shared n p i g a.fits (before (p i) 1 (omega arith) (λ e. omega arith) a.next) (T_false (any_in_exclusive n p) a.met)

  plan_3 : Permits n p (pair_of i 3) → PlanLeads n p (pair_of i 3)
  plan_3 a = leaves-shared n p i g a.fits (before (p i) 2 (omega arith) (λ e. omega arith) a.next)

  plan_4 : Permits n p (pair_of i 4) → PlanLeads n p (pair_of i 4)
  plan_4 a = returns-shared n p i g a.fits (before (p i) 3 (omega arith) (λ e. omega arith) a.next)

  plan_5 : Permits n p (pair_of i 5) → PlanLeads n p (pair_of i 5)
  plan_5 a = let c = before_5 (p i) (next_e (p i) 5 a.next) in exclusive_call n p i g a.fits c.phase c.busy c.out

  plan_6 : Permits n p (pair_of i 6) → PlanLeads n p (pair_of i 6)
  plan_6 a =
      let none = a.met in
      enters_exclusive n p i g a.fits (before (p i) 5 (omega arith) (λ e. omega arith) a.next)
      (T_false (any_in_shared n p) (and_l (not (any_in_shared n p)) (not (any_in_exclusive n p)) none))
      (T_false (any_in_exclusive n p) (and_r (not (any_in_shared n p)) (not (any_in_exclusive n p)) none))

  plan_7 : Permits n p (pair_of i 7) → PlanLeads n p (pair_of i 7)
  plan_7 a = leaves-exclusive n p i g a.fits (before (p i) 6 (omega arith) (λ e. omega arith) a.next)

  plan_8 : Permits n p (pair_of i 8) → PlanLeads n p (pair_of i 8)
  plan_8 a = returns-exclusive n p i g a.fits (before (p i) 7 (omega arith) (λ e. omega arith) a.next)

  pub by-event : (e : ℕ) → Permits n p (pair_of i e) → PlanLeads n p (pair_of i e)
  unfolding list_of
  by-event e a =
      or_at e 1 _ (at 1 plan_1) (or_at e 2 _ (at 2 plan_2) (or_at e 3 _ (at 3 plan_3) (or_at e 4 _ (at 4 plan_4)
      (or_at e 5 _ (at 5 plan_5) (or_at e 6 _ (at 6 plan_6) (or_at e 7 _ (at 7 plan_7) (or_at e 8 _ (at 8 plan_8) (none_of e))))))))
      (among_range e 1 8 a.known)
    where
      at : (k : ℕ) → (Permits n p (pair_of i k) → PlanLeads n p (pair_of i k)) → e ≡ k → PlanLeads n p (pair_of i e)
      at k f q = subst (λ (x : ℕ). PlanLeads n p (pair_of i x)) (sym q) (f (subst (λ (x : ℕ). Permits n p (pair_of i x)) q a))

-- ---- every permitted history

plan_leads : (n : ℕ) (p : Places) (h : List Pair) → T (sound (resting n p)) → T (permitted_from n p h) → Leads (resting n p) (plan n h) h (resting n (places_after p h))
unfolding plan permitted_from places_after
plan_leads n p [] g t = stays (resting n p) g
plan_leads n p (x ∷ xs) g t =
    let here = pair_fits n p x in
    let rest = permitted_from n (advanced p x) xs in
    let a = by-event n p x.thread g x.event (permits_e n p x (and_l here rest t)) in
    both a (plan_leads n (advanced p x) xs a.sound_after (and_r here rest t))

-- the resting table at the start is the fresh one
pub start_rests : (n : ℕ) → resting n at_start ≡ fresh_table n
unfolding rest_phase
start_rests n =
    let none : any_in_exclusive n at_start ≡ false = T_false _ (none_i (λ t. eqb (at_start t) 6) n (λ t l. tt)) in
    same-table (resting n at_start) (fresh_table n) refl (ap (λ (q : Bool). cond q 1 0) none) refl refl refl
    (ap (λ (q : Bool). λ (t : ℕ). cond (q && ltb t n) 1 0) none)

pub plan-fresh : (n : ℕ) (h : List Pair) → 1 ≤ n → T (permitted_from n at_start h) → Leads (fresh_table n) (plan n h) h (resting n (places_after at_start h))
plan-fresh n h least t =
    subst (λ (s : Table). Leads s (plan n h) h (resting n (places_after at_start h))) (start_rests n)
    (plan_leads n at_start h (subst (λ (s : Table). T (sound s)) (sym (start_rests n)) (fresh-fits n least)) t)
