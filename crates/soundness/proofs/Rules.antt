-- The rules of soundness, each as a test of what one pass finds. For every N and every table.
-- First those on one thread by itself; then, where every forbidden is a flag and at most one thread holds the mutex, those on all threads together.
use Prim.Native.Nat.{ℕ, zero, suc, ◌≤◌, ◌<◌}
use native.Mathlib.Nat.{eq-or-lt_of_le}
use native.Mathlib.Omega.{arith}
use mathlib.Core.Bool.{Bool, true, false, cond, not, ◌&&◌, ◌||◌, and-true, and-false, or-false}
use mathlib.Core.Logic.{⊎_elim}
use mathlib.Core.Path.{◌≡◌, refl, sym, subst, ap, ◌∙◌}
use borrow.Author.Tests.{eq-eqb, ne_eqb, lt-ltb, le-ltb}
use lib.Dec.{T, leb, ltb, eqb, leb→le, le→leb, eqb→eq, ltb→lt}
use Rattle.definitions.specs.Bounds.{last_phase, no_target}
use Rattle.definitions.specs.Phases.{busy_in, holds, reading}
use Rattle.definitions.specs.Sound.{any_holder, holder_in, opened, holder_opened, phase_rule, flag_rule, busy_rule, mutex_rule, target_rule, open_rule, rule10, rule11, rule13, rule15, backed_off, elsewhere_rule}
use Rattle.definitions.specs.Table.{Table}
use Rattle.definitions.specs.Threads.{every, some, how_many, between, implies}
use Rattle.soundness.specs.Pass.{thread_fits, forbidden_reader, tally_below, fit_below}
use Rattle.tallies.specs.Rules.{mutex_agrees, some_elsewhere}
use Rattle.tallies.specs.declared.Tally.{Tally}
use Rattle.basics.proofs.Quantifiers.{every_at, every_i, every-same, how_many-most, some-how_many}
use Rattle.basics.proofs.Tests.{and_cong, and_l, and_r, and_i, T_true, same_test}
use Rattle.theory.proofs.Soundness.{busy_bit}
use Rattle.theory.proofs.Stages.{range_holds, opened-holds}
use Rattle.soundness.proofs.Bools.{implies_cong, not-not}
use Rattle.soundness.proofs.Holders.{holder_is, holder-any}
use Rattle.soundness.proofs.Threads.{some_not_none, every-count, none_count, except_count}

-- ---- one thread by itself

module _ (s : Table) where
  abbrev each : ℕ → Bool
  each i = thread_fits (s.phase i) (s.busy i) (s.forbidden i)

  to-rules : T (every s.threads each) → T (phase_rule s && (flag_rule s && busy_rule s))
  unfolding phase_rule flag_rule busy_rule
  to-rules h =
      and_i (phase_rule s) _
      (every_i _ s.threads phase)
      (and_i (flag_rule s) _ (every_i _ s.threads flags) (every_i _ s.threads busy))
    where
      at : (i : ℕ) → i < s.threads → T (each i)
      at = every_at each s.threads h

      phase : (i : ℕ) → i < s.threads → T (leb (s.phase i) last_phase)
      phase i l = and_l (leb (s.phase i) last_phase) _ (at i l)

      busy : (i : ℕ) → i < s.threads → T (eqb (s.busy i) (busy_in (s.phase i)))
      busy i l = and_r (leb (s.forbidden i) 1) _ (and_r (leb (s.phase i) last_phase) _ (at i l))

      flags : (i : ℕ) → i < s.threads → T (leb (s.busy i) 1 && leb (s.forbidden i) 1)
      flags i l =
          and_i (leb (s.busy i) 1) _
          (subst (λ (k : ℕ). T (leb k 1)) (sym (eqb→eq (s.busy i) (busy_in (s.phase i)) (busy i l)))
          (le→leb (busy_in (s.phase i)) 1 (busy_bit (s.phase i) (leb→le (s.phase i) last_phase (phase i l)))))
          (and_l (leb (s.forbidden i) 1) _ (and_r (leb (s.phase i) last_phase) _ (at i l)))

  from-rules : T (phase_rule s && (flag_rule s && busy_rule s)) → T (every s.threads each)
  unfolding phase_rule flag_rule busy_rule
  from-rules h =
      every_i each s.threads (λ i l.
      and_i (leb (s.phase i) last_phase) _ (every_at _ s.threads (and_l (phase_rule s) _ h) i l)
      (and_i (leb (s.forbidden i) 1) _
      (and_r (leb (s.busy i) 1) _ (every_at _ s.threads (and_l (flag_rule s) _ (and_r (phase_rule s) _ h)) i l))
      (every_at _ s.threads (and_r (flag_rule s) _ (and_r (phase_rule s) _ h)) i l)))

  pub each_fits : fit_below s s.threads ≡ (phase_rule s && (flag_rule s && busy_rule s))
  each_fits = same_test _ _ to-rules from-rules

  pub flags_of : T (flag_rule s) → (i : ℕ) → i < s.threads → s.forbidden i ≤ 1
  unfolding flag_rule
  flags_of h i l = leb→le (s.forbidden i) 1 (and_r (leb (s.busy i) 1) _ (every_at _ s.threads h i l))

-- ---- numbers as tests

flag-not : (x : ℕ) → x ≤ 1 → not (eqb x 1) ≡ eqb x 0
flag-not zero h = refl
flag-not (suc zero) h = refl
flag-not (suc (suc x)) h = absurd (omega arith)

not-all : (k n : ℕ) → k ≤ n → not (eqb k n) ≡ ltb k n
not-all k n h =
    ⊎_elim
    (λ e. ap not (eq-eqb k n e) ∙ sym (le-ltb k n (omega arith)))
    (λ l. ap not (ne_eqb k n (λ e. omega arith)) ∙ sym (lt-ltb k n l))
    (eq-or-lt_of_le h)

not_none : (k : ℕ) → not (eqb k 0) ≡ ltb 0 k
not_none zero = refl
not_none (suc k) = ap not (ne_eqb (suc k) 0 (λ e. omega arith)) ∙ sym (lt-ltb 0 (suc k) (omega arith))

chosen : (p a b : Bool) → T p → T (cond p a b) → T a
chosen true a b p h = h
chosen false a b p h = absurd p

exactly : (b : Bool) (mutex : ℕ) → eqb mutex (cond b 1 0) ≡ (eqb mutex 1 && b || eqb mutex 0 && not b)
exactly true mutex = simp (and-true, and-false, or-false)
exactly false mutex = simp (and-true, and-false)

-- ---- all threads together

pub elsewhere_is : (s : Table) → elsewhere_rule s ≡ some_elsewhere (tally_below s s.threads) s.threads
unfolding elsewhere_rule
elsewhere_is s =
    ap not (every-count s.threads (λ i. backed_off (s.phase i)))
    ∙ not-all (tally_below s s.threads).backed_off s.threads (how_many-most _ s.threads)

module _ (s : Table)
    (flags : (i : ℕ) → i < s.threads → s.forbidden i ≤ 1)
    (one : how_many s.threads (λ i. holds (s.phase i)) ≤ 1) where
  abbrev t : Tally
  t = tally_below s s.threads

  abbrev up : ℕ → Bool
  up i = eqb (s.forbidden i) 1

  abbrev up_reader : ℕ → Bool
  up_reader i = forbidden_reader (s.phase i) (s.forbidden i)

  -- the holder's phase is the tally's
  in_range : (a b : ℕ) → T (leb 10 a) → T (leb b 16) → holder_in a b s ≡ between a b t.holder
  in_range a b l h = holder_is s.phase (between a b) (range_holds a b (leb→le 10 a l) (leb→le b 16 h)) s.threads one

  any_is : any_holder s ≡ not (eqb t.holder 0)
  any_is = holder-any s.phase s.threads one

  pub mutex_is : mutex_rule s ≡ mutex_agrees t s.mutex
  unfolding mutex_rule
  mutex_is = ap (λ (b : Bool). eqb s.mutex (cond b 1 0)) any_is ∙ exactly (not (eqb t.holder 0)) s.mutex

  pub target_is : target_rule s ≡ cond (between 11 12 t.holder) (ltb s.target s.threads && up s.target) (eqb s.target no_target)
  unfolding target_rule
  target_is = rw (in_range 11 12 tt tt)

  -- "every forbidden is 0", "some forbidden is 0"
  none_up : every s.threads (λ i. eqb (s.forbidden i) 0) ≡ eqb t.forbidden 0
  none_up = every-same s.threads _ _ (λ i l. sym (flag-not (s.forbidden i) (flags i l))) ∙ none_count s.threads up

  some_down : some s.threads (λ i. eqb (s.forbidden i) 0) ≡ ltb t.forbidden s.threads
  some_down =
      some_not_none s.threads _
      ∙ ap not
      (every-same s.threads _ up (λ i l. ap not (sym (flag-not (s.forbidden i) (flags i l))) ∙ not-not (up i))
      ∙ every-count s.threads up)
      ∙ not-all t.forbidden s.threads (how_many-most up s.threads)

  pub open_is : open_rule s ≡ implies (eqb t.holder 0 || opened t.holder) (eqb t.forbidden 0)
  unfolding open_rule
  open_is =
      let when : (not (any_holder s) || holder_opened s) ≡ (eqb t.holder 0 || opened t.holder) =
      cc (any_is, not-not (eqb t.holder 0), holder_is s.phase opened opened-holds s.threads one) in
      implies_cong _ _ _ _ when (λ _. none_up)

  pub is_10 : rule10 s ≡ implies (between 10 10 t.holder) (ltb t.forbidden s.threads && eqb t.readers 0)
  unfolding rule10
  is_10 =
      implies_cong _ _ _ _ (in_range 10 10 tt tt)
      (λ _. and_cong _ _ _ _ some_down (λ _. none_count s.threads up_reader))

  -- the target is excepted; its forbidden is 1
  pub is_11 : T (target_rule s) → rule11 s ≡ implies (between 11 12 t.holder) (eqb t.readers (cond (reading (s.phase s.target)) 1 0))
  unfolding target_rule rule11
  is_11 h =
      implies_cong _ _ _ _ (in_range 11 12 tt tt)
      (λ p.
      let k = chosen (holder_in 11 12 s) (ltb s.target s.threads && up s.target) _ p h in
      except_count s.threads up_reader s.target (ltb→lt s.target s.threads (and_l (ltb s.target s.threads) (up s.target) k))
      ∙ ap (λ (x : Bool). eqb t.readers (cond (x && reading (s.phase s.target)) 1 0))
      (T_true (up s.target) (and_r (ltb s.target s.threads) _ k)))

  -- every forbidden is 1, so those with forbidden 1 in 5 to 7 are those in 5 to 7
  pub is_13 : rule13 s ≡ implies (between 13 14 t.holder) (eqb t.forbidden s.threads && eqb t.readers 0)
  unfolding rule13
  is_13 =
      implies_cong _ _ _ _ (in_range 13 14 tt tt)
      (λ _. and_cong _ _ _ _ (every-count s.threads up) (λ all.
      every-same s.threads _ (λ i. not (up_reader i)) (λ i l.
      ap (λ (x : Bool). not (x && reading (s.phase i))) (sym (T_true (up i) (every_at up s.threads all i l))))
      ∙ none_count s.threads up_reader))

  pub is_15 : rule15 s ≡ implies (between 15 15 t.holder) (ltb 0 t.forbidden)
  unfolding rule15
  is_15 =
      implies_cong _ _ _ _ (in_range 15 15 tt tt)
      (λ _. some-how_many up s.threads ∙ not_none t.forbidden)
