-- The one pass decides soundness: for every N and every table, the decision from what is found of the threads below N is `sound`.
-- The sum of the holders' phases tells whether the decision is one by the rules for no holder or for the holder's phase, which are tried one by one, or a refusal since several threads hold the mutex.
use Prim.Native.Nat.{ℕ, ◌≤◌, ◌<◌}
use native.Mathlib.Omega.{arith}
use mathlib.Core.Bool.{Bool, true, false, cond, ◌&&◌, ◌||◌, and_assoc, and-true, and-false}
use mathlib.Core.List.{List, [], ◌∷◌}
use mathlib.Core.Path.{◌≡◌, refl, sym, subst, ap, ◌∙◌}
use Rattle.std.specs.Prelude.{Some, None}
use borrow.Author.Tests.{le-leb, lt-leb, ne_eqb}
use lib.Dec.{T, leb, ltb, eqb}
use Rattle.definitions.specs.Bounds.{last_phase, no_target}
use Rattle.definitions.specs.Phases.{holds, reading}
use Rattle.definitions.specs.Sound.{phase_rule, flag_rule, busy_rule, holder_rule, target_rule, open_rule, rule10, rule11, rule13, rule15, elsewhere_rule, mutex_rule, opened, sound}
use Rattle.definitions.specs.Table.{Table}
use Rattle.definitions.specs.Threads.{how_many, among, between, all_of, implies}
use Rattle.soundness.specs.Pass.{tally_below, fit_below, found_of, sound_by, aimed_at, passes}
use Rattle.tallies.specs.Rules.{mutex_agrees, some_elsewhere, aim_fits, rest_fits}
use Rattle.tallies.specs.declared.Tally.{Tally}
use Rattle.basics.proofs.Cases.{or_at, none_of}
use Rattle.basics.proofs.Tests.{and_cong, and_l, and_r}
use Rattle.theory.proofs.PhaseCases.{is_holder}
use Rattle.theory.specs.Tables.{head_of, task_of}
use Rattle.soundness.proofs.Holders.{Holders, none, one, many, holders}
use Rattle.soundness.proofs.Rules.{each_fits, flags_of, mutex_is, target_is, open_is, is_10, is_11, is_13, is_15, elsewhere_is}

-- ---- the decision, by the sum of the holders' phases

-- what holds of each number of a list holds of one that is among them
abbrev Each : (ℕ → Type 0) → List ℕ → Type 0
Each P [] = Unit {0}
Each P (k ∷ ks) = P k × Each P ks

each_at : (P : ℕ → Type 0) (x : ℕ) (ks : List ℕ) → Each P ks → T (among x ks) → P x
each_at P x [] h = none_of x
each_at P x (k ∷ ks) h = or_at x k ks (λ e. subst P (sym e) h.0) (each_at P x ks h.1)

-- the last of eight rules is tried second
last_second : (m t o a b c d e : Bool) → (m && (t && (o && (a && (b && (c && (d && (e && true)))))))) ≡ (m && e && (t && (o && (a && (b && (c && d))))))
last_second m t o a b c d true = simp and-true
last_second m t o a b c d false = simp and-false

module _ (s : Table) where
  -- what is found of all threads, but for the sum
  abbrev tally : ℕ → Tally
  tally h =
      record {
        holder = h;
        forbidden = (tally_below s s.threads).forbidden;
        readers = (tally_below s s.threads).readers;
        backed_off = (tally_below s s.threads).backed_off;
      }

  -- the sum
  abbrev holder : ℕ
  holder = (tally_below s s.threads).holder

  -- how many threads hold the mutex
  abbrev count : ℕ
  count = how_many s.threads (λ i. holds (s.phase i))

  -- the rules on all threads together, by a sum h, in the order of the decision
  abbrev by-rules : ℕ → Bool
  by-rules h =
      mutex_agrees (tally h) s.mutex
      && some_elsewhere (tally h) s.threads
      && (cond (between 11 12 h) (ltb s.target s.threads && eqb (s.forbidden s.target) 1) (eqb s.target no_target)
      && (implies (eqb h 0 || opened h) (eqb (tally h).forbidden 0)
      && (implies (between 10 10 h) (ltb (tally h).forbidden s.threads && eqb (tally h).readers 0)
      && (implies (between 11 12 h) (eqb (tally h).readers (cond (reading (s.phase s.target)) 1 0))
      && (implies (between 13 14 h) (eqb (tally h).forbidden s.threads && eqb (tally h).readers 0)
      && implies (between 15 15 h) (ltb 0 (tally h).forbidden))))))

  -- the decision
  abbrev by_sum : ℕ → Bool
  by_sum h = sound_by (tally h) (head_of s) (task_of s s.target)

  abbrev Same : ℕ → Type 0
  Same h = by-rules h ≡ by_sum h

  same_none : Same 0
  unfolding sound_by rest_fits
  same_none = simp and-true

  same_one : (h : ℕ) → T (holds h) → Same h
  unfolding sound_by rest_fits aim_fits
  same_one h t =
      each_at Same h _ (
        simp and-true,
        (simp (and-true, and_assoc), (simp (and-true, and_assoc), (simp and-true, (simp and-true, (refl, (simp and-true, (simp and-true, tt))))))),
      ) (is_holder h t)

  -- several threads hold the mutex
  same-many : (h : ℕ) → last_phase < h → by_sum h ≡ false
  unfolding sound_by rest_fits
  same-many h l =
      simp (
        lt-leb h 12 (omega arith),
        ne_eqb h 0 (λ e. omega arith),
        ne_eqb h 10 (λ e. omega arith),
        ne_eqb h 13 (λ e. omega arith),
        ne_eqb h 14 (λ e. omega arith),
        ne_eqb h 15 (λ e. omega arith),
        ne_eqb h 16 (λ e. omega arith),
        ne_eqb h 18 (λ e. omega arith),
        and-false,
      )

  -- ---- the rules of the definitions

  together : Bool
  together = mutex_rule s && (target_rule s && (open_rule s && (rule10 s && (rule11 s && (rule13 s && (rule15 s && (elsewhere_rule s && true)))))))

  module _ (flags : (i : ℕ) → i < s.threads → s.forbidden i ≤ 1) where
    rule_by_rule : count ≤ 1 → together ≡ by-rules holder
    unfolding together
    rule_by_rule l =
        last_second (mutex_rule s) (target_rule s) (open_rule s) (rule10 s) (rule11 s) (rule13 s) (rule15 s) (elsewhere_rule s)
        ∙ and_cong _ _ _ _ (and_cong _ _ _ _ (mutex_is s flags l) (λ _. elsewhere_is s)) (λ _.
        and_cong _ _ _ _ (target_is s flags l) (λ aimed.
        and_cong _ _ _ _ (open_is s flags l) (λ _.
        and_cong _ _ _ _ (is_10 s flags l) (λ _.
        and_cong _ _ _ _ (is_11 s flags l aimed) (λ _.
        and_cong _ _ _ _ (is_13 s flags l) (λ _. is_15 s flags l))))))

    all-threads : (holder_rule s && together) ≡ by_sum holder
    unfolding holder_rule
    all-threads = by (holders s.phase s.threads)
      where
        single : count ≤ 1 → Same holder → (leb count 1 && together) ≡ by_sum holder
        single l e = ap (λ (b : Bool). b && together) (le-leb count 1 l) ∙ (rule_by_rule l ∙ e)

        by : Holders count holder → (leb count 1 && together) ≡ by_sum holder
        by (none a b) = single (omega arith) (subst Same (sym b) same_none)
        by (one a b) = single (omega arith) (same_one holder b)
        by (many a b) = ap (λ (x : Bool). x && together) (lt-leb count 1 (omega arith)) ∙ sym (same-many holder b)

  -- the target's bytes are asked for where it is a thread
  aim_same : sound_by (tally_below s s.threads) (head_of s) (task_of s (aimed_at (head_of s))) ≡ by_sum holder
  unfolding sound_by
  aim_same = ap (λ (x : Bool). before && cond (between 11 12 holder) x unaimed) (by (ltb s.target s.threads))
    where
      before : Bool
      before = mutex_agrees (tally holder) s.mutex && some_elsewhere (tally holder) s.threads

      unaimed : Bool
      unaimed = eqb s.target no_target && rest_fits (tally holder) s.threads

      by : (b : Bool) → (b && aim_fits (tally holder) (task_of s (cond b s.target 0))) ≡ (b && aim_fits (tally holder) (task_of s s.target))
      by true = refl
      by false = refl

-- ---- the theorem

regroup : (p f b r : Bool) → (p && (f && (b && r))) ≡ (p && (f && b) && r)
regroup p f b r = simp and_assoc

-- threads that fail by themselves are refused
either : (s : Table) (x : Bool) (t : Tally) → passes s (cond x (Some t) None) ≡ (x && sound_by t (head_of s) (task_of s (aimed_at (head_of s))))
unfolding passes
either s true t = refl
either s false t = refl

pub one_pass : (s : Table) → passes s (found_of s s.threads) ≡ sound s
unfolding found_of sound all_of together
one_pass s =
    either s (fit_below s s.threads) (tally_below s s.threads)
    ∙ ap (λ (b : Bool). fit_below s s.threads && b) (aim_same s)
    ∙ sym
    (regroup (phase_rule s) (flag_rule s) (busy_rule s) (holder_rule s && together s)
    ∙ and_cong (phase_rule s && (flag_rule s && busy_rule s)) _ _ _ (sym (each_fits s)) (λ rules.
    all-threads s (flags_of s (and_l (flag_rule s) _ (and_r (phase_rule s) _ rules)))))
