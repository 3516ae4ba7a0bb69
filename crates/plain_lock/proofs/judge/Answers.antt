-- `judge` meets its contract: a code above 8 is no event; of any other an event fits where its thread is below N, its row's place is the thread's and the total is met; else the first test that
-- fails is told.
use Rattle.std.proofs.Common.{◌≡◌, ℕ, ◌/◌, ◌%◌, ◌^◌, ◌<◌, ◌≤◌, Bool, true, false, cond, not, ◌&&◌, T, eqb, ltb, leb, ◌⊎◌, sym, refl, ap, ◌∙◌, inl, inr, arith, ltb-true, le-leb}
use mathlib.Core.Bool.{false≢true}
use borrow.Author.Tests.{lt-leb}
use Rattle.definitions.specs.Answers.{Reply, accepted, refused, answered}
use Rattle.definitions.specs.PlainLock.{is_next}
use Rattle.definitions.specs.Threads.{between}
use Rattle.plain_lock.specs.Counts.{counts_meet, count_tests, standing_after, Counted}
use Rattle.plain_lock.specs.Rows.{event_row, moved_by}
use Rattle.plain_lock.specs.declared.Standing.{Standing}
use Rattle.basics.proofs.Tests.{T_true, true-T, decided, and_both}
use Rattle.plain_lock.proofs.RowLaws.{next_known, met_known, moved-known, next_unknown}
use Rattle.plain_lock.proofs.judge.Goals as goal

module _ (n thread code : ℕ) (s : Standing) (k : ℕ) where
  abbrev known : Bool
  known = between 1 8 code && ltb thread n

  abbrev reply : Reply Standing
  reply = answered (count_tests n s k (record { thread = thread; event = code })) (standing_after s code)

  by_tests : (a b d : Bool) → known ≡ a → is_next s.place code ≡ b → counts_meet s code ≡ d
      → cond a (cond b (cond d (accepted (standing_after s code)) (refused 11 k)) (refused 10 k)) (refused 9 k) ≡ reply
  unfolding answered
  by_tests a b d p q r = rw (← p, ← q, ← r)

  -- a code above the last event's
  above_last : 8 < code → refused 9 k ≡ reply
  above_last l = by_tests false _ _ (rw (lt-leb code 8 l) (no_event (leb 1 code))) refl refl
    where
      no_event : (a : Bool) → (a && false) && ltb thread n ≡ false
      no_event true = refl
      no_event false = refl

  -- any other, by its row
  module _ (c : Counted n thread s) (most : code ≤ 8) (row : ℕ) (same : row ≡ event_row code) where
    abbrev next : Bool
    next = eqb s.place (row % 2 ^ 8)

    abbrev met : Bool
    met = leb s.inside (row / 2 ^ 16 % 2 ^ 16)

    -- a code that follows its place is an event
    next-event : next ≡ true → T (between 1 8 code)
    next-event e = by (decided (between 1 8 code))
      where
        by : T (between 1 8 code) ⊎ T (not (between 1 8 code)) → T (between 1 8 code)
        by (inl t) = t
        by (inr t) = absurd (false≢true (sym (next_unknown n thread s code c t) ∙ (ap (λ (r : ℕ). eqb s.place (r % 2 ^ 8)) (sym same) ∙ e)))

    -- of an event the row's tests are those by counts
    is_next_lem : T (between 1 8 code) → next ≡ is_next s.place code
    is_next_lem t = ap (λ (r : ℕ). eqb s.place (r % 2 ^ 8)) same ∙ next_known n thread s code c t

    is_met : T (between 1 8 code) → met ≡ counts_meet s code
    is_met t = ap (λ (r : ℕ). leb s.inside (r / 2 ^ 16 % 2 ^ 16)) same ∙ met_known n thread s code c t

    fits : (after : Standing) → ltb thread n && (next && met) ≡ true → after ≡ moved_by s row → accepted after ≡ reply
    fits after flag e =
        let a = and_both (ltb thread n) (next && met) flag in
        let b = and_both next met a.1 in
        let t = next-event b.0 in
        let l = ltb-true thread n a.0 in
        let q : is_next s.place code ≡ true = sym (is_next_lem t) ∙ b.0 in
        ap accepted (e ∙ (rw same (moved-known n thread s code c t l (true-T (is_next s.place code) q))))
        ∙ by_tests true true true (rw (T_true (between 1 8 code) t, a.0)) q (sym (is_met t) ∙ b.1)

    -- the code's test for 9
    is_known : known ≡ ltb thread n && leb 1 code
    is_known = rw (le-leb code 8 most) (swapped (leb 1 code) (ltb thread n))
      where
        swapped : (a b : Bool) → (a && true) && b ≡ b && a
        swapped true true = refl
        swapped true false = refl
        swapped false true = refl
        swapped false false = refl

    turned_down : (number : ℕ) → ltb thread n && (next && met) ≡ false → number ≡ cond (ltb thread n && leb 1 code) (cond next 11 10) 9 → refused number k ≡ reply
    turned_down number flag e = ap (λ (m : ℕ). refused m k) (e ∙ ap (λ (b : Bool). cond b (cond next 11 10) 9) (sym is_known)) ∙ by known next refl refl
      where
        by : (a b : Bool) → known ≡ a → next ≡ b → refused (cond a (cond b 11 10) 9) k ≡ reply
        by false b p q = by_tests false _ _ p refl refl
        by true false p q =
            let t = and_both (between 1 8 code) (ltb thread n) p in
            by_tests true false _ p (sym (is_next_lem (true-T (between 1 8 code) t.0)) ∙ q) refl
        by true true p q =
            let t = and_both (between 1 8 code) (ltb thread n) p in
            let u = true-T (between 1 8 code) t.0 in
            by_tests true true false p (sym (is_next_lem u) ∙ q) (sym (is_met u) ∙ (rw (t.1, q) at flag))

pub returns-then-below-next : goal.returns-then-below-next
returns-then-below-next c k =
    let a = c.args in
    fits a.threads a.thread a.code a.before k c.requires (omega (arith, c.if-last-code.false)) c.event_row-row.result c.event_row-row.ensures
    c.moved.result c.if-below-next.true c.moved.ensures

pub returns : goal.returns
returns c k =
    let a = c.args in
    turned_down a.threads a.thread a.code a.before k c.requires (omega (arith, c.if-last-code.false)) c.event_row-row.result c.event_row-row.ensures
    _ c.if-below-next.false c.reason.ensures
