-- Where the place and the total are those of the pairs before, the tests by counts are the plain lock's (`tests_same`), for the N of the lock, and an event that fits leaves those after it
-- (`standing_after_lem`), for every N.
use Rattle.std.proofs.Common.{◌≡◌, ℕ, zero, suc, ◌+◌, ◌<◌, ◌≤◌, Bool, true, false, cond, ◌&&◌, T, eqb, leb, sym, refl, ap, ◌∙◌, arith, le-leb}
use borrow.Author.Tests.{lt-leb}
use lib.Dec.{eqb-suc-zero}
use Rattle.definitions.specs.Bounds.{most_threads}
use Rattle.definitions.specs.PlainLock.{Pair, Places, place_after, advanced, is_next, need_met, pair_tests, how_many_at}
use Rattle.plain_lock.specs.Counts.{writer, total, total_at, standing_of, readers, any, counts_meet, count_tests, counted_in, counted_out, standing_after, Counted}
use Rattle.plain_lock.specs.declared.Standing.{Standing}
use Rattle.basics.proofs.Quantifiers.{none_how_many, how_many_pos, how_many-most}
use Rattle.basics.proofs.Tests.{eq_T}
use Rattle.basics.proofs.Columns.{update_same}
use Rattle.plain_lock.proofs.PlainLaws.{leaves_by, comes_by, count-advanced}

-- ---- the total

-- with nobody in exclusive, and with nobody in either
most-readers : (s e : ℕ) → s < writer → leb (total s e) readers ≡ eqb e 0
most-readers s zero l = le-leb (total s 0) readers (omega arith)
most-readers s (suc e) l = lt-leb (total s (suc e)) readers (omega arith) ∙ sym (eqb-suc-zero e)

most_none : (s e : ℕ) → leb (total s e) 0 ≡ eqb s 0 && eqb e 0
most_none zero zero = refl
most_none zero (suc e) = lt-leb (total 0 (suc e)) 0 (omega arith) ∙ sym (eqb-suc-zero e)
most_none (suc s) e = lt-leb (total (suc s) e) 0 (omega arith) ∙ ap (λ (b : Bool). b && eqb e 0) (sym (eqb-suc-zero s))

module _ (n : ℕ) (p : Places) where
  pub few-inside : (place : ℕ) → how_many_at n p place ≤ n
  few-inside place = how_many-most (λ t. eqb (p t) place) n

  total-most : total_at n p ≤ total n n
  total-most = omega (arith, few-inside 2, few-inside 6)

  some_at : (thread place : ℕ) → thread < n → p thread ≡ place → 1 ≤ how_many_at n p place
  some_at thread place l e = how_many_pos (λ t. eqb (p t) place) n thread l (eq_T (p thread) place e)

  -- ---- the tests

  module _ (few : n ≤ most_threads) where
    need_same : (thread event : ℕ) → counts_meet (standing_of n p thread) event ≡ need_met n p event
    need_same thread event = rw (none_how_many (λ t. eqb (p t) 2) n, none_how_many (λ t. eqb (p t) 6) n) (by (eqb event 2) (eqb event 6))
      where
        by : (a b : Bool) → leb (total_at n p) (cond a readers (cond b 0 any)) ≡ cond a (eqb (how_many_at n p 6) 0) (cond b (eqb (how_many_at n p 2) 0 && eqb (how_many_at n p 6) 0) true)
        by true b = most-readers (how_many_at n p 2) (how_many_at n p 6) (omega (arith, few-inside 2))
        by false true = most_none (how_many_at n p 2) (how_many_at n p 6)
        by false false = le-leb (total_at n p) any (omega (arith, total-most))

    pub tests_same : (k : ℕ) (x : Pair) → count_tests n (standing_of n p x.thread) k x ≡ pair_tests n p k x
    tests_same k x = rw (need_same x.thread x.event)

    pub is_counted : (thread : ℕ) → (p thread ≡ 4 → ⊥) → Counted n thread (standing_of n p thread)
    is_counted thread fine =
        record {
          few = few;
          most = total-most;
          in_shared = λ l e. omega (arith, some_at thread 2 l e);
          in_exclusive = λ l e. omega (arith, some_at thread 6 l e);
          is_in_round = fine;
        }

-- ---- an event that fits

pub same-standing : {a b a' b' : ℕ} → a ≡ a' → b ≡ b' → ◌≡◌ {A = Standing} (record { place = a; inside = b }) (record { place = a'; inside = b' })
same-standing p q = rw (p, q)

module _ (n : ℕ) (p : Places) (x : Pair) (below : x.thread < n) (next : T (is_next (p x.thread) x.event)) where
  count_after : (at : ℕ) → 1 ≤ at → (at ≡ 4 → ⊥) → (at ≡ 8 → ⊥)
      → how_many_at n (advanced p x) at + cond (eqb x.event (at + 1)) 1 0 ≡ how_many_at n p at + cond (eqb x.event at) 1 0
  count_after at some no_4 no-8 =
      let a : ◌≡◌ {A = ℕ} (cond (eqb (p x.thread) at) 1 0) (cond (eqb x.event (at + 1)) 1 0) =
      ap (λ (b : Bool). cond b 1 0) (leaves_by (p x.thread) x.event at some no_4 next) in
      let b : ◌≡◌ {A = ℕ} (cond (eqb (place_after x.event) at) 1 0) (cond (eqb x.event at) 1 0) =
      ap (λ (b : Bool). cond b 1 0) (comes_by x.event at some no_4 no-8) in
      omega (arith, count-advanced n p x at below)

  total_after : total_at n p + counted_in x.event ≡ total_at n (advanced p x) + counted_out x.event
  total_after =
      let shared = count_after 2 (omega arith) (λ e. omega arith) (λ e. omega arith) in
      let exclusive = count_after 6 (omega arith) (λ e. omega arith) (λ e. omega arith) in
      omega arith

  pub standing_after_lem : standing_after (standing_of n p x.thread) x.event ≡ standing_of n (advanced p x) x.thread
  standing_after_lem = same-standing (sym (update_same p x.thread (place_after x.event) x.thread refl)) (omega (arith, total_after))
