-- The places that the plain lock shows (`Shown`): of threads below n alone, each in its round, one thread at most in exclusive and then nobody in shared. They are so at the start and
-- after every event that is permitted (`shown_after`); a record of such places is consistent and holds just them (`record_consistent`, `record_holds`).
use Prim.Native.Nat.{ℕ, ◌+◌, ◌≤◌, ◌<◌}
use native.Mathlib.Omega.{arith}
use mathlib.Core.Bool.{Bool, cond, not}
use mathlib.Core.List.{List, [], ◌∷◌}
use mathlib.Core.Logic.{◌⊎◌, inl, inr, ⊎_elim}
use mathlib.Core.Path.{◌≡◌, refl, sym, subst, ap, ◌∙◌, fun_ext}
use borrow.Author.Tests.{eq-eqb, ne_eqb}
use lib.Dec.{T, leb, ltb, eqb, leb→le, ltb→lt, lt→ltb, eqb→eq}
use lib.ListN.{length, length-replicate}
use Rattle.definitions.specs.Bounds.{most_threads, first_event, last_event}
use Rattle.definitions.specs.PlainLock.{Pair, Places, places_in, at_start, place_after, advanced, places_after, any_in_shared, any_in_exclusive, how_many_at, need_met}
use Rattle.definitions.specs.Threads.{every, some, among, between, implies}
use Rattle.definitions.specs.Watch.{record_of, started, round_places, consistent}
use Rattle.definitions.specs.declared.Watcher.{Watcher}
use Rattle.plain_lock.specs.Permitted.{pair_fits, permitted_from}
use Rattle.basics.proofs.Lists.{length-list_of, zeros}
use Rattle.basics.proofs.Quantifiers.{every_at, how_many_none, none_how_many}
use Rattle.basics.proofs.Tests.{and_l, and_r, implies_e, cond_yes, cond_no, cond_either, not_i, same?, below?}
use Rattle.basics.proofs.Columns.{update_other}
use Rattle.plain_lock.proofs.PlainLaws.{comes_by, count-advanced}
use Rattle.orders.proofs.PairTests.{Permits, permits_e}
use Rattle.updates.proofs.EventLaws.{beyond}
use Rattle.consistency.proofs.RecordLaws.{InRounds, Consistent, consistent_i, same_record, entries_are, entry_of}

pub record Shown (n : ℕ) (p : Places) : Type 0 where
  pub rounds : InRounds n p
  pub rest : (t : ℕ) → n ≤ t → p t ≡ 0

-- ---- at the start

nobody_at : (n place : ℕ) → 1 ≤ place → how_many_at n at_start place ≡ 0
nobody_at n place least = how_many_none (λ t. eqb 0 place) n (λ t l. not_i (eqb 0 place) (λ u. let e = eqb→eq 0 place u in absurd (omega arith)))

pub shown-start : (n : ℕ) → Shown n at_start
unfolding among
shown-start n =
    record {
      rounds = record { round = λ t l. tt; one = omega (arith, nobody_at n 6 (omega arith)); apart = inl (nobody_at n 6 (omega arith)) };
      rest = λ t l. refl;
    }

pub start_is : (n : ℕ) → started n ≡ record_of n at_start
start_is n =
    same_record refl (sym (nobody_at n 2 (omega arith))) (sym (nobody_at n 6 (omega arith)))
    (entries_are n at_start _ (length-replicate {A = ℕ} most_threads 0) (λ t l. zeros most_threads t) (λ t least most. zeros most_threads t))

-- ---- after an event

-- the place after an event is one of a round
round_after : (event : ℕ) → T (between first_event last_event event) → T (among (place_after event) round_places)
unfolding every among
round_after event t =
    let most = leb→le event 8 (and_r (leb 1 event) (leb event 8) t) in
    implies_e (between 1 8 event) (among (place_after event) round_places)
    (every_at (λ k. implies (between 1 8 k) (among (place_after k) round_places)) 9 tt event (omega arith)) t

module _ (n : ℕ) (p : Places) (x : Pair) (s : Shown n p) (a : Permits n p x) where
  abbrev q : Places
  q = advanced p x

  -- less the thread where it was, and more where it goes
  count : (place : ℕ) → 1 ≤ place → (place ≡ 4 → ⊥) → (place ≡ 8 → ⊥) → how_many_at n q place ≤ how_many_at n p place + cond (eqb x.event place) 1 0
  count place least no_4 no-8 =
      let comes : ◌≡◌ {A = ℕ} (cond (eqb (place_after x.event) place) 1 0) (cond (eqb x.event place) 1 0) =
      ap (λ (b : Bool). cond b 1 0) (comes_by x.event place least no_4 no-8) in
      omega (arith, count-advanced n p x place a.fits)

  -- an event that isn't a place's own code leads nobody to it
  no_more : (place : ℕ) → 1 ≤ place → (place ≡ 4 → ⊥) → (place ≡ 8 → ⊥) → (x.event ≡ place → ⊥) → how_many_at n q place ≤ how_many_at n p place
  no_more place least no_4 no-8 other = omega (arith, rw (ne_eqb x.event place other) at (count place least no_4 no-8))

  fewer_6 : (x.event ≡ 6 → ⊥) → how_many_at n q 6 ≤ how_many_at n p 6
  fewer_6 = no_more 6 (omega arith) (λ e. omega arith) (λ e. omega arith)

  fewer_2 : (x.event ≡ 2 → ⊥) → how_many_at n q 2 ≤ how_many_at n p 2
  fewer_2 = no_more 2 (omega arith) (λ e. omega arith) (λ e. omega arith)

  -- "Event 2 needs nobody in exclusive. Event 6 needs nobody in either."
  none_at : (place : ℕ) → T (not (some n (λ t. eqb (p t) place))) → how_many_at n p place ≡ 0
  none_at place t = eqb→eq (how_many_at n p place) 0 (subst T (none_how_many (λ t. eqb (p t) place) n) t)

  met_2 : x.event ≡ 2 → how_many_at n p 6 ≡ 0
  met_2 e = none_at 6 (subst (λ (k : ℕ). T (need_met n p k)) e a.met)

  met_6 : x.event ≡ 6 → (how_many_at n p 2 ≡ 0) × (how_many_at n p 6 ≡ 0)
  met_6 e =
      let t = subst (λ (k : ℕ). T (need_met n p k)) e a.met in (
        none_at 2 (and_l (not (any_in_shared n p)) (not (any_in_exclusive n p)) t),
        none_at 6 (and_r (not (any_in_shared n p)) (not (any_in_exclusive n p)) t),
      )

  one_after : (x.event ≡ 6) ⊎ (x.event ≡ 6 → ⊥) → how_many_at n q 6 ≤ 1
  one_after (inl e) = omega (arith, (met_6 e).1, rw (eq-eqb x.event 6 e) at (count 6 (omega arith) (λ e. omega arith) (λ e. omega arith)))
  one_after (inr d) = omega (arith, fewer_6 d, s.rounds.one)

  apart_after : (x.event ≡ 6) ⊎ (x.event ≡ 6 → ⊥) → (x.event ≡ 2) ⊎ (x.event ≡ 2 → ⊥) → (how_many_at n q 6 ≡ 0) ⊎ (how_many_at n q 2 ≡ 0)
  apart_after (inl e) w = inr (omega (arith, (met_6 e).0, fewer_2 (λ d. absurd (omega arith))))
  apart_after (inr d) (inl e) = inl (omega (arith, met_2 e, fewer_6 d))
  apart_after (inr d) (inr c) = ⊎_elim (λ z. inl (omega (arith, fewer_6 d))) (λ z. inr (omega (arith, fewer_2 c))) s.rounds.apart

  pub shown-next : Shown n q
  shown-next =
      record {
        rounds = record {
          round = λ t l. cond_either (λ k. T (among k round_places)) (eqb t x.thread) (place_after x.event) (p t) (λ u. round_after x.event a.known) (λ u. s.rounds.round t l);
          one = one_after (same? x.event 6);
          apart = apart_after (same? x.event 6) (same? x.event 2);
        };
        rest = λ t l. update_other p x.thread (place_after x.event) t (λ e. omega (arith, a.fits)) ∙ s.rest t l;
      }

-- after a permitted list
pub shown_after : (n : ℕ) (p : Places) (h : List Pair) → Shown n p → T (permitted_from n p h) → Shown n (places_after p h)
unfolding permitted_from places_after
shown_after n p [] s t = s
shown_after n p (x ∷ xs) s t =
    let fits = and_l (pair_fits n p x) (permitted_from n (advanced p x) xs) t in
    shown_after n (advanced p x) xs (shown-next n p x s (permits_e n p x fits)) (and_r (pair_fits n p x) (permitted_from n (advanced p x) xs) t)

-- ---- their record

module _ (n : ℕ) (p : Places) (most : n ≤ most_threads) where
  pub record_long : length (record_of n p).places ≡ most_threads
  record_long = length-list_of most_threads (λ t. cond (ltb t n) (p t) 0)

  below_n : (t : ℕ) → t < n → places_in (record_of n p).places t ≡ p t
  below_n t l = entry_of n p t (omega arith) ∙ cond_yes (ltb t n) (p t) 0 (lt→ltb t n l)

  from_n : (t : ℕ) → n ≤ t → t < most_threads → places_in (record_of n p).places t ≡ 0
  from_n t l m = entry_of n p t m ∙ cond_no (ltb t n) (p t) 0 (not_i (ltb t n) (λ u. let k = ltb→lt t n u in absurd (omega arith)))

  module _ (s : Shown n p) where
    pub record_holds : places_in (record_of n p).places ≡ p
    record_holds = fun_ext (λ t. ⊎_elim (below_n t) (λ l. beyond_n t l ∙ sym (s.rest t l)) (below? n t))
      where
        beyond_n : (t : ℕ) → n ≤ t → places_in (record_of n p).places t ≡ 0
        beyond_n t l = ⊎_elim (from_n t l) (beyond (record_of n p).places t record_long) (below? most_threads t)

    pub record_consistent : T (consistent (record_of n p))
    record_consistent =
        consistent_i (record_of n p)
        (record {
          shared = ap (λ (q : Places). how_many_at n q 2) (sym record_holds);
          exclusive = ap (λ (q : Places). how_many_at n q 6) (sym record_holds);
          rest = from_n;
          rounds = subst (InRounds n) (sym record_holds) s.rounds;
        })

-- and a consistent record holds such places
pub shown_by : (w : Watcher) → length w.places ≡ most_threads → Consistent w → Shown w.threads (places_in w.places)
shown_by w long c =
    record {
      rounds = c.rounds;
      rest = λ t l. ⊎_elim (c.rest t l) (beyond w.places t long) (below? most_threads t);
    }
