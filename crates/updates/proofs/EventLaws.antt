-- An event put to a record that passed its tests: where its thread stands is what the record's places tell (`counted`), and what the verdict of the plain counts changes is right (`bad`, `fits`).
use Prim.Native.Nat.{ℕ, ◌≤◌}
use native.Mathlib.Omega.{arith}
use mathlib.Core.List.{List, [], ◌∷◌}
use mathlib.Core.Logic.{⊎_elim}
use mathlib.Core.Path.{◌≡◌, refl, sym, subst, ap, ◌∙◌}
use lib.Dec.{leb, leb→le, lit<}
use lib.ListN.{length, set, length-set, get_or-eq_default}
use lib.Seq.{set-get_or}
use Rattle.std.proofs.Common.{T, Result, Ok, Err, MatchResult}
use Rattle.definitions.specs.Answers.{accepted, refused, number_of, Reply, test, answered, leaves, passes_all}
use Rattle.definitions.specs.Bounds.{most_threads}
use Rattle.definitions.specs.PlainLock.{Pair, Places, places_in, place_after, advanced, pair_tests}
use Rattle.definitions.specs.Table.{count_fits}
use Rattle.definitions.specs.Watch.{record_of, consistent, record_tests, event_reply, event_record}
use Rattle.definitions.specs.declared.Refusal.{Refusal}
use Rattle.definitions.specs.declared.Watcher.{Watcher}
use Rattle.plain_lock.specs.Counts.{total_at, standing_of, Counted}
use Rattle.plain_lock.specs.declared.Standing.{Standing}
use Rattle.basics.proofs.Replies.{peel, behind, all-passed}
use Rattle.basics.proofs.TestLists.{other_answer}
use Rattle.basics.proofs.Tests.{and_r, below?}
use Rattle.basics.proofs.Columns.{update_other}
use Rattle.plain_lock.proofs.PlainLaws.{places_in-set}
use Rattle.plain_lock.proofs.StandingLaws.{few-inside, is_counted, same-standing}
use Rattle.plain_lock.proofs.VerdictLaws.{VerdictOf, Fit, bad_verdict, fit_verdict}
use Rattle.updates.specs.Updates.{standing_in, changed, kept, Updates}
use Rattle.consistency.proofs.RecordLaws.{round_e, Consistent, consistent_e, same_record, entries_are}

-- past the entries a place is 0
pub beyond : (entries : List ℕ) (t : ℕ) → length entries ≡ most_threads → most_threads ≤ t → places_in entries t ≡ 0
beyond entries t long l = get_or-eq_default entries 0 (omega arith)

-- one that is refused leaves the record: the first entry and the totals are put back
pub refuses : (w : Watcher) (x : Pair) (r : Refusal) → refused (number_of r) 0 ≡ event_reply w x → Updates w x (kept w r)
unfolding event_record
refuses w x r e = record {
  entry = lit< tt;
  reply = e;
  left =
      ap (λ (entries : List ℕ). record { threads = w.threads; shared = w.shared; exclusive = w.exclusive; places = entries }) (set-get_or w.places 0 0)
      ∙ ap (λ (a : Reply (Unit {0})). leaves a (record_of w.threads (advanced (places_in w.places) x)) w) e;
}

module _ (w : Watcher) (thread event : ℕ) (long : length w.places ≡ most_threads) (passed : T (passes_all (record_tests w))) (s : Standing) (stands : s ≡ standing_in w thread) where
  abbrev x : Pair
  x = record { thread = thread; event = event }

  abbrev n : ℕ
  n = w.threads

  abbrev p : Places
  p = places_in w.places

  few : n ≤ most_threads
  few = leb→le n most_threads (and_r (leb 1 n) (leb n most_threads) (peel (test 1 (count_fits n)) (test 13 (consistent w) ∷ []) passed).0)

  sure : Consistent w
  sure = consistent_e w (peel (test 13 (consistent w)) [] (peel (test 1 (count_fits n)) (test 13 (consistent w) ∷ []) passed).1).0

  standing_is : s ≡ standing_of n p thread
  standing_is = stands ∙ same-standing refl (rw (sure.shared, sure.exclusive))

  -- every place is one of a round
  no_4 : p thread ≡ 4 → ⊥
  no_4 e =
      ⊎_elim (λ l. (round_e (p thread) (sure.rounds.round thread l)).1 e)
      (λ l. let z : p thread ≡ 0 = ⊎_elim (λ m. sure.rest thread l m) (λ m. beyond w.places thread long m) (below? most_threads thread) in absurd (omega arith))
      (below? n thread)

  pub counted : Counted n thread s
  counted = subst (Counted n thread) (sym standing_is) (is_counted n p few thread no_4)

  -- what is answered is what the event's own tests answer
  by-event : {r : Reply (Unit {0})} → answered (pair_tests n p 0 x) tt ≡ r → event_reply w x ≡ r
  unfolding event_reply
  by-event e = behind tt (record_tests w) (pair_tests n p 0 x) passed ∙ e

  -- a bad event is refused
  bad_reply : (r : Refusal) → VerdictOf n x s (Err r) → refused (number_of r) 0 ≡ event_reply w x
  bad_reply r judged = sym (by-event (other_answer tt (pair_tests n p 0 x) _ (number_of r) 0 (bad_verdict n p x few s standing_is (Err r) r refl judged 0)))

  -- and leaves the record
  pub bad : (r : Refusal) → VerdictOf n x s (Err r) → Updates w x (kept w r)
  bad r judged = refuses w x r (bad_reply r judged)

  -- one that fits is accepted and leaves the record of the places after it
  module _ (z : Standing) (judged : VerdictOf n x s (Ok z)) where
    fit : Fit n p x few s standing_is z 0
    fit = fit_verdict n p x few s standing_is (Ok z) z refl judged 0

    reply : accepted tt ≡ event_reply w x
    reply = sym (by-event (all-passed tt (pair_tests n p 0 x) fit.passes))

    entries : set w.places thread z.place ≡ (record_of n (advanced p x)).places
    entries =
        let at : places_in (set w.places thread z.place) ≡ advanced p x = rw fit.placed (places_in-set w.places x (omega (arith, few, fit.below))) in
        entries_are n (advanced p x) (set w.places thread z.place) (length-set w.places thread z.place ∙ long)
        (λ t l. ap (λ (q : Places). q t) at)
        (λ t least most. ap (λ (q : Places). q t) at
        ∙ (update_other p thread (place_after event) t (λ e. omega (arith, fit.below)) ∙ sure.rest t least most))

    -- the total is that of two bytes
    inside : z.inside ≡ total_at n (advanced p x)
    inside = ap (λ (y : Standing). y.inside) fit.after

    fits : Updates w x (changed thread z)
    unfolding event_record
    fits =
        let readers = few-inside n (advanced p x) 2 in
        let writers = few-inside n (advanced p x) 6 in
        record {
          entry = omega (arith, few, fit.below);
          reply = reply;
          left =
              same_record refl (omega (arith, few, inside)) (omega (arith, few, inside)) entries
              ∙ ap (λ (a : Reply (Unit {0})). leaves a (record_of n (advanced p x)) w) reply;
        }

  -- what is answered is right
  pub judged_right : (v : Result Standing Refusal) → VerdictOf n x s v → MatchResult v (λ z. Updates w x (changed thread z)) (λ r. refused (number_of r) 0 ≡ event_reply w x)
  judged_right (Ok z) judged = fits z judged
  judged_right (Err r) judged = bad_reply r judged
