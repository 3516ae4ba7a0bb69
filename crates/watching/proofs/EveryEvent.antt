-- What is shown of the watcher of 02 §2, for every N of 1 to 200 and lists of events of any length, with any numbers: the verdict on each event is the plain lock's on the events
-- accepted so far with it added, and the record left is that of the accepted ones (`verdict`); they are permitted, and an event is accepted exactly if it is permitted behind them
-- (`kept-permitted`, `accepted_exactly`, `accepted_throughout`); 13 is exact (`consistent_exactly`); "Is anybody inside?" (`inside-counted`, `inside_watched`); and the link to the lock
-- (`lock_watched`, `lock_record`). `event_reply`, `event_record`, `started`, `consistent` and `question_reply` are the definitions that the promises of the three entries cite;
-- `verdicts_on`, `accepted_of` and `some_inside` stand in specs/Verdicts. Here are the statements, each with a short proof from the other files of this folder.
use Prim.Native.Nat.{ℕ, ◌≤◌}
use mathlib.Core.Bool.{Bool, not}
use mathlib.Core.List.{List, [], ◌∷◌, ◌++◌}
use mathlib.Core.Logic.{◌↔◌}
use mathlib.Core.Path.{◌≡◌, sym, subst, ap, ◌∙◌}
use lib.Dec.{T, eqb}
use lib.ListN.{length, replicate}
use Rattle.definitions.specs.Answers.{accepted, is_accepted}
use Rattle.definitions.specs.Bounds.{most_threads}
use Rattle.definitions.specs.Chains.{history, table_after}
use Rattle.definitions.specs.PlainLock.{Pair, places_in, at_start, places_after, permitted}
use Rattle.definitions.specs.Phases.{rows}
use Rattle.definitions.specs.Table.{fresh_table, table_of, fresh}
use Rattle.definitions.specs.Threads.{how_many, among}
use Rattle.definitions.specs.Watch.{record_of, started, consistent, question_reply, watch_replies, watch_record}
use Rattle.definitions.specs.declared.Request.{Request}
use Rattle.definitions.specs.declared.Watcher.{Watcher}
use Rattle.orders.specs.Histories.{history_bytes, AllBytes}
use Rattle.orders.specs.Rounds.{place_of, places_of}
use Rattle.watching.specs.Verdicts.{verdict_on, verdicts_on, accepted_of, some_inside}
use Rattle.plain_lock.specs.Permitted.{permitted_from}
use Rattle.basics.proofs.Quantifiers.{some-how_many}
use Rattle.plain_lock.proofs.PlainLaws.{permitted_is}
use Rattle.theory.proofs.Chains.{history-fresh, after_fresh}
use Rattle.orders.proofs.EveryOrder.{safe}
use Rattle.orders.proofs.HistoryBytes.{all-bytes}
use Rattle.orders.proofs.Safety.{shown_places}
use Rattle.theory.proofs.Stages.{fresh-fits}
use Rattle.consistency.proofs.RecordLaws.{consistent_e, is_record}
use Rattle.watching.proofs.EventSteps.{shown, all-permitted, all_answers, all_leave, one_permitted, whole-accepted, accepted-whole}
use Rattle.watching.proofs.Questions.{inside_is, question_of, question_answered}
use Rattle.watching.proofs.Reaching.{reached}
use Rattle.watching.proofs.ShownPlaces.{start_is, shown_by, record_consistent}

module _ (n : ℕ) (least : 1 ≤ n) (most : n ≤ most_threads) where
  nothing_yet : T (permitted_from n at_start [])
  unfolding permitted_from
  nothing_yet = tt

  -- ---- 1. The verdict

  -- From the start record, whatever events come, bad ones among them: each is answered as the plain lock's rules answer it behind the events accepted so far,
  -- and the record left is that of the accepted events.
  pub verdict : (xs : List Pair)
      → (watch_replies (started n) xs ≡ verdicts_on n [] xs)
      × (watch_record (started n) xs ≡ record_of n (places_after at_start (accepted_of n [] xs)))
  unfolding places_after
  verdict xs = (
    ap (λ (w : Watcher). watch_replies w xs) (start_is n) ∙ all_answers n least most [] xs nothing_yet,
    ap (λ (w : Watcher). watch_record w xs) (start_is n) ∙ all_leave n least most [] xs nothing_yet,
  )

  -- The events accepted so far are permitted, and the next one is accepted exactly if it is permitted behind them.
  pub kept-permitted : (xs : List Pair) → T (permitted n (accepted_of n [] xs))
  kept-permitted xs = subst T (sym (permitted_is n (accepted_of n [] xs))) (all-permitted n least most [] xs nothing_yet)

  pub accepted_exactly : (xs : List Pair) (x : Pair) → is_accepted (verdict_on n (accepted_of n [] xs) x) ≡ permitted n (accepted_of n [] xs ++ (x ∷ []))
  accepted_exactly xs x =
      let h = accepted_of n [] xs in
      sym (one_permitted n least most h (all-permitted n least most [] xs nothing_yet) x) ∙ sym (permitted_is n (h ++ (x ∷ [])))

  -- So a list of events is accepted throughout if and only if it is permitted.
  pub accepted_throughout : (h : List Pair) → T (permitted n h) ↔ (watch_replies (started n) h ≡ replicate (length h) (accepted tt))
  accepted_throughout h = (
    λ t. (verdict h).0 ∙ (whole-accepted n least most [] h (subst T (permitted_is n h) t)).0,
    λ e. subst T (sym (permitted_is n h)) (accepted-whole n least most [] h nothing_yet (sym (verdict h).0 ∙ e)),
  )

  -- the record that a permitted list leaves
  whole_record : (h : List Pair) → T (permitted_from n at_start h) → watch_record (started n) h ≡ record_of n (places_after at_start h)
  whole_record h t = (verdict h).1 ∙ ap (λ (k : List Pair). record_of n (places_after at_start k)) (whole-accepted n least most [] h t).1

  -- ---- 2. The lock

  -- Whatever requests are made to a fresh table, the events that they show are all accepted by a watcher for the same N.
  pub lock_watched : (rs : List Request)
      → (watch_replies (started n) (history (fresh n) rs) ≡ replicate (length (history (fresh n) rs)) (accepted tt))
      × (watch_record (started n) (history (fresh n) rs) ≡ record_of n (places_after at_start (history (fresh n) rs)))
  lock_watched rs =
      let h = history (fresh n) rs in
      let t = safe n least most rs in
      ((accepted_throughout h).0 t, whole_record h (subst T (permitted_is n h) t))

  -- And the record left is that of the places at which the table's nodes have the threads.
  pub lock_record : (rs : List Request) → watch_record (started n) (history (fresh n) rs) ≡ record_of n (places_of (table_of (table_after (fresh n) rs)))
  unfolding place_of rows
  lock_record rs =
      (lock_watched rs).1
      ∙ ap (record_of n)
      (ap (places_after at_start) (history-fresh n least most rs)
      ∙ (shown_places (fresh_table n) rs (fresh-fits n least) ∙ ap places_of (sym (after_fresh n least most rs))))

  -- ---- 3. "Is anybody inside?"

  -- After any events it is answered, and yes exactly if some thread is inside after the accepted ones.
  pub inside_watched : (xs : List Pair) → question_reply (watch_record (started n) xs) ≡ accepted (some_inside n (places_after at_start (accepted_of n [] xs)))
  inside_watched xs =
      let h = accepted_of n [] xs in
      let permits = all-permitted n least most [] xs nothing_yet in
      ap question_reply (verdict xs).1 ∙ (question_of n least most h permits ∙ ap accepted (inside_is n (places_after at_start h)))

-- Of any record that it is answered for, it is yes exactly if the count of the threads that are inside isn't 0, and so if some thread is.
pub inside-counted : (w : Watcher) (b : Bool) → question_reply w ≡ accepted b
    → (b ≡ not (eqb (how_many w.threads (λ t. among (places_in w.places t) (2 ∷ 6 ∷ []))) 0)) × (b ≡ some_inside w.threads (places_in w.places))
inside-counted w b e =
    let i = question_answered w b e ∙ inside_is w.threads (places_in w.places) in
    (i ∙ some-how_many (λ t. among (places_in w.places t) (2 ∷ 6 ∷ [])) w.threads, i)

-- ---- 4. 13 is exact

-- A record for 1 to 200 threads is consistent if and only if some list of events leaves it; the events of such a list are bytes.
pub consistent_exactly : (w : Watcher) → length w.places ≡ most_threads → 1 ≤ w.threads → w.threads ≤ most_threads
    → T (consistent w) ↔ ((xs : List Pair) × AllBytes (history_bytes xs) × (watch_record (started w.threads) xs ≡ w))
consistent_exactly w long least most = (
  λ t.
      let c = consistent_e w t in
      let a = reached w.threads (places_in w.places) (shown_by w long c) in (
        a.events,
        all-bytes w.threads at_start a.events most a.permits,
        whole_record w.threads least most a.events a.permits ∙ (ap (record_of w.threads) a.arrives ∙ sym (is_record w long c)),
      ),
  λ left.
      subst (λ (k : Watcher). T (consistent k)) (sym (verdict w.threads least most left.0).1 ∙ left.2)
      (record_consistent w.threads _ most (shown w.threads least most _ (all-permitted w.threads least most [] left.0 (nothing_yet w.threads least most)))),
)
