-- The watcher's verdict on every event is the plain lock's, and which records are left by events (02 §2).
use Rattle.std.specs.Prelude.{ℕ, ◌≤◌, Bool, not, List, [], ◌∷◌, ◌++◌, ◌↔◌, ◌≡◌, T, eqb, length, replicate}
use Rattle.definitions.specs.Answers.{accepted, is_accepted}
use Rattle.definitions.specs.Bounds.{most_threads}
use Rattle.definitions.specs.Chains.{history, table_after}
use Rattle.definitions.specs.PlainLock.{Pair, places_in, at_start, places_after, permitted}
use Rattle.definitions.specs.Table.{table_of, fresh}
use Rattle.definitions.specs.Threads.{how_many, among}
use Rattle.definitions.specs.Watch.{record_of, started, consistent, question_reply, watch_replies, watch_record}
use Rattle.definitions.specs.declared.Request.{Request}
use Rattle.definitions.specs.declared.Watcher.{Watcher}
use Rattle.orders.specs.Histories.{history_bytes, AllBytes}
use Rattle.orders.specs.Rounds.{places_of}
use Rattle.watching.specs.Verdicts.{verdict_on, verdicts_on, accepted_of, some_inside}

pub record EveryEvent : Type 0 where
  -- From the start record, whatever events come: each is answered as the plain lock's rules answer it behind the events accepted so far, and the record left is that of the accepted ones.
  pub watch_verdict : (n : ℕ) → 1 ≤ n → n ≤ most_threads → (xs : List Pair)
      → (watch_replies (started n) xs ≡ verdicts_on n [] xs) × (watch_record (started n) xs ≡ record_of n (places_after at_start (accepted_of n [] xs)))
  -- The accepted events are permitted, the next one is accepted exactly if it is permitted behind them, and so a list is accepted throughout exactly if it is permitted.
  pub watch_permitted : (n : ℕ) → 1 ≤ n → n ≤ most_threads → (xs : List Pair) → T (permitted n (accepted_of n [] xs))
  pub watch_exactly : (n : ℕ) → 1 ≤ n → n ≤ most_threads → (xs : List Pair) (x : Pair)
      → is_accepted (verdict_on n (accepted_of n [] xs) x) ≡ permitted n (accepted_of n [] xs ++ (x ∷ []))
  pub watch_throughout : (n : ℕ) → 1 ≤ n → n ≤ most_threads → (h : List Pair)
      → T (permitted n h) ↔ (watch_replies (started n) h ≡ replicate (length h) (accepted tt))
  -- What requests show from a fresh table is accepted throughout by a watcher for the same N, and leaves the record of the places that the table's nodes give.
  pub watch_lock : (n : ℕ) → 1 ≤ n → n ≤ most_threads → (rs : List Request) → let h = history (fresh n) rs in
      (watch_replies (started n) h ≡ replicate (length h) (accepted tt)) × (watch_record (started n) h ≡ record_of n (places_after at_start h))
  pub watch_record_lem : (n : ℕ) → 1 ≤ n → n ≤ most_threads → (rs : List Request)
      → watch_record (started n) (history (fresh n) rs) ≡ record_of n (places_of (table_of (table_after (fresh n) rs)))
  -- 13 is exact: a record for 1 to 200 threads is consistent if and only if some events, bytes all, leave it.
  pub watch_consistent : (w : Watcher) → length w.places ≡ most_threads → 1 ≤ w.threads → w.threads ≤ most_threads
      → T (consistent w) ↔ ((xs : List Pair) × AllBytes (history_bytes xs) × (watch_record (started w.threads) xs ≡ w))
  -- "Is anybody inside?" is yes exactly if a count of the threads that are inside isn't 0; in a watch it is always answered, and by the events accepted so far.
  pub watch_counted : (w : Watcher) (b : Bool) → question_reply w ≡ accepted b
      → (b ≡ not (eqb (how_many w.threads (λ t. among (places_in w.places t) (2 ∷ 6 ∷ []))) 0)) × (b ≡ some_inside w.threads (places_in w.places))
  pub watch_question : (n : ℕ) → 1 ≤ n → n ≤ most_threads → (xs : List Pair)
      → question_reply (watch_record (started n) xs) ≡ accepted (some_inside n (places_after at_start (accepted_of n [] xs)))
