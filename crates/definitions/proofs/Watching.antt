-- Examples of 02 §2, the watcher, against the definitions: a watch of two threads with bad events among the good ones, the question, and records that are turned down. Every line computes.
use Prim.Native.Nat.{ℕ}
use mathlib.Core.Bool.{true, false}
use mathlib.Core.List.{[], ◌∷◌}
use mathlib.Core.Path.{◌≡◌, refl}
use lib.ListN.{replicate}
use Rattle.definitions.specs.Answers.{Reply, accepted, refused, answered}
use Rattle.definitions.specs.PlainLock.{Pair}
use Rattle.definitions.specs.Threads.{every, some, how_many, among, all_of, list_of}
use Rattle.definitions.specs.Watch.{started, places_fit, consistent, start_reply, start_record, event_reply, event_record, question_reply, watch_replies, watch_record}
use Rattle.definitions.specs.declared.Watcher.{Watcher}

-- a thread's event
abbrev of : ℕ → ℕ → Pair
of thread event = record { thread = thread; event = event }

abbrev yes : Reply (Unit {0})
yes = accepted tt

abbrev no : ℕ → Reply (Unit {0})
no number = refused number 0

-- a record of two threads, given its totals, its two places and the first entry behind them
abbrev two : ℕ → ℕ → ℕ → ℕ → ℕ → Watcher
two shared exclusive a b c = record { threads = 2; shared = shared; exclusive = exclusive; places = a ∷ b ∷ c ∷ replicate 197 0 }

pub record WatchingExamples : Type 0 where
  -- a reader goes in, so that the writer's return is refused; "A bad event leaves the record as found, and the watch goes on from there."
  pub watch : watch_replies (started 2) (of 0 1 ∷ of 0 2 ∷ of 1 5 ∷ of 1 6 ∷ of 0 2 ∷ of 2 1 ∷ of 0 3 ∷ of 1 6 ∷ []) ≡ yes ∷ yes ∷ yes ∷ no 11 ∷ no 10 ∷ no 9 ∷ yes ∷ yes ∷ []
  pub left : watch_record (started 2) (of 0 1 ∷ of 0 2 ∷ of 1 5 ∷ of 1 6 ∷ of 0 2 ∷ of 2 1 ∷ of 0 3 ∷ of 1 6 ∷ []) ≡ two 0 1 3 6 0
  -- 1 for a bad N, and the record stays
  pub bad-start : (start_reply 0 ≡ no 1) × (start_reply 201 ≡ no 1) × (start_record 201 (two 1 1 4 4 4) ≡ two 1 1 4 4 4)
  pub good_start : (start_reply 200 ≡ yes) × (start_record 200 (two 1 1 4 4 4) ≡ started 200)
  -- "'Is anybody inside?' is yes exactly when a total isn't 0"
  pub nobody : question_reply (two 0 0 1 7 0) ≡ accepted false
  pub reader : question_reply (two 1 0 2 5 0) ≡ accepted true
  pub writer : question_reply (two 0 1 3 6 0) ≡ accepted true
  -- "A record with a false total, an entry from N upward that isn't 0, or places that the plain lock never shows, is turned down, by the question too."
  pub false-total : (question_reply (two 0 0 2 5 0) ≡ refused 13 0) × (question_reply (two 0 1 0 0 0) ≡ refused 13 0)
  pub behind : question_reply (two 0 0 0 0 1) ≡ refused 13 0
  pub no_place : (question_reply (two 0 0 4 0 0) ≡ refused 13 0) × (question_reply (two 0 0 0 8 0) ≡ refused 13 0)
  pub two_writers : question_reply (two 0 2 6 6 0) ≡ refused 13 0
  pub both : question_reply (two 1 1 2 6 0) ≡ refused 13 0
  -- "13 .. tested after 1 and before 9"
  pub order : (event_reply (record { threads = 0; shared = 1; exclusive = 0; places = replicate 200 0 }) (of 0 1) ≡ no 1) × (event_reply (two 0 0 4 0 0) (of 7 9) ≡ no 13)

pub watching_examples : WatchingExamples
unfolding answered every some how_many among all_of list_of places_fit consistent start_reply start_record event_reply event_record question_reply watch_replies watch_record
watching_examples =
    record {
      watch = refl;
      left = refl;
      bad-start = (refl, refl, refl);
      good_start = (refl, refl);
      nobody = refl;
      reader = refl;
      writer = refl;
      false-total = (refl, refl);
      behind = refl;
      no_place = (refl, refl);
      two_writers = refl;
      both = refl;
      order = (refl, refl);
    }
