-- Where an event's thread stands, and what an event changes of a record, as a value.
use Rattle.std.specs.Prelude.{Result, Ok, Err, MatchResult, ℕ, ◌/◌, ◌%◌, ◌<◌, ◌≡◌, set}
use Rattle.definitions.specs.Answers.{number_of, refused}
use Rattle.definitions.specs.Bounds.{most_threads}
use Rattle.definitions.specs.PlainLock.{Pair, places_in}
use Rattle.definitions.specs.Watch.{watched_reply, event_reply, event_record}
use Rattle.definitions.specs.declared.Refusal.{Refusal}
use Rattle.definitions.specs.declared.Watcher.{Watcher}
use Rattle.plain_lock.specs.Counts.{writer, total}
use Rattle.plain_lock.specs.declared.Standing.{Standing}
use Rattle.updates.specs.declared.Update.{Update}

-- a thread at its place, with the totals of a record
abbrev pub standing_in : Watcher → ℕ → Standing
standing_in w thread = record { place = places_in w.places thread; inside = total w.shared w.exclusive }

-- ---- what an event changes

-- of one that fits: its thread's entry, and the totals that it left
abbrev pub changed : ℕ → Standing → Update
changed at after = record { at = at; place = after.place; shared = after.inside % writer; exclusive = after.inside / writer % writer; answer = Ok tt }

-- of one that is turned down: the first entry and the totals, as they stand
abbrev pub kept : Watcher → Refusal → Update
kept w refusal = record { at = 0; place = places_in w.places 0; shared = w.shared; exclusive = w.exclusive; answer = Err refusal }

-- the record in which an entry and the two totals are stored, and a change
abbrev pub stored_in : Watcher → ℕ → ℕ → ℕ → ℕ → Watcher
stored_in w at place shared exclusive = record { threads = w.threads; shared = shared; exclusive = exclusive; places = set w.places at place }

abbrev pub updated : Watcher → Update → Watcher
updated w u = stored_in w u.at u.place u.shared u.exclusive

-- what is right for an event: its entry is one of the record's, the answer is the event's, and stored it leaves the event's record
pub record Updates (w : Watcher) (x : Pair) (u : Update) : Type 0 where
  pub entry : u.at < most_threads
  pub reply : watched_reply u.answer ≡ event_reply w x
  pub left : updated w u ≡ event_record w x

-- what is right to answer an event: such a change, or the event's refusal
abbrev pub Judged : Watcher → Pair → Result Update Refusal → Type 0
Judged w x r = MatchResult r (Updates w x) (λ why. refused (number_of why) 0 ≡ event_reply w x)
