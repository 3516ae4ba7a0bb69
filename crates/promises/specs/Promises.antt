-- Everything that is promised and proved of the part: a record for each thing that is promised, in the order of the three demands, then of the watcher (02 §2), of scripts written out and
-- read (02 §3), of the length of a plan (02 §4), of retries, progress and every arrow (02 §7), and of the dispatcher (02 §8).
-- The lines of a record stand in the specs/ of the crate that proves them, in the file of the record's name, with a sentence before each; the crate's proofs/Citations.antt proves them by citing.
-- Their words are those of crates/definitions/specs and of the files that the record cites. `M` is any model of memory, of which the contracts of functions speak.
use Rattle.answer_numbers.specs.NumbersTold.{NumbersTold}
use Rattle.arrows.specs.ArrowsTaken.{ArrowsTaken}
use Rattle.completeness.specs.SoundReached.{SoundReached}
use Rattle.dispatched_orders.specs.HostAndTurns.{HostAndTurns}
use Rattle.dispatching.specs.TurnsAndWaiting.{TurnsAndWaiting}
use Rattle.forms.specs.ReadAsSpelled.{ReadAsSpelled}
use Rattle.orders.specs.EveryOrder.{EveryOrder}
use Rattle.plan_lengths.specs.RoundsAndBounds.{RoundsAndBounds}
use Rattle.printout.specs.ProgramRooms.{ProgramRooms}
use Rattle.progress.specs.RetriesAndProgress.{RetriesAndProgress}
use Rattle.round_trips.specs.ScriptRooms.{ScriptRooms}
use Rattle.round_trips.specs.WrittenAndRead.{WrittenAndRead}
use Rattle.runs.specs.PrintedRun.{PrintedRun}
use Rattle.runs.specs.RunRooms.{RunRooms}
use Rattle.soundness.specs.PassDecides.{PassDecides}
use Rattle.theory.specs.EachMove.{EachMove}
use Rattle.theory.specs.PlanCounted.{PlanCounted}
use Rattle.theory.specs.TableEntries.{TableEntries}
use Rattle.turn_limit.specs.WaitingComes.{WaitingComes}
use Rattle.watching.specs.EveryEvent.{EveryEvent}
use Rattle.promises.specs.Entries.{Entries}

pub record Promises (M : Type 1) : Type 2 where
  -- ---- 1. Nothing breaks an entry

  -- Each entry may be called with any numbers and any lent bytes, and its contract says what it answers and what it leaves in every lent byte, refused or not (promises/specs/Entries).
  -- The same for the program's printing.
  pub entries : Entries M
  -- The number that an entry answers tells its reply, and where it accepts its value has 32 bits (answer_numbers/specs/NumbersTold).
  pub numbers_told : NumbersTold
  -- A refused move leaves every byte of the table. Which outputs have room for a fresh table, the nodes and the open moves (theory/specs/TableEntries).
  pub table-entries : TableEntries
  -- 65,536 bytes have room for what any run prints (runs/specs/RunRooms).
  pub run_rooms : RunRooms
  -- Which outputs have room for every script that is read and for every one that is written (round_trips/specs/ScriptRooms).
  pub script_rooms : ScriptRooms
  -- What the program prints fits its buffer, and what it reads decides it (printout/specs/ProgramRooms).
  pub program_rooms : ProgramRooms
  -- Reading a line is the inverse of spelling it (forms/specs/ReadAsSpelled).
  pub read_as_spelled : ReadAsSpelled
  -- ---- 2. Each move is the protocol's

  -- A move is one step on the record of the table, whatever stores it. It keeps a sound table sound, follows Figure 1 and writes only what it may; the open moves are those that are accepted
  -- (theory/specs/EachMove).
  pub each-move : EachMove
  -- The sound tables are exactly those that accepted requests leave from a fresh one, and so an entry refuses a table by 2 exactly if none leave it (completeness/specs/SoundReached).
  pub sound-reached : SoundReached
  -- The soundness test, one pass over the threads, decides what `sound` says (soundness/specs/PassDecides).
  pub pass_decides : PassDecides
  -- ---- 3. Every order

  -- What requests show is permitted by the plain lock, in any order and from any sound table; what is permitted is shown by requests, and the plan is such a list. So the check and the plan
  -- entry answer, and the events that a run prints are permitted (orders/specs/EveryOrder).
  pub every_order : EveryOrder
  -- A run prints the events of the moves that it made, then one last line, and answers how many of them were retries (runs/specs/PrintedRun).
  pub printed-run : PrintedRun
  -- ---- 4. The watcher

  -- The watcher judges each event as the plain lock does behind the events accepted so far; what requests show is accepted throughout; 13 is exact, and so is the answer to "Is anybody inside?"
  -- (watching/specs/EveryEvent).
  pub every-event : EveryEvent
  -- ---- 5. Scripts written out and read

  -- Writing and reading are inverse to each other, reading refuses the lines that a run would for form and numbers, and a plan that is written and run prints its history
  -- (round_trips/specs/WrittenAndRead).
  pub written_and_read : WrittenAndRead
  -- ---- 6. How long the plan will be

  -- The length that is answered is the number of moves that the plan entry answers, and what the check refuses is refused alike (theory/specs/PlanCounted).
  pub plan-counted : PlanCounted
  -- A full round takes 7 moves or 3N + 6, and no plan has more than 4,575,100 moves, which one has (plan_lengths/specs/RoundsAndBounds).
  pub rounds_and_bounds : RoundsAndBounds
  -- ---- 7. Retries, progress and every arrow

  -- An accepted move says whether it was a retry. Accepted moves without calls and retries are at most N × (3N + 5), which is reached; no table stands still (progress/specs/RetriesAndProgress).
  pub retries_and_progress : RetriesAndProgress
  -- A thread can take an arrow of Figure 1, after moves that keep every thread in its node, exactly if the arrow's condition holds for it (arrows/specs/ArrowsTaken).
  pub arrows_taken : ArrowsTaken
  -- ---- 8. The dispatcher

  -- A turn makes an accepted move of the lowest thread that has one, or by any other choice of one that has. It says waiting exactly if none has, and what is then known of the table
  -- (dispatching/specs/TurnsAndWaiting).
  pub turns_and_waiting : TurnsAndWaiting
  -- Waiting comes after at most 6N - 2 turns, which are reached, in any order of such moves and for any rule of choice (turn_limit/specs/WaitingComes).
  pub waiting_comes : WaitingComes
  -- Requests of the host and turns, in any order and by any choice, show what is permitted (dispatched_orders/specs/HostAndTurns).
  pub host_and_turns : HostAndTurns
