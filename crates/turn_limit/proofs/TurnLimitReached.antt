-- The limit on turns is reached (02 §8): for every N of 1 to 200 there is a table, sound and left by accepted moves from the fresh table, from which waiting comes after exactly 6N - 2 turns.
-- In it the threads are served in order (InOrder), so that no turns are left (TurnsLeft) when it waits. For one thread it is that with the thread in 9, for more that of LongestTable.
use Prim.Native.Nat.{ℕ, ◌≤◌}
use native.Mathlib.Omega.{arith}
use mathlib.Core.Bool.{not}
use mathlib.Core.List.{List}
use mathlib.Core.Logic.{⊎_elim}
use mathlib.Core.Path.{◌≡◌, refl, sym, subst, ap, ◌∙◌}
use lib.Dec.{T}
use Rattle.definitions.specs.Bounds.{most_threads, no_target}
use Rattle.definitions.specs.Dispatch.{mover_in, chosen, is_waiting, dispatch_table}
use Rattle.definitions.specs.Phases.{rows}
use Rattle.definitions.specs.Sound.{sound}
use Rattle.definitions.specs.Table.{Table, table_of, sized, byte_table}
use Rattle.definitions.specs.Threads.{some, how_many}
use Rattle.completeness.proofs.Completeness.{complete}
use Rattle.dispatching.proofs.Choice.{chosen_may}
use Rattle.dispatching.proofs.TurnReplies.{moves}
use Rattle.progress.specs.Progress.{all_called}
use Rattle.progress.proofs.CalledTable.{called_table, called_table_lem, called_sized, called_sound}
use Rattle.progress.proofs.Measure.{alone, part, total}
use Rattle.progress.proofs.ThreadBytes.{bytes-table, bytes-sized}
use Rattle.theory.specs.Tables.{SoundBytes}
use Rattle.basics.proofs.Tests.{same?}
use Rattle.theory.proofs.Bytes.{byte_keeps}
use Rattle.theory.proofs.Soundness.{sound_e}
use Rattle.theory.proofs.Storages.{table_step}
use Rattle.turn_limit.specs.TurnLimit.{most_turns, dispatcher_in, WaitsAfter, TurnsReached}
use Rattle.turn_limit.proofs.InOrder.{InOrder, none_shared, mover_low, in_order_kept}
use Rattle.turn_limit.proofs.LongestTable.{longest_bytes, longest_table, longest-sound, longest_in_order, longest-left}
use Rattle.turn_limit.proofs.OneRequest.{Passes, bytes-pass}
use Rattle.turn_limit.proofs.Stops.{stop}
use Rattle.turn_limit.proofs.TurnsLeft.{turns_left}
use Rattle.turn_limit.proofs.TurnLimit.{by-lowest}
use Rattle.turn_limit.proofs.Turns.{exactly}

-- served in order, a table waits after as many turns as it has left
all-turns : (w : ℕ) (table : List ℕ) → SoundBytes table → InOrder w (table_of table) → WaitsAfter table (turns_left (table_of table))
all-turns w table g o =
    exactly (dispatcher_in byte_table) table_of (Passes byte_table) (by-lowest byte_table byte_keeps) (λ b. InOrder w (table_of b)) kept
    (λ b h. none_shared w (table_of b) (sound_e (table_of b) h.is_sound)) table (bytes-pass table g) o
  where
    kept : (b : List ℕ) → Passes byte_table b → T (not (is_waiting (table_of b))) → InOrder w (table_of b) → InOrder w (table_of (dispatch_table b))
    kept b h t p =
        let s = table_of b in
        let z = sound_e s h.is_sound in
        let left = ap table_of (moves mover_in byte_table b h.fits h.is_sound t).1 ∙ table_step byte_table byte_keeps b (chosen s) h.fits in
        subst (InOrder w) (sym left) (in_order_kept w s z p (chosen s) (chosen_may s z t) (mover_low w s z p))

-- by the record that is read off a table
by_record : (table : List ℕ) (s : Table) → table_of table ≡ s → 1 ≤ s.threads → s.threads ≤ most_threads → T (sized table) → T (sound s) → (w : ℕ) → InOrder w s → turns_left s ≡ most_turns s.threads
    → TurnsReached s.threads
by_record table s same least most fits is_sound w in_order left =
    let passes : SoundBytes table = record { is_sized = fits; is_sound = subst (λ (x : Table). T (sound x)) (sym same) is_sound } in
    record {
      table = table;
      passes = passes;
      reached = (complete s.threads least most table).0 (fits, ap (λ (x : Table). x.threads) same, passes.is_sound);
      turns = subst (WaitsAfter table) (ap turns_left same ∙ left) (all-turns w table passes (subst (InOrder w) (sym same) in_order));
    }

-- one thread, in 9
one_reached : TurnsReached 1
unfolding total part alone rows stop some how_many
one_reached =
    by_record (all_called 1) (called_table 1) (called_table_lem 1) (omega arith) (omega arith) (called_sized 1 (omega arith) (omega arith)) (called_sound 1 (omega arith)) 0
    record { fits = omega arith; below = λ j l. absurd (omega arith); here = tt; above = λ j k l. absurd (omega arith); begun = λ j k l early. absurd (omega arith) } refl

-- more threads
more_reached : (n : ℕ) → 2 ≤ n → n ≤ most_threads → TurnsReached n
more_reached n two most =
    by_record (longest_bytes n) (longest_table n) (bytes-table n 1 no_target _ _ _) (omega arith) most (bytes-sized n 1 no_target _ _ _ (omega arith) most) (longest-sound n two) 1
    (longest_in_order n two) (longest-left n two)

pub turn-limit-reached : (n : ℕ) → 1 ≤ n → n ≤ most_threads → TurnsReached n
turn-limit-reached n least most = ⊎_elim (λ e. subst TurnsReached (sym e) one_reached) (λ h. more_reached n (omega arith) most) (same? n 1)
