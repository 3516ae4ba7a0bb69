-- The soundness test by one pass: what is found of the threads, and what is decided from it.
-- First the pass: `found_of s i` is what is found of the threads below i, each field a word on those threads.
-- Then `sound_by`, the decision from what was found of all threads, the head and the task that the target names.
-- That it is the decision of `sound` stands in proofs/OnePass.
use Rattle.std.specs.Prelude.{ℕ, Option, Some, None, Bool, false, cond, ◌&&◌, leb, ltb, eqb}
use Rattle.definitions.specs.Bounds.{last_phase, no_target}
use Rattle.definitions.specs.Phases.{busy_in, holds, reading}
use Rattle.definitions.specs.Sound.{backed_off}
use Rattle.definitions.specs.Table.{Table}
use Rattle.definitions.specs.Threads.{every, how_many, sum_of, between}
use Rattle.definitions.specs.declared.Head.{Head}
use Rattle.definitions.specs.declared.Task.{Task}
use Rattle.tallies.specs.declared.Tally.{Tally}
use Rattle.tallies.specs.Rules.{mutex_agrees, some_elsewhere, aim_fits, rest_fits}
use Rattle.theory.specs.Tables.{head_of, task_of}

-- ---- one thread

-- the rules that speak of one thread by itself: "phases are at most 17 and flags 0 or 1; busy is 1 exactly in phases 2, 3, 5, 6, 7"
abbrev pub thread_fits : ℕ → ℕ → ℕ → Bool
thread_fits phase busy forbidden = leb phase last_phase && (leb forbidden 1 && eqb busy (busy_in phase))

-- a thread with forbidden 1 in phases 5 to 7
abbrev pub forbidden_reader : ℕ → ℕ → Bool
forbidden_reader phase forbidden = eqb forbidden 1 && reading phase

-- a holder's phase, 0 for another thread
abbrev pub holder_phase : ℕ → ℕ
holder_phase phase = cond (holds phase) phase 0

-- ---- the pass

-- what is found of the threads below i, each of which passes the rules by itself
abbrev pub tally_below : Table → ℕ → Tally
tally_below s i =
    record {
      holder = sum_of i (λ j. holder_phase (s.phase j));
      forbidden = how_many i (λ j. eqb (s.forbidden j) 1);
      readers = how_many i (λ j. forbidden_reader (s.phase j) (s.forbidden j));
      backed_off = how_many i (λ j. backed_off (s.phase j));
    }

-- the threads below i pass them
abbrev pub fit_below : Table → ℕ → Bool
fit_below s i = every i (λ j. thread_fits (s.phase j) (s.busy j) (s.forbidden j))

-- what is found of the threads below i; None where one of them fails the rules by itself
unfoldable pub found_of : Table → ℕ → Option Tally
found_of s i = cond (fit_below s i) (Some (tally_below s i)) None

-- ---- the decision

-- the decision on threads that pass by themselves: the target is a thread where the holder is in 11 or 12, else 255
unfoldable pub sound_by : Tally → Head → Task → Bool
sound_by t head aim =
    mutex_agrees t head.mutex
    && some_elsewhere t head.threads
    && cond (between 11 12 t.holder) (ltb head.target head.threads && aim_fits t aim) (eqb head.target no_target && rest_fits t head.threads)

-- the thread that the target names, and thread 0 where it names none
abbrev pub aimed_at : Head → ℕ
aimed_at head = cond (ltb head.target head.threads) head.target 0

-- the whole decision
unfoldable pub passes : Table → Option Tally → Bool
passes s (Some t) = sound_by t (head_of s) (task_of s (aimed_at (head_of s)))
passes s None = false
