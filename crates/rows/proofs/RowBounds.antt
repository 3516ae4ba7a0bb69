-- A row is at most `one_bad`: a holder's phase is at most the last, and a flag adds one or nothing.
use Prim.Native.Nat.{ℕ, ◌≤◌}
use native.Mathlib.Omega.{arith}
use mathlib.Core.Bool.{Bool, true, false, cond}
use lib.Dec.{T, eqb}
use Rattle.definitions.specs.Bounds.{last_phase}
use Rattle.definitions.specs.Phases.{holds}
use Rattle.definitions.specs.Sound.{backed_off}
use Rattle.rows.specs.Rows.{one_bad, row_for, row_at}
use Rattle.soundness.specs.Pass.{thread_fits, forbidden_reader}
use Rattle.basics.proofs.Tests.{one_most}
use Rattle.theory.proofs.PhaseCases.{holder-phase}

phase-most : (b : Bool) (phase : ℕ) → (T b → phase ≤ last_phase) → cond b phase 0 ≤ last_phase
phase-most true phase h = h tt
phase-most false phase h = omega arith

either_most : (b : Bool) (row : ℕ) → row ≤ one_bad → cond b row one_bad ≤ one_bad
either_most true row h = h
either_most false row h = omega arith

pub thread-most : (phase busy forbidden : ℕ) → row_for phase busy forbidden ≤ one_bad
unfolding row_for
thread-most phase busy forbidden =
    either_most (thread_fits phase busy forbidden) _
    (omega (
      arith,
      phase-most (holds phase) phase (holder-phase phase),
      one_most (eqb forbidden 1),
      one_most (forbidden_reader phase forbidden),
      one_most (backed_off phase),
    ))

pub row-most : (state : ℕ) → row_at state ≤ one_bad
unfolding row_at
row-most state = thread-most _ _ _
