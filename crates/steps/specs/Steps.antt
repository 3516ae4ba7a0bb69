-- What each step of a move leaves of what is seen.
use Rattle.std.specs.Prelude.{ℕ, Bool, cond}
use Rattle.definitions.specs.Table.{mutex≔, target≔}
use Rattle.definitions.specs.declared.Outcome.{Outcome}
use Rattle.definitions.specs.declared.Outcome.TheVariants.{Quiet, Retry}
use Rattle.definitions.specs.declared.Task.{Task}
use Rattle.theory.specs.Tables.{head_with}
use Rattle.views.specs.declared.Decided.{Decided}
use Rattle.views.specs.declared.View.{View}

abbrev pub in_phase : Task → ℕ → Task
in_phase m phase = record { phase = phase; busy = m.busy; forbidden = m.forbidden }

-- what a move that shows no event answers, by whether it is a retry
abbrev pub unseen_by : Bool → Outcome
unseen_by retry = cond retry Retry Quiet

-- the mover in a phase, and all else as it was
abbrev pub passed : View → ℕ → Outcome → Decided
passed v phase outcome = record { head = v.head; mover = in_phase v.mover phase; forbidden = v.subject.forbidden; outcome = outcome }

-- with a value for busy, which shows no event
abbrev pub with_busy : View → ℕ → ℕ → Decided
with_busy v phase busy =
    record { head = v.head; mover = record { phase = phase; busy = busy; forbidden = v.mover.forbidden }; forbidden = v.subject.forbidden; outcome = Quiet }

-- with a value for the mutex, or for the target and the subject's forbidden
abbrev pub with_mutex : View → ℕ → ℕ → Outcome → Decided
with_mutex v phase mutex outcome =
    record { head = head_with v.head (mutex≔ mutex); mover = in_phase v.mover phase; forbidden = v.subject.forbidden; outcome = outcome }

abbrev pub aimed_by : View → ℕ → ℕ → ℕ → Outcome → Decided
aimed_by v phase target forbidden outcome =
    record { head = head_with v.head (target≔ target); mover = in_phase v.mover phase; forbidden = forbidden; outcome = outcome }
