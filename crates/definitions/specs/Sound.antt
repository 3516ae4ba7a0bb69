-- "A table is sound when": the rules one by one, then all of them.
-- They speak of the threads below N. The holder is the thread that holds the mutex by its phase, if there is one; the rules from the target's to that of 15 go by the holder's phase.
-- A mutex byte above 1 fails the mutex rule.
use Rattle.std.specs.Prelude.{ℕ, Bool, cond, not, ◌&&◌, ◌||◌, List, [], ◌∷◌, leb, ltb, eqb}
use Rattle.definitions.specs.Answers.{Test, test}
use Rattle.definitions.specs.Bounds.{last_phase, no_target}
use Rattle.definitions.specs.Phases.{busy_in, holds, reading}
use Rattle.definitions.specs.Table.{Table, table_of, sized}
use Rattle.definitions.specs.Threads.{every, some, how_many, between, all_of, implies}

-- there is a holder
abbrev pub any_holder : Table → Bool
any_holder s = some s.threads (λ i. holds (s.phase i))

-- the holder is in phases a to b
abbrev pub holder_in : ℕ → ℕ → Table → Bool
holder_in a b s = some s.threads (λ i. between a b (s.phase i))

-- the holder's phases in which no thread is kept out: a writer's last, and that of a reader that waited at the mutex
abbrev pub opened : ℕ → Bool
opened phase = eqb phase 16 || eqb phase 18

abbrev pub holder_opened : Table → Bool
holder_opened s = some s.threads (λ i. opened (s.phase i))

-- "phases are at most 17"; 18 with 02 §1
unfoldable pub phase_rule : Table → Bool
phase_rule s = every s.threads (λ i. leb (s.phase i) last_phase)

-- "flags 0 or 1"
unfoldable pub flag_rule : Table → Bool
flag_rule s = every s.threads (λ i. leb (s.busy i) 1 && leb (s.forbidden i) 1)

-- "busy is 1 exactly in phases 2, 3, 5, 6, 7"
unfoldable pub busy_rule : Table → Bool
busy_rule s = every s.threads (λ i. eqb (s.busy i) (busy_in (s.phase i)))

-- "at most one thread, the holder, is in 10 to 16"; "The holder may now be in 18" (02 §1)
unfoldable pub holder_rule : Table → Bool
holder_rule s = leb (how_many s.threads (λ i. holds (s.phase i))) 1

-- "the mutex is 1 exactly if there is one"
unfoldable pub mutex_rule : Table → Bool
mutex_rule s = eqb s.mutex (cond (any_holder s) 1 0)

-- "the target is a thread with forbidden 1 if the holder is in 11 or 12, else 255"
unfoldable pub target_rule : Table → Bool
target_rule s =
    cond (holder_in 11 12 s) (ltb s.target s.threads && eqb (s.forbidden s.target) 1) (eqb s.target no_target)

-- "none, or 16: every forbidden is 0."; "The holder may now be in 18, and then every forbidden is 0." (02 §1)
unfoldable pub open_rule : Table → Bool
open_rule s =
    implies (not (any_holder s) || holder_opened s) (every s.threads (λ i. eqb (s.forbidden i) 0))

-- "10: some forbidden is 0; no thread with forbidden 1 is in 5 to 7."
unfoldable pub rule10 : Table → Bool
rule10 s =
    implies (holder_in 10 10 s)
    (some s.threads (λ i. eqb (s.forbidden i) 0)
    && every s.threads (λ i. not (eqb (s.forbidden i) 1 && reading (s.phase i))))

-- "11, 12: no thread with forbidden 1, the target excepted, is in 5 to 7."
unfoldable pub rule11 : Table → Bool
rule11 s =
    implies (holder_in 11 12 s)
    (every s.threads (λ i. eqb i s.target || not (eqb (s.forbidden i) 1 && reading (s.phase i))))

-- "13, 14: every forbidden is 1; no thread is in 5 to 7."
unfoldable pub rule13 : Table → Bool
rule13 s =
    implies (holder_in 13 14 s)
    (every s.threads (λ i. eqb (s.forbidden i) 1) && every s.threads (λ i. not (reading (s.phase i))))

-- "15: some forbidden is 1."
unfoldable pub rule15 : Table → Bool
rule15 s = implies (holder_in 15 15 s) (some s.threads (λ i. eqb (s.forbidden i) 1))

-- the phases of a reader that has found its forbidden 1 and hasn't begun again: it lowers busy (3), waits (4) or holds the mutex (18)
abbrev pub backed_off : ℕ → Bool
backed_off phase = eqb phase 3 || eqb phase 4 || eqb phase 18

-- "not every thread is in phases 3, 4 and 18" (02 §6)
unfoldable pub elsewhere_rule : Table → Bool
elsewhere_rule s = not (every s.threads (λ i. backed_off (s.phase i)))

-- all of them
unfoldable pub sound : Table → Bool
sound s =
    all_of
    (phase_rule s
    ∷ flag_rule s
    ∷ busy_rule s
    ∷ holder_rule s
    ∷ mutex_rule s
    ∷ target_rule s
    ∷ open_rule s
    ∷ rule10 s
    ∷ rule11 s
    ∷ rule13 s
    ∷ rule15 s
    ∷ elsewhere_rule s
    ∷ [])

-- the refusals of a table's bytes: 1, its size, and 2, "The table isn't sound."
abbrev pub table_tests : List ℕ → List Test
table_tests bytes = test 1 (sized bytes) ∷ test 2 (sound (table_of bytes)) ∷ []
