-- The rules of soundness on what one pass found, each by itself: on the mutex, on the phases 3, 4 and 18, and by the holder's phase.
use Rattle.std.specs.Prelude.{ℕ, Bool, cond, not, ◌&&◌, ◌||◌, ltb, eqb}
use Rattle.definitions.specs.Phases.{reading}
use Rattle.definitions.specs.Sound.{opened}
use Rattle.definitions.specs.declared.Task.{Task}
use Rattle.tallies.specs.declared.Tally.{Tally}

-- "the mutex is 1 exactly if there is one"
abbrev pub mutex_agrees : Tally → ℕ → Bool
mutex_agrees t mutex = eqb mutex 1 && not (eqb t.holder 0) || eqb mutex 0 && not (not (eqb t.holder 0))

-- "not every thread is in phases 3, 4 and 18" (02 §6)
abbrev pub some_elsewhere : Tally → ℕ → Bool
some_elsewhere t n = ltb t.backed_off n

-- a holder in 11 or 12: the target's forbidden is 1, and "no thread with forbidden 1, the target excepted, is in 5 to 7."
unfoldable pub aim_fits : Tally → Task → Bool
aim_fits t aim = eqb aim.forbidden 1 && eqb t.readers (cond (reading aim.phase) 1 0)

-- the rules for no holder, or one in another phase
unfoldable pub rest_fits : Tally → ℕ → Bool
rest_fits t n =
    -- "none, or 16: every forbidden is 0.", and in 18
    cond (eqb t.holder 0 || opened t.holder)
    (eqb t.forbidden 0)
    -- "10: some forbidden is 0; no thread with forbidden 1 is in 5 to 7."
    (cond (eqb t.holder 10)
    (ltb t.forbidden n && eqb t.readers 0)
    -- "13, 14: every forbidden is 1; no thread is in 5 to 7."
    (cond (eqb t.holder 13 || eqb t.holder 14)
    (eqb t.forbidden n && eqb t.readers 0)
    -- "15: some forbidden is 1."
    (eqb t.holder 15 && ltb 0 t.forbidden)))
