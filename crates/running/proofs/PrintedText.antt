-- What is printed from a line on, and how many retries are made, by the line's turn.
use Prim.Native.Nat.{ℕ, suc, ◌+◌}
use native.Mathlib.Nat.{add-zero, zero-add}
use native.Mathlib.Numerals.{add-one}
use mathlib.Core.Bool.{true, cond}
use mathlib.Core.List.{List, ◌∷◌, ◌++◌}
use mathlib.Core.Path.{◌≡◌, refl, sym, subst, ap}
use lib.Dec.{T}
use Rattle.definitions.specs.Forms.{line_form}
use Rattle.definitions.specs.Moves.{move_table}
use Rattle.definitions.specs.PlainLock.{pairs_of}
use Rattle.definitions.specs.Run.{Turn, stops, passes, makes, turn_of, event_line, event_lines, printed, refused_line, retries_from}
use Rattle.definitions.specs.Texts.{Line}
use Rattle.turns.specs.Steps.{passes_on, added, table_behind, moves_made, retries_made}
use Rattle.running.proofs.Histories.{lines_in, pair_line}

-- what a line does to the run
abbrev pub turn_at : List ℕ → Line → Turn
turn_at table l = turn_of table (line_form l)

module _ (table : List ℕ) (line steps : ℕ) (l : Line) (more : List Line) where
  -- what is printed from the line on, by its turn
  abbrev following : Turn → List ℕ
  following t =
      elim t [
        | stops number ↦ refused_line number line
        | passes ↦ printed table (suc line) steps more
        | makes r answer ↦ event_line r.thread answer.seen ++ printed (move_table table r) (suc line) (suc steps) more
      ]

  by_turn : (t : Turn) → turn_at table l ≡ t → printed table line steps (l ∷ more) ≡ following t
  unfolding printed
  by_turn t e = ap following e

  -- a line that stops the run
  pub at_stop : (number : ℕ) → turn_at table l ≡ stops number → printed table line steps (l ∷ more) ≡ refused_line number line
  at_stop number e = by_turn (stops number) e

  -- a line that lets it go on
  pub at_pass : passes_on (turn_at table l) ≡ true
      → printed table line steps (l ∷ more)
      ≡ lines_in (added (turn_at table l)) ++ printed (table_behind table (turn_at table l)) (suc line) (steps + moves_made (turn_at table l)) more
  unfolding pairs_of event_lines
  at_pass g = by (turn_at table l) refl g
    where
      by : (t : Turn) → turn_at table l ≡ t → passes_on t ≡ true
          → printed table line steps (l ∷ more) ≡ lines_in (added t) ++ printed (table_behind table t) (suc line) (steps + moves_made t) more
      by (stops number) e g = absurd (subst T (sym g) tt)
      by passes e g = rw add-zero (by_turn passes e)
      by (makes r answer) e g = rw (add-one, pair_line) (by_turn (makes r answer) e)

module _ (table : List ℕ) (l : Line) (more : List Line) where
  abbrev counting : Turn → ℕ
  counting t =
      elim t [
        | stops number ↦ 0
        | passes ↦ retries_from table more
        | makes r answer ↦ cond answer.retry 1 0 + retries_from (move_table table r) more
      ]

  counted-by : (t : Turn) → turn_at table l ≡ t → retries_from table (l ∷ more) ≡ counting t
  unfolding retries_from
  counted-by t e = ap counting e

  pub none_stop : (number : ℕ) → turn_at table l ≡ stops number → retries_from table (l ∷ more) ≡ 0
  none_stop number e = counted-by (stops number) e

  pub counted-pass : passes_on (turn_at table l) ≡ true
      → retries_from table (l ∷ more) ≡ retries_made (turn_at table l) + retries_from (table_behind table (turn_at table l)) more
  counted-pass g = by (turn_at table l) refl g
    where
      by : (t : Turn) → turn_at table l ≡ t → passes_on t ≡ true → retries_from table (l ∷ more) ≡ retries_made t + retries_from (table_behind table t) more
      by (stops number) e g = absurd (subst T (sym g) tt)
      by passes e g = rw zero-add (counted-by passes e)
      by (makes r answer) e g = counted-by (makes r answer) e
