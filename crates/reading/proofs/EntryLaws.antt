-- What reading answers and leaves, by the tests in their order: too long, a bad first line, a bad N, a bad line, no room, read.
use Prim.Native.Nat.{ℕ, ◌*◌, ◌%◌, ◌≤◌, ◌<◌}
use native.Mathlib.Nat.{zero-add, mul-mod_right}
use native.Mathlib.Omega.{arith}
use mathlib.Core.Bool.{true, false}
use mathlib.Core.List.{List, ◌∷◌}
use mathlib.Core.Path.{◌≡◌, sym, subst, ap, ◌∙◌}
use borrow.Author.Tests.{lt-leb}
use lib.Dec.{T, leb, le→leb}
use lib.ListN.{length, take, length-drop}
use Rattle.std.specs.Borrow.{MutBor}
use Rattle.text.specs.Cursors.{Begins, Puts}
use Rattle.text.specs.declared.Output.{Output}
use Rattle.definitions.specs.Answers.{accepted, refused, Test, test, test_at, answered, passes_all}
use Rattle.definitions.specs.Bounds.{most_script}
use Rattle.definitions.specs.Plan.{bytes_of}
use Rattle.definitions.specs.Scripts.{lines_tests, requests_in, script_tests, stated_by, Listed, read_entry}
use Rattle.definitions.specs.Table.{count_fits}
use Rattle.definitions.specs.Texts.{Line, lines_of}
use Rattle.basics.specs.Outputs.{RoomAt, PutAt, Delivered}
use Rattle.opening.specs.FirstLine.{ThreadsFirst, NoThreads}
use Rattle.line_moves.specs.Moves.{TurnedDown}
use Rattle.script_moves.specs.AllLines.{AllTaken}
use Rattle.basics.proofs.Outputs.{put_front, turned_down, no_room, whole, delivered_as, filled_up}
use Rattle.basics.proofs.Replies.{passed, failed, pass}
use Rattle.basics.proofs.TestLists.{other_answer}
use Rattle.basics.proofs.Tests.{true-T, false-T}
use Rattle.opening.proofs.FirstLines.{read-tests, read_count, read-bad}
use Rattle.runs.proofs.Lines.{read-few, lines-count}
use Rattle.theory.proofs.Lengths.{bytes-length}

-- a text put by an output that begins over lent bytes stands at their front
pub put_at_front : {lent : MutBor (List ℕ)} {o o' : Output} {text left : List ℕ} → Begins lent o → Puts o text o' → left ≡ o'.bytes.now → PutAt lent.now 0 text left o'.at
put_at_front {lent} {o} {o'} {text} {left} b p e =
    subst (λ (k : ℕ). PutAt lent.now k text left o'.at) b.front (rw e (subst (λ (bytes : List ℕ). PutAt bytes o.at text o'.bytes.now o'.at) b.content p.put))

module _ (script out : List ℕ) where
  abbrev none : Listed
  none = record { threads = 0; bytes = 0 }

  -- the first test
  abbrev fitting : Test
  fitting = test 8 (leb (length script) most_script)

  -- 8, for its length
  pub too_long : most_script < length script → Delivered (read_entry script) out out (refused 8 0)
  too_long l = turned_down (read_entry script) out none 8 0 (failed fitting _ none (false-T (leb (length script) most_script) (lt-leb (length script) most_script l)))

  module _ (short : length script ≤ most_script) where
    fits : T (leb (length script) most_script)
    fits = le→leb (length script) most_script short

    -- the lines' refusal is the entry's
    by_lines : (number place : ℕ) → answered (script_tests (lines_of script)) none ≡ refused number place → Delivered (read_entry script) out out (refused number place)
    by_lines number place e = turned_down (read_entry script) out none number place (passed fitting _ none fits ∙ e)

    -- 8, for the first line
    pub bad_first : NoThreads script → Delivered (read_entry script) out out (refused 8 1)
    bad_first t = by_lines 8 1 (read-bad none t)

    module _ (n : ℕ) (rest : List Line) (t : ThreadsFirst script n rest) where
      tests : script_tests (lines_of script) ≡ test_at 1 1 (count_fits n) ∷ lines_tests 2 n rest
      tests = read-tests t

      stated : bytes_of (stated_by script) ≡ bytes_of (requests_in rest)
      stated = ap (λ (ls : List Line). bytes_of (requests_in ls)) t.behind

      pub few_lines : length rest ≤ most_script
      few_lines = omega (arith, ap length t.behind, length-drop 1 (lines_of script), lines-count script)

      pub moves_room : (moves : List ℕ) → length script ≤ 3 * length moves → RoomAt moves 0 (bytes_of (requests_in rest))
      moves_room moves long = record { ends = omega (arith, ap length stated, read-few script) }

      -- 1
      pub bad-count : count_fits n ≡ false → Delivered (read_entry script) out out (refused 1 1)
      bad-count e = by_lines 1 1 (ap (λ (ts : List Test). answered ts none) tests ∙ failed _ _ none (false-T (count_fits n) e))

      module _ (count : count_fits n ≡ true) where
        -- a line behind the first
        pub bad_line : (number place : ℕ) → TurnedDown (lines_tests 2 n rest) number place → Delivered (read_entry script) out out (refused number place)
        bad_line number place d =
            by_lines number place
            (ap (λ (ts : List Test). answered ts none) tests ∙ (passed _ _ none (true-T (count_fits n) count) ∙ other_answer none _ tt number place d.refusal))

        module _ {moves₀ moves : List ℕ} {size : ℕ} (a : AllTaken rest n moves₀ moves size) where
          tested : T (passes_all (read_entry script).tests)
          tested = pass _ _ fits (rw tests (pass _ _ (true-T (count_fits n) count) a.passed))

          size_is : size ≡ length (bytes_of (stated_by script))
          size_is = omega (arith, a.put.next, ap length stated)

          -- 12
          pub no_room_left : length out < size → Delivered (read_entry script) out out (refused 12 0)
          no_room_left l = no_room (read_entry script) out tested (omega (arith, size_is))

          few : 3 * size ≤ length script
          few = omega (arith, a.put.next, ap length stated, read-few script)

          module _ (long : length script ≤ 3 * length moves₀) (kept : length moves ≡ length moves₀) where
            pub within : size ≤ length moves
            within = omega (arith, few)

            -- the triples stand at the front of the moves
            triples : take size moves ≡ bytes_of (stated_by script)
            triples =
                let text = bytes_of (requests_in rest) in
                rw (a.put.next, a.put.output, zero-add (length text)) (rw (zero-add (length text)) at (put_front moves₀ 0 text (omega (arith, few, a.put.next)))) ∙ sym stated

            module _ (room : size ≤ length out) where
              pub triples_whole : length (take size moves) % 3 ≡ 0
              triples_whole = ap (λ (xs : List ℕ). length xs % 3) triples ∙ (ap (λ (k : ℕ). k % 3) (bytes-length (stated_by script)) ∙ mul-mod_right 3 (length (stated_by script)))

              -- read
              pub all_read : (left : List ℕ) (next : ℕ) → PutAt out 0 (take size moves) left next → Delivered (read_entry script) out left (accepted (record { threads = n; bytes = size }))
              all_read left next p =
                  delivered_as (whole (read_entry script) out tested (omega (arith, size_is))) (filled_up (rw triples at p))
                  (ap accepted (λ k. record { threads = sym (read_count t) k; bytes = size_is k }))
