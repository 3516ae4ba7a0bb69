-- What writing answers and leaves, by the tests in their order: turned down, too long, no room, written.
use Prim.Native.Nat.{ℕ, ◌/◌, ◌%◌, ◌≤◌, ◌<◌}
use native.Mathlib.Omega.{arith}
use mathlib.Core.Bool.{true, false}
use mathlib.Core.List.{List, [], ◌∷◌, ◌++◌}
use mathlib.Core.Path.{◌≡◌, sym, ap, ◌∙◌}
use borrow.Author.Tests.{lt-leb}
use lib.Dec.{T, leb, le→leb}
use lib.ListN.{length}
use Rattle.std.specs.Prelude.{Result, Ok, Err}
use Rattle.definitions.specs.Answers.{refused, number_of, answer_reply, Test, test, answered, passes_all}
use Rattle.definitions.specs.Bounds.{most_script}
use Rattle.definitions.specs.Chains.{requests_of}
use Rattle.definitions.specs.Scripts.{script_of, triples_tests, write_tests, write_entry}
use Rattle.definitions.specs.Table.{count_fits}
use Rattle.definitions.specs.declared.Refused.{Refused}
use Rattle.basics.specs.Outputs.{Delivered}
use Rattle.basics.specs.ShortestLines.{most_script_moves}
use Rattle.basics.proofs.Outputs.{turned_down}
use Rattle.basics.proofs.Replies.{passed, failed, pass, no_test, behind, in_front_lem}
use Rattle.basics.proofs.TestLists.{answered_e, passes-join}
use Rattle.basics.proofs.Tests.{true-T, false-T, ne_T, eq_T}
use Rattle.theory.proofs.Triples.{triples_count}
use Rattle.script_text.proofs.ScriptParts.{script_long}

module _ (n : ℕ) (triples out : List ℕ) where
  abbrev moves : ℕ
  moves = length triples / 3

  -- the script
  abbrev text : List ℕ
  text = script_of n (requests_of triples)

  abbrev fitting : Test
  fitting = test 8 (leb (length text) most_script)

  -- 1
  pub bad-count : count_fits n ≡ false → Delivered (write_entry n triples) out out (refused 1 0)
  bad-count e = turned_down (write_entry n triples) out moves 1 0 (failed _ _ _ (false-T (count_fits n) e))

  module _ (count : count_fits n ≡ true) where
    -- 8, for the length of the list
    pub bad-length : (length triples % 3 ≡ 0 → ⊥) → Delivered (write_entry n triples) out out (refused 8 0)
    bad-length e =
        turned_down (write_entry n triples) out moves 8 0
        (passed _ _ _ (true-T _ count) ∙ failed _ _ _ (ne_T (length triples % 3) 0 e))

    module _ (three : length triples % 3 ≡ 0) where
      -- the tests behind the first two
      front : (m : ℕ) → answered (write_tests n triples) m ≡ answered (triples_tests 0 n (requests_of triples) ++ (fitting ∷ [])) m
      front m = passed _ _ _ (true-T _ count) ∙ passed _ _ _ (eq_T (length triples % 3) 0 three)

      module _ (a : Result ℕ Refused) (tried : answer_reply a ≡ answered (triples_tests 0 n (requests_of triples)) moves) where
        -- 3, 4 and 5
        pub bad_triple : (r : Refused) → a ≡ Err r → Delivered (write_entry n triples) out out (answer_reply (Err r))
        bad_triple r e =
            turned_down (write_entry n triples) out moves (number_of r.refusal) r.place
            (front moves ∙ in_front_lem moves moves _ _ (number_of r.refusal) r.place (sym tried ∙ ap answer_reply e))

        module _ (m : ℕ) (e : a ≡ Ok m) where
          good : T (passes_all (triples_tests 0 n (requests_of triples))) × (moves ≡ m)
          good = answered_e (triples_tests 0 n (requests_of triples)) moves m (sym tried ∙ ap answer_reply e)

          pub same_count : m ≡ length triples / 3
          same_count = sym good.1

          -- 8, for the length of the script
          pub too_long : most_script < length text → Delivered (write_entry n triples) out out (refused 8 0)
          too_long l =
              let f = failed fitting [] moves (false-T (leb (length text) most_script) (lt-leb (length text) most_script l)) in
              turned_down (write_entry n triples) out moves 8 0 (front moves ∙ (behind moves _ _ good.0 ∙ f))

          -- which more moves than the shortest lines leave room for make too long
          pub too_many : most_script_moves < m → Delivered (write_entry n triples) out out (refused 8 0)
          too_many l = too_long (omega (arith, script_long n (requests_of triples) good.0, triples_count triples, good.1))

          -- those that are passed
          pub tested : length text ≤ most_script → T (passes_all (write_tests n triples))
          tested short =
              pass _ _ (true-T _ count)
              (pass _ _ (eq_T (length triples % 3) 0 three)
              (passes-join (triples_tests 0 n (requests_of triples)) (fitting ∷ []) good.0 (pass _ _ (le→leb (length text) most_script short) no_test)))
