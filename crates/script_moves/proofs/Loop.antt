-- What the loop over the lines knows at each of them, and that each line keeps that.
use Prim.Native.Nat.{ℕ, ◌+◌}
use native.Mathlib.Omega.{arith}
use mathlib.Core.List.{List, ◌++◌}
use mathlib.Core.Path.{◌≡◌, refl, ap, ◌∙◌}
use lib.ListN.{length, drop, drop_of_length-le}
use Rattle.std.specs.Prelude.{Option, Result, Err}
use Rattle.definitions.specs.Answers.{Reply, number_of, answered}
use Rattle.definitions.specs.Forms.{line_form, line_tests, request_in}
use Rattle.definitions.specs.Plan.{bytes_of}
use Rattle.definitions.specs.Scripts.{lines_tests, requests_in}
use Rattle.definitions.specs.Texts.{Line}
use Rattle.definitions.specs.declared.Refusal.{Refusal}
use Rattle.definitions.specs.declared.Refused.{Refused}
use Rattle.basics.specs.Outputs.{RoomAt, PutAt}
use Rattle.line_moves.specs.Moves.{Stated, LineTaken}
use Rattle.script_moves.specs.AllLines.{AllTaken, LinesTaken}
use Rattle.basics.proofs.Chunks.{Next}
use Rattle.basics.proofs.Parts.{Partly, no_part, room_by, put-by, all-by}
use Rattle.basics.proofs.Replies.{behind, in_front_lem}
use Rattle.basics.proofs.TestLists.{answered_e}
use Rattle.theory.proofs.Triples.{bytes_append}

module _ (ls : List Line) (n : ℕ) where
  -- what the lines from index k on say, and the triples that they state
  abbrev says_from : ℕ → Reply (Unit {0})
  says_from k = answered (lines_tests (2 + k) n (drop k ls)) tt

  abbrev triples_from : ℕ → List ℕ
  triples_from k = bytes_of (requests_in (drop k ls))

  -- k lines have passed, and their triples are put
  pub record AtLine (moves₀ moves : List ℕ) (k at : ℕ) : Type 0 where
    pub left : says_from 0 ≡ says_from k
    pub put : Partly moves₀ 0 (triples_from 0) (triples_from k) moves at

  pub begun : {moves : List ℕ} → RoomAt moves 0 (bytes_of (requests_in ls)) → AtLine moves moves 0 0
  begun r = record { left = refl; put = no_part r }

  module _ {moves₀ moves : List ℕ} {k at : ℕ} (g : AtLine moves₀ moves k at) where
    -- ---- the last line was passed
    pub finished : k ≡ length ls → AllTaken ls n moves₀ moves at
    unfolding lines_tests requests_in bytes_of answered
    finished e =
        let none = drop_of_length-le ls (omega arith) in
        record {
          passed = (answered_e (lines_tests 2 n ls) tt tt (g.left ∙ ap (λ (xs : List Line). answered (lines_tests (2 + k) n xs) tt) none)).0;
          put = all-by g.put (ap (λ (xs : List Line). bytes_of (requests_in xs)) none);
        }

    -- ---- a line
    module _ {l : Line} {next : ℕ} (t : Next ls k l next) where
      says : says_from k ≡ answered (line_tests (2 + k) n (line_form l) ++ lines_tests (2 + next) n (drop next ls)) tt
      unfolding lines_tests
      says =
          ap (λ (xs : List Line). answered (lines_tests (2 + k) n xs) tt) t.left
          ∙ ap (λ (j : ℕ). answered (line_tests (2 + k) n (line_form l) ++ lines_tests j n (drop next ls)) tt) (omega (arith, t.more))

      -- its triple stands before those of the lines behind it
      split : triples_from k ≡ bytes_of (request_in (line_form l)) ++ triples_from next
      unfolding requests_in
      split = ap (λ (xs : List Line). bytes_of (requests_in xs)) t.left ∙ bytes_append (request_in (line_form l)) (requests_in (drop next ls))

      -- it turns the script down
      pub line_refused : (taken : Result (Option (List ℕ)) Refusal) → LineTaken n (line_form l) taken → (out : Result ℕ Refused) (i : ℕ) → i ≡ k
          → (x : Refusal) × (taken ≡ Err x) × (out ≡ Err (record { refusal = x; place = 2 + i })) → LinesTaken ls n moves₀ moves out
      line_refused taken h out i e (x, d, o) =
          let down = rw d at h in
          rw (o, e) (record { refusal = g.left ∙ (says ∙ in_front_lem tt tt _ _ (number_of x) (2 + k) (down (2 + k)).refusal) })

      module _ {triple : List ℕ} (s : Stated (λ place. line_tests place n (line_form l)) (request_in (line_form l)) triple) where
        pub line_room : RoomAt moves at triple
        line_room = rw s.triples_are (room_by g.put (bytes_of (request_in (line_form l))) (triples_from next) split)

        pub passed_on : (moves' : List ℕ) (at' : ℕ) → PutAt moves at triple moves' at' → AtLine moves₀ moves' next at'
        passed_on moves' at' p =
            record {
              left = g.left ∙ (says ∙ behind tt _ _ (s.passed (2 + k)));
              put = put-by g.put (bytes_of (request_in (line_form l))) (triples_from next) split (rw s.triples_are at p);
            }
