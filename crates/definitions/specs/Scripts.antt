-- Scripts written out and read (02 §3): the script of a list of moves, and the entries that write one and read one.
-- What a line says to N threads stands in Forms, and is what the run goes by too.
use Rattle.std.specs.Prelude.{Result, ℕ, suc, ◌%◌, List, [], ◌∷◌, ◌++◌, leb, eqb, length, drop}
use Rattle.definitions.specs.Answers.{Reply, reply_by, Test, test, Delivery, counted}
use Rattle.definitions.specs.Bounds.{most_script}
use Rattle.definitions.specs.Chains.{requests_of}
use Rattle.definitions.specs.Forms.{threads_line, spelled, line_form, first_form, first_tests, threads_first, line_tests, request_in}
use Rattle.definitions.specs.Moves.{number_tests}
use Rattle.definitions.specs.Plan.{bytes_of}
use Rattle.definitions.specs.Table.{count_fits}
use Rattle.definitions.specs.Texts.{line_feed, Line, lines_of}
use Rattle.definitions.specs.declared.Reading.{Reading}
use Rattle.definitions.specs.declared.Refused.{Refused}
use Rattle.definitions.specs.declared.Request.{Request}

-- ---- writing

-- a line with its line feed
abbrev pub ended : List ℕ → List ℕ
ended text = text ++ (line_feed ∷ [])

-- "one form a move"
unfoldable pub moves_text : List Request → List ℕ
moves_text [] = []
moves_text (r ∷ rs) = ended (spelled r) ++ moves_text rs

-- "the threads line, then one form a move, no notes"
unfoldable pub script_of : ℕ → List Request → List ℕ
script_of n rs = ended (threads_line n) ++ moves_text rs

-- "then triple by triple 3, 4, 5, with the triple's index as place": from index k on
unfoldable pub triples_tests : ℕ → ℕ → List Request → List Test
triples_tests k n [] = []
triples_tests k n (r ∷ rs) = number_tests k n r ++ triples_tests (suc k) n rs

-- "Order: 1, 8, then triple by triple .., then 8 with place 0 for a script that would exceed 30,000 bytes"; "a list whose length isn't three times a whole number is 8"
abbrev pub write_tests : ℕ → List ℕ → List Test
write_tests n triples =
    test 1 (count_fits n)
    ∷ test 8 (eqb (length triples % 3) 0)
    ∷ (triples_tests 0 n (requests_of triples)
    ++ (test 8 (leb (length (script_of n (requests_of triples))) most_script) ∷ []))

-- "Write a script from N and a list of move triples"; it "answers the number of bytes"
abbrev pub write_entry : ℕ → List ℕ → Delivery ℕ
write_entry n triples = counted (write_tests n triples) (script_of n (requests_of triples))

-- ---- reading

-- the refusals of the lines from the line of number k on
unfoldable pub lines_tests : ℕ → ℕ → List Line → List Test
lines_tests k n [] = []
lines_tests k n (l ∷ ls) = line_tests k n (line_form l) ++ lines_tests (suc k) n ls

-- the requests that lines state, in order
unfoldable pub requests_in : List Line → List Request
requests_in [] = []
requests_in (l ∷ ls) = request_in (line_form l) ++ requests_in ls

-- the N of a script, 0 where its first line gives none
abbrev pub threads_of_lines : List Line → ℕ
threads_of_lines ls = threads_first (first_form ls)

abbrev pub threads_of : List ℕ → ℕ
threads_of script = threads_of_lines (lines_of script)

-- the refusals of a whole script: the first line's, then those of the lines from 2 on
unfoldable pub script_tests : List Line → List Test
script_tests ls = first_tests (first_form ls) ++ lines_tests 2 (threads_of_lines ls) (drop 1 ls)

-- the lines behind the first
abbrev pub move_lines : List ℕ → List Line
move_lines script = drop 1 (lines_of script)

-- the moves that they state
abbrev pub stated_by : List ℕ → List Request
stated_by script = requests_in (move_lines script)

-- what reading answers: "the number of bytes, reading N too"
pub record Listed : Type 0 where
  pub threads : ℕ
  pub bytes : ℕ

abbrev pub listed_of : Reading → Listed
listed_of read = record { threads = read.threads; bytes = read.bytes }

-- the reply that its result stands for
abbrev pub reading_reply : Result Reading Refused → Reply Listed
reading_reply = reply_by listed_of

-- "Reading a script gives N and the triples, and turns down exactly what the run would for form and numbers (1, 3, 5, 8), with the first such line as place (0 if too long), or 12."
abbrev pub read_entry : List ℕ → Delivery Listed
read_entry script =
    record {
      tests = test 8 (leb (length script) most_script) ∷ script_tests (lines_of script);
      text = bytes_of (stated_by script);
      answer = record { threads = threads_of script; bytes = length (bytes_of (stated_by script)) };
    }
