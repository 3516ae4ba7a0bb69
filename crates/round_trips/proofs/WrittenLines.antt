-- The lines of a script that was written: the threads line, then a line for each move, since what is spelled holds no line feed.
-- Then what the tests of a list to be written say, and that each line reads as what it was written for.
use Prim.Native.Nat.{ℕ, zero, suc, ◌+◌, ◌%◌, ◌/◌, ◌≤◌, ◌<◌}
use native.Mathlib.Nat.{mul-mod_right}
use native.Mathlib.Omega.{arith}
use mathlib.Core.Bool.{Bool, true, false, cond, not, ◌&&◌}
use mathlib.Core.List.{List, [], ◌∷◌, ◌++◌}
use mathlib.Core.Path.{◌≡◌, refl, ap, ◌∙◌}
use lib.Dec.{T, ltb, eqb, leb→le, le→leb, ltb→lt, lt→ltb, eqb→eq}
use lib.ListN.{length}
use Rattle.definitions.specs.Answers.{passes_all}
use Rattle.definitions.specs.Bounds.{most_threads, most_script}
use Rattle.definitions.specs.Chains.{requests_of}
use Rattle.definitions.specs.Forms.{threads, request, threads_line, act_text, spelled, line_form}
use Rattle.definitions.specs.Moves.{names_thread, number_tests}
use Rattle.definitions.specs.Plan.{bytes_of}
use Rattle.definitions.specs.Scripts.{ended, moves_text, script_of, triples_tests}
use Rattle.definitions.specs.Table.{count_fits}
use Rattle.definitions.specs.Texts.{bytes, line_feed, Line, in_front, lines_of, decimal}
use Rattle.definitions.specs.declared.Request.{Request}
use Rattle.forms.specs.Grammar.{number_bound, Spellable}
use Rattle.round_trips.specs.Exchange.{Writable}
use Rattle.basics.proofs.Numbers.{decimal_small, decimal_more, by_tens}
use Rattle.basics.proofs.Replies.{peel, pass, no_test}
use Rattle.basics.proofs.TestLists.{passes-split, passes-join}
use Rattle.basics.proofs.Tests.{T_false, and_l, and_r, and_i, ne_T, eq_T}
use Rattle.forms.proofs.Spelling.{threads-read, request-read}
use Rattle.theory.proofs.Lengths.{bytes-length}
use Rattle.theory.proofs.RequestNumbers.{NumbersFit, AllNumbersFit, numbers_e, numbers_i}
use Rattle.theory.proofs.Stages.{count_most}
use Rattle.theory.proofs.Triples.{bytes_read}

-- ---- no line feed

-- a text that stays within a line
abbrev unbroken : List ℕ → Bool
unbroken [] = true
unbroken (c ∷ cs) = not (eqb c line_feed) && unbroken cs

unbroken_both : (xs ys : List ℕ) → T (unbroken xs) → T (unbroken ys) → T (unbroken (xs ++ ys))
unbroken_both [] ys p q = q
unbroken_both (x ∷ xs) ys p q =
    let here = not (eqb x line_feed) in
    and_i here (unbroken (xs ++ ys)) (and_l here (unbroken xs) p) (unbroken_both xs ys (and_r here (unbroken xs) p) q)

decimal_unbroken : (n : ℕ) → T (unbroken (decimal n))
decimal_unbroken = by_tens (λ n. T (unbroken (decimal n))) one more
  where
    digit : (k : ℕ) → T (unbroken ((48 + k) ∷ []))
    digit k = and_i (not (eqb (48 + k) line_feed)) true (ne_T (48 + k) line_feed (λ e. omega arith)) tt

    one : (n : ℕ) → n < 10 → T (unbroken (decimal n))
    one n h = rw (decimal_small n h) (digit n)

    more : (n : ℕ) → 10 ≤ n → T (unbroken (decimal (n / 10))) → T (unbroken (decimal n))
    more n h rec = rw (decimal_more n h) (unbroken_both (decimal (n / 10)) _ rec (digit (n % 10)))

-- a number between two texts
around_unbroken : (xs ys : List ℕ) (n : ℕ) → T (unbroken xs) → T (unbroken ys) → T (unbroken (xs ++ (decimal n ++ ys)))
around_unbroken xs ys n p q = unbroken_both xs (decimal n ++ ys) p (unbroken_both (decimal n) ys (decimal_unbroken n) q)

threads_unbroken : (n : ℕ) → T (unbroken (threads_line n))
unfolding bytes
threads_unbroken n = around_unbroken (bytes "(threads ") (bytes ")") n tt tt

-- by the move's number, 0 to 6; a larger one has no text
act_unbroken : (mv target : ℕ) → T (unbroken (act_text mv target))
unfolding bytes act_text
act_unbroken zero target = tt
act_unbroken (suc zero) target = tt
act_unbroken (suc (suc zero)) target = tt
act_unbroken (suc (suc (suc zero))) target = around_unbroken (bytes " (set ") (bytes "))") target tt tt
act_unbroken (suc (suc (suc (suc zero)))) target = around_unbroken (bytes " (clear ") (bytes "))") target tt tt
act_unbroken (suc (suc (suc (suc (suc zero))))) target = tt
act_unbroken (suc (suc (suc (suc (suc (suc zero)))))) target = tt
act_unbroken (suc (suc (suc (suc (suc (suc (suc more))))))) target = tt

spelled_unbroken : (r : Request) → T (unbroken (spelled r))
unfolding bytes
spelled_unbroken r = around_unbroken (bytes "(") (act_text r.mv r.target) r.thread tt (act_unbroken r.mv r.target)

-- ---- lines

-- a line with its line feed
abbrev pub line_of : List ℕ → Line
line_of text = record { text = text; ended = true }

first_line_lem : (text rest : List ℕ) → T (unbroken text) → lines_of (ended text ++ rest) ≡ line_of text ∷ lines_of rest
unfolding lines_of
first_line_lem [] rest p = refl
first_line_lem (c ∷ cs) rest p =
    rw (T_false (eqb c line_feed) (and_l (not (eqb c line_feed)) (unbroken cs) p))
    (ap (in_front c) (first_line_lem cs rest (and_r (not (eqb c line_feed)) (unbroken cs) p)))

-- the lines of moves
abbrev pub lines_for : List Request → List Line
lines_for [] = []
lines_for (r ∷ rs) = line_of (spelled r) ∷ lines_for rs

moves_lines : (rs : List Request) → lines_of (moves_text rs) ≡ lines_for rs
unfolding lines_of moves_text
moves_lines [] = refl
moves_lines (r ∷ rs) = first_line_lem (spelled r) (moves_text rs) (spelled_unbroken r) ∙ ap (λ (ls : List Line). line_of (spelled r) ∷ ls) (moves_lines rs)

-- the lines of the whole script
pub script_lines : (n : ℕ) (rs : List Request) → lines_of (script_of n rs) ≡ line_of (threads_line n) ∷ lines_for rs
unfolding script_of
script_lines n rs = first_line_lem (threads_line n) (moves_text rs) (threads_unbroken n) ∙ ap (λ (ls : List Line). line_of (threads_line n) ∷ ls) (moves_lines rs)

-- ---- what the tests of a list to be written say

module _ (n : ℕ) where
  triples_e : (k : ℕ) (rs : List Request) → T (passes_all (triples_tests k n rs)) → AllNumbersFit n rs
  unfolding triples_tests
  triples_e k [] t = tt
  triples_e k (r ∷ rs) t =
      let p = passes-split (number_tests k n r) (triples_tests (suc k) n rs) t in
      (numbers_e k n r p.0, triples_e (suc k) rs p.1)

  triples_i : (k : ℕ) (rs : List Request) → AllNumbersFit n rs → T (passes_all (triples_tests k n rs))
  unfolding triples_tests
  triples_i k [] f = no_test
  triples_i k (r ∷ rs) f = passes-join (number_tests k n r) (triples_tests (suc k) n rs) (numbers_i k n r f.0) (triples_i (suc k) rs f.1)

-- what writing asks of a list
pub record ListFits (n : ℕ) (triples : List ℕ) : Type 0 where
  pub count : T (count_fits n)
  pub whole : length triples % 3 ≡ 0
  pub numbers : AllNumbersFit n (requests_of triples)
  pub short : length (script_of n (requests_of triples)) ≤ most_script

module _ (n : ℕ) (triples : List ℕ) where
  abbrev size : ℕ
  size = length (script_of n (requests_of triples))

  -- a list that can be written meets it
  pub writable_e : Writable n triples → ListFits n triples
  writable_e t =
      let a = peel _ _ t in
      let b = peel _ _ a.1 in
      let c = passes-split (triples_tests 0 n (requests_of triples)) _ b.1 in
      record {
        count = a.0;
        whole = eqb→eq (length triples % 3) 0 b.0;
        numbers = triples_e n 0 (requests_of triples) c.0;
        short = leb→le size most_script (peel _ _ c.1).0;
      }

  -- and only such a list
  writable_i : ListFits n triples → Writable n triples
  writable_i f =
      pass _ _ f.count
      (pass _ _ (eq_T (length triples % 3) 0 f.whole)
      (passes-join (triples_tests 0 n (requests_of triples)) _ (triples_i n 0 (requests_of triples) f.numbers) (pass _ _ (le→leb size most_script f.short) no_test)))

-- the bytes of requests that fit can be written
pub bytes_writable : (n : ℕ) (rs : List Request) → T (count_fits n) → AllNumbersFit n rs → length (script_of n rs) ≤ most_script → Writable n (bytes_of rs)
bytes_writable n rs c f short =
    writable_i n (bytes_of rs)
    record {
      count = c;
      whole = ap (λ (k : ℕ). k % 3) (bytes-length rs) ∙ mul-mod_right 3 (length rs);
      numbers = rw (bytes_read rs) f;
      short = rw (bytes_read rs) short;
    }

-- ---- requests that can be spelled

can_be_spelled : (n : ℕ) (r : Request) → n ≤ most_threads → NumbersFit n r → Spellable r
can_be_spelled n r most f =
    record {
      thread-fits = omega (arith, f.thread-fits);
      move-fits = f.move-fits;
      target_fits_lem = target_more (names_thread r.mv) f.target_fits_lem;
    }
  where
    target_more : (b : Bool) → T (cond b (ltb r.target n) (eqb r.target 0)) → T (cond b (ltb r.target number_bound) (eqb r.target 0))
    target_more true u = let below = ltb→lt r.target n u in lt→ltb r.target number_bound (omega arith)
    target_more false u = u

-- ---- the lines as they are read

-- the threads line says N
pub count-read : (n : ℕ) → T (count_fits n) → line_form (line_of (threads_line n)) ≡ threads n
count-read n t = let most = count_most n t in threads-read n (omega arith)

-- and a move's line says the move
pub move_read : (n : ℕ) (r : Request) → n ≤ most_threads → NumbersFit n r → line_form (line_of (spelled r)) ≡ request r
move_read n r most t = request-read r (can_be_spelled n r most t)
