-- The values of every entry's answer are small, so that the answer fits 64 bits with its refusal's number beside it; where it is accepted, the value but for the retries has 32 bits.
-- An answer's value is the place of one of the entry's tests, or what is answered where all are passed; a refusal's number is that of one of the tests.
use Prim.Native.Nat.{ℕ, zero, suc, ◌+◌, ◌-◌, ◌*◌, ◌/◌, ◌%◌, ◌≤◌, ◌<◌}
use native.Mathlib.Omega.{arith}
use mathlib.Core.Bool.{Bool, true, false, cond, ◌&&◌}
use mathlib.Core.List.{List, [], ◌∷◌, ◌++◌}
use mathlib.Core.Path.{◌≡◌, refl, sym, subst, ap}
use lib.Dec.{T, leb, eqb, leb→le, le→leb}
use lib.ListN.{length, drop, length-append, length-drop}
use Rattle.definitions.specs.Answers.{Test, test, Reply, accepted, refused, answered, passes_all, Delivery, room_test, delivery_reply}
use Rattle.definitions.specs.Bounds.{most_threads, most_history, most_script}
use Rattle.definitions.specs.Chains.{requests_of}
use Rattle.definitions.specs.Forms.{Form, threads, request, note, bad, line_form, first_form, first_tests, threads_first, line_tests}
use Rattle.definitions.specs.Moves.{number_tests}
use Rattle.definitions.specs.Nodes.{nodes_of, nodes_entry}
use Rattle.definitions.specs.OpenMoves.{open_entry}
use Rattle.definitions.specs.Phases.{node_of}
use Rattle.definitions.specs.PlainLock.{Pair, pairs_of, tests_of, check_tests, check_reply}
use Rattle.definitions.specs.Plan.{plan_of, plan, plan_entry, plan_length_reply}
use Rattle.definitions.specs.Run.{run_entry}
use Rattle.definitions.specs.Scripts.{script_of, triples_tests, write_tests, write_entry, lines_tests, script_tests, threads_of_lines, Listed, read_entry}
use Rattle.definitions.specs.Sound.{table_tests}
use Rattle.definitions.specs.Table.{sized, fresh_entry, table_of}
use Rattle.definitions.specs.Texts.{Line, lines_of}
use Rattle.definitions.specs.Threads.{gather}
use Rattle.definitions.specs.declared.Request.{Request}
use Rattle.answer_numbers.specs.Encoding.{retry_unit, run_value, count_value, listed_value, value_of, value_in, value_bound, held_place, held}
use Rattle.answer_numbers.proofs.Apart.{Fits}
use Rattle.basics.proofs.Lists.{length-list_of, Each}
use Rattle.basics.proofs.Replies.{peel, pass}
use Rattle.basics.proofs.TestLists.{passes_append, passes-split}
use Rattle.basics.proofs.Tests.{and_l, and_r, cond_yes, cond_either}
use Rattle.history.proofs.CheckLaws.{tests_e}
use Rattle.runs.proofs.Lines.{lines-count, read-few}
use Rattle.runs.proofs.RetriesCounted.{retries-few}
use Rattle.runs.proofs.Suffices.{suffices}
use Rattle.theory.proofs.Bytes.{sized_e}
use Rattle.theory.proofs.Lengths.{pairs-length, fresh-length}
use Rattle.theory.proofs.OpenMovesExact.{open_short}
use Rattle.theory.proofs.PlanLengths.{event-most}
use Rattle.theory.proofs.Stages.{count_most}
use Rattle.theory.proofs.Triples.{triples_count}

-- ---- by an entry's tests

-- a test's place is below a bound, and its number from 1 to 255
abbrev TestFits : ℕ → Test → Type 0
TestFits bound t = (t.place < bound) × (1 ≤ t.number) × (t.number < 256)

-- of every test that is come to
abbrev TestsFit : ℕ → List Test → Type 0
TestsFit bound [] = Unit {0}
TestsFit bound (t ∷ ts) = TestFits bound t × (T t.passed → TestsFit bound ts)

-- of every test
each_fits : (bound : ℕ) (ts : List Test) → Each (TestFits bound) ts → TestsFit bound ts
each_fits bound [] h = tt
each_fits bound (t ∷ ts) h = (h.0, λ p. each_fits bound ts h.1)

fits_append : (bound : ℕ) (ts us : List Test) → TestsFit bound ts → TestsFit bound us → TestsFit bound (ts ++ us)
fits_append bound [] us h k = k
fits_append bound (t ∷ ts) us h k = (h.0, λ p. fits_append bound ts us (h.1 p) k)

fits-gather : (bound : ℕ) (f : ℕ → List Test) (n : ℕ) → ((k : ℕ) → k < n → TestsFit bound (f k)) → TestsFit bound (gather n f)
unfolding gather
fits-gather bound f zero h = tt
fits-gather bound f (suc n) h = fits_append bound (gather n f) (f n) (fits-gather bound f n (λ k l. h k (omega arith))) (h n (omega arith))

-- a reply whose value is below a bound, and that fits
abbrev Small : {A : Type 0} → (A → ℕ) → (A → Type 0) → ℕ → Reply A → Type 0
Small value P bound r = (value_of value r < bound) × Fits P r

-- what is answered
pub small_answer : {A : Type 0} (value : A → ℕ) (P : A → Type 0) (bound : ℕ) (ts : List Test) (a : A) → TestsFit bound ts → (T (passes_all ts) → (value a < bound) × P a)
    → Small value P bound (answered ts a)
unfolding answered passes_all
small_answer value P bound [] a h k = k tt
small_answer {A} value P bound (t ∷ ts) a h k = by t.passed refl (λ p. small_answer value P bound ts a (h.1 p) (λ q. k (pass t ts p q)))
  where
    by : (b : Bool) → t.passed ≡ b → (T t.passed → Small value P bound (answered ts a)) → Small value P bound (cond b (answered ts a) (refused t.number t.place))
    by true e rest = rest (subst T (sym e) tt)
    by false e rest = (h.0.0, (h.0.1, h.0.2))

-- what is answered fits, whatever its value is
pub fits-answer : {A : Type 0} (P : A → Type 0) (ts : List Test) (a : A) → Each (TestFits 1) ts → (T (passes_all ts) → P a) → Fits P (answered ts a)
fits-answer P ts a h k = (small_answer (λ x. 0) P 1 ts a (each_fits 1 ts h) (λ p. (omega arith, k p))).1

-- a reply to what is delivered is small
abbrev pub SmallValue : {A : Type 0} → (A → ℕ) → (A → Type 0) → Delivery A → Type 0
SmallValue {A} value P d = (out : List ℕ) (r : Reply A) → r ≡ delivery_reply d out → (value_of value r < value_bound) × Fits P r

-- a count that has 32 bits
abbrev pub Few : ℕ → Type 0
Few k = k < retry_unit

abbrev pub SmallReply : Delivery ℕ → Type 0
SmallReply = SmallValue count_value Few

delivery_below : {A : Type 0} (value : A → ℕ) (P : A → Type 0) (bound : ℕ) (d : Delivery A) → 1 ≤ bound → TestsFit bound d.tests
    → (T (passes_all d.tests) → (value d.answer < bound) × P d.answer) → (out : List ℕ) → Small value P bound (delivery_reply d out)
unfolding delivery_reply
delivery_below value P bound d least h k out =
    let room = room_test d.text out ∷ [] in
    small_answer value P bound (d.tests ++ room) d.answer (fits_append bound d.tests room h (omega arith, λ p. tt))
    (λ p. k (and_l (passes_all d.tests) (passes_all room) (subst T (passes_append d.tests room) p)))

small_value : {A : Type 0} (value : A → ℕ) (P : A → Type 0) (d : Delivery A) → TestsFit value_bound d.tests
    → (T (passes_all d.tests) → (value d.answer < value_bound) × P d.answer) → SmallValue value P d
small_value value P d h k out r e = rw e (delivery_below value P value_bound d (omega arith) h k out)

-- a count below the retries is small
count_small : (k : ℕ) → Few k → (k < value_bound) × Few k
count_small k l = (omega arith, l)

small_delivery : (d : Delivery ℕ) → TestsFit value_bound d.tests → (T (passes_all d.tests) → Few d.answer) → SmallReply d
small_delivery d h k = small_value count_value Few d h (λ p. count_small d.answer (k p))

-- ---- tables

pub fresh_small : (n : ℕ) → SmallReply (fresh_entry n)
fresh_small n =
    small_delivery (fresh_entry n) (each_fits value_bound (fresh_entry n).tests (omega arith))
    (λ p. omega (arith, fresh-length n, leb→le n most_threads (and_r (leb 1 n) (leb n most_threads) (peel _ [] p).0)))

-- a table that passed test 1 has at most 200 threads
few : (bytes : List ℕ) (ts : List Test) → T (passes_all (test 1 (sized bytes) ∷ ts)) → (table_of bytes).threads ≤ most_threads
few bytes ts p = (sized_e bytes (peel _ ts p).0).most

pub nodes_small : (bytes : List ℕ) → SmallReply (nodes_entry bytes)
unfolding nodes_of
nodes_small bytes =
    small_delivery (nodes_entry bytes) (each_fits value_bound (table_tests bytes) (omega arith))
    (λ p. omega (arith, few bytes _ p, length-list_of (table_of bytes).threads (λ i. node_of ((table_of bytes).phase i))))

pub open_small : (bytes : List ℕ) (thread : ℕ) → SmallReply (open_entry bytes thread)
open_small bytes thread =
    small_delivery (open_entry bytes thread) (each_fits value_bound (open_entry bytes thread).tests (omega arith))
    (λ p. omega (arith, few bytes _ p, open_short (table_of bytes) thread))

-- ---- check and plan

-- a history that passed test 8 has at most 60,000 bytes, so that its pairs' places are small
check-fits : (n : ℕ) (bytes : List ℕ) → TestsFit value_bound (check_tests n bytes)
unfolding tests_of
check-fits n bytes = (omega arith, λ p. (omega arith, λ q. fits-gather value_bound (tests_of n (pairs_of bytes)) (length (pairs_of bytes)) (pair q)))
  where
    pair : T (eqb (length bytes % 2) 0 && leb (length bytes) most_history) → (k : ℕ) → k < length (pairs_of bytes) → TestsFit value_bound (tests_of n (pairs_of bytes) k)
    pair q k l =
        let short = leb→le (length bytes) most_history (and_r (eqb (length bytes % 2) 0) (leb (length bytes) most_history) q) in
        let below : k < value_bound = omega (arith, pairs-length bytes) in
        each_fits value_bound (tests_of n (pairs_of bytes) k) (omega arith)

-- what the check shows of a history
checked : (n : ℕ) (bytes : List ℕ) → T (passes_all (check_tests n bytes)) → (n ≤ most_threads) × (length (pairs_of bytes) ≤ most_history / 2)
checked n bytes p = let f = (tests_e n bytes p).0 in (f.most, omega (arith, f.short, pairs-length bytes))

pub check_small : (n : ℕ) (bytes : List ℕ) (r : Reply ℕ) → r ≡ check_reply n bytes → (value_in r < value_bound) × Fits Few r
unfolding check_reply
check_small n bytes r e =
    rw e (small_answer count_value Few value_bound (check_tests n bytes) (length (pairs_of bytes)) (check-fits n bytes)
    (λ p. count_small (length (pairs_of bytes)) (omega (arith, (checked n bytes p).1))))

plan-moves : (n : ℕ) (h : List Pair) → n ≤ most_threads → length (plan n h) ≤ 613 * length h
unfolding plan
plan-moves n [] l = omega arith
plan-moves n (x ∷ xs) l = omega (arith, length-append (plan_of n x) (plan n xs), event-most n x, plan-moves n xs l)

-- so the plan of a history that the check passes is short
plan-short : (n : ℕ) (bytes : List ℕ) → T (passes_all (check_tests n bytes)) → length (plan n (pairs_of bytes)) < retry_unit
plan-short n bytes p = let c = checked n bytes p in omega (arith, plan-moves n (pairs_of bytes) c.0, c.1)

pub length_small : (n : ℕ) (bytes : List ℕ) (r : Reply ℕ) → r ≡ plan_length_reply n bytes → (value_in r < value_bound) × Fits Few r
unfolding plan_length_reply
length_small n bytes r e =
    rw e (small_answer count_value Few value_bound (check_tests n bytes) (length (plan n (pairs_of bytes))) (check-fits n bytes)
    (λ p. count_small (length (plan n (pairs_of bytes))) (plan-short n bytes p)))

pub plan_small : (n : ℕ) (bytes : List ℕ) → SmallReply (plan_entry n bytes)
plan_small n bytes =
    small_delivery (plan_entry n bytes) (check-fits n bytes) (plan-short n bytes)

-- ---- the run

pub run_small : (script : List ℕ) → SmallValue run_value (λ c. c.bytes < retry_unit) (run_entry script)
run_small script =
    small_value run_value (λ c. c.bytes < retry_unit) (run_entry script) (each_fits value_bound (run_entry script).tests (omega arith))
    (λ p.
    let short = leb→le (length script) most_script (peel _ [] p).0 in
    let few = suffices script short in
    (omega (arith, short, few, retries-few script), omega (arith, few)))

-- ---- scripts written and read

-- a place that is held is small, whatever it was
place-held : (place : ℕ) → held_place place < value_bound
place-held place = cond_either (λ (k : ℕ). k < value_bound) (leb place (value_bound - 1)) place (value_bound - 1) (λ t. let l = leb→le place (value_bound - 1) t in omega arith) (λ t. omega arith)

-- the places of a list's triples are their indices
triples_fit : (bound n k : ℕ) (rs : List Request) → k + length rs ≤ bound → TestsFit bound (triples_tests k n rs)
unfolding triples_tests
triples_fit bound n k [] h = tt
triples_fit bound n k (r ∷ rs) h = fits_append bound (number_tests k n r) (triples_tests (suc k) n rs) (each_fits bound (number_tests k n r) (omega arith)) (triples_fit bound n (suc k) rs (omega arith))

-- a script that is written is short
module _ (n : ℕ) (triples : List ℕ) where
  written_few : T (passes_all (write_tests n triples)) → Few (length (script_of n (requests_of triples)))
  written_few t =
      let p = (passes-split (triples_tests 0 n (requests_of triples)) _ (peel _ _ (peel _ _ t).1).1).1 in
      omega (arith, leb→le (length (script_of n (requests_of triples))) most_script (peel _ _ p).0)

  -- with any bound that the places stay below
  write_below : (bound : ℕ) → retry_unit ≤ bound → length (requests_of triples) ≤ bound → (out : List ℕ) → Small count_value Few bound (delivery_reply (write_entry n triples) out)
  write_below bound high long out =
      delivery_below count_value Few bound (write_entry n triples) (omega arith) (omega arith, λ p. (omega arith, λ q. places)) (λ t. let few = written_few t in (omega arith, few)) out
    where
      places : TestsFit bound (triples_tests 0 n (requests_of triples) ++ (test 8 (leb (length (script_of n (requests_of triples))) most_script) ∷ []))
      places = fits_append bound (triples_tests 0 n (requests_of triples)) _ (triples_fit bound n 0 (requests_of triples) (omega arith)) (omega arith, λ u. tt)

-- what is held is small
held_small : (x : Reply ℕ) → Fits Few x → (value_in (held x) < value_bound) × Fits Few (held x)
held_small (accepted count) f = count_small count f
held_small (refused number place) f = (place-held place, f)

pub write_small : (n : ℕ) (triples out : List ℕ) (r : Reply ℕ) → r ≡ held (delivery_reply (write_entry n triples) out) → (value_in r < value_bound) × Fits Few r
write_small n triples out r e =
    rw e (held_small (delivery_reply (write_entry n triples) out) (write_below n triples (retry_unit + length (requests_of triples)) (omega arith) (omega arith) out).1)

-- and is the place itself, but for a list of more triples than the bound
pub write-held : (n : ℕ) (triples out : List ℕ) → length triples ≤ 3 * value_bound → held (delivery_reply (write_entry n triples) out) ≡ delivery_reply (write_entry n triples) out
write-held n triples out l =
    same (delivery_reply (write_entry n triples) out) (write_below n triples value_bound (omega arith) (omega (arith, triples_count triples)) out).0
  where
    same : (x : Reply ℕ) → value_in x < value_bound → held x ≡ x
    same (accepted count) h = refl
    same (refused number place) h = ap (refused number) (cond_yes (leb place (value_bound - 1)) place (value_bound - 1) (le→leb place (value_bound - 1) (omega arith)))

-- the places of a script's lines are their numbers
line_fits : (bound k n : ℕ) (f : Form) → k < bound → TestsFit bound (line_tests k n f)
line_fits bound k n (threads m) h = (omega arith, λ p. tt)
line_fits bound k n (request r) h = each_fits bound (number_tests k n r) (omega arith)
line_fits bound k n note h = tt
line_fits bound k n bad h = (omega arith, λ p. tt)

lines_fit : (bound k n : ℕ) (ls : List Line) → k + length ls ≤ bound → TestsFit bound (lines_tests k n ls)
unfolding lines_tests
lines_fit bound k n [] h = tt
lines_fit bound k n (l ∷ ls) h = fits_append bound (line_tests k n (line_form l)) _ (line_fits bound k n (line_form l) (omega arith)) (lines_fit bound (suc k) n ls (omega arith))

first_fits : (bound : ℕ) (f : Form) → 1 < bound → TestsFit bound (first_tests f)
first_fits bound (threads m) h = (omega arith, λ p. tt)
first_fits bound (request r) h = (omega arith, λ p. tt)
first_fits bound note h = (omega arith, λ p. tt)
first_fits bound bad h = (omega arith, λ p. tt)

script_fits : (bound : ℕ) (ls : List Line) → 1 < bound → 2 + length ls ≤ bound → TestsFit bound (script_tests ls)
unfolding script_tests
script_fits bound ls h k =
    fits_append bound (first_tests (first_form ls)) _ (first_fits bound (first_form ls) h) (lines_fit bound 2 (threads_of_lines ls) (drop 1 ls) (omega (arith, length-drop 1 ls)))

-- a script that can be read has an N up to 200
script_count : (ls : List Line) → T (passes_all (script_tests ls)) → threads_of_lines ls ≤ most_threads
unfolding script_tests
script_count ls t = by (first_form ls) (passes-split (first_tests (first_form ls)) _ t).0
  where
    by : (f : Form) → T (passes_all (first_tests f)) → threads_first f ≤ most_threads
    by (threads n) p = count_most n (peel _ [] p).0
    by (request r) p = omega arith
    by note p = omega arith
    by bad p = omega arith

-- its N has a byte, and its value 32 bits
pub record ListedFits (l : Listed) : Type 0 where
  pub byte : l.threads < 256
  pub few : listed_value l < retry_unit

pub read_small : (script : List ℕ) → SmallValue listed_value ListedFits (read_entry script)
read_small script =
    small_value listed_value ListedFits (read_entry script)
    (omega arith, λ p. script_fits value_bound (lines_of script) (omega arith) (omega (arith, lines-count script, leb→le (length script) most_script p)))
    (λ t.
    let a = peel _ _ t in
    let l = (read_entry script).answer in
    let most = script_count (lines_of script) a.1 in
    let short = leb→le (length script) most_script a.0 in
    let few : listed_value l < retry_unit = omega (arith, most, read-few script, short) in
    (omega arith, record { byte = omega (arith, most); few = few }))
