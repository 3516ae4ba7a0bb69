-- Lines: their bytes add up to the script's, a line that states a request has the bytes of its form, and what a line does to the run.
use Prim.Native.Nat.{ℕ, suc, ◌+◌, ◌-◌, ◌*◌, ◌≤◌}
use native.Mathlib.Omega.{arith}
use mathlib.Core.Bool.{Bool, true, false, cond, ◌&&◌}
use mathlib.Core.List.{List, [], ◌∷◌}
use mathlib.Core.Path.{◌≡◌, refl, ap, ◌∙◌}
use lib.Dec.{T, leb, eqb, leb→le}
use lib.ListN.{length, get_or, take, drop, length-append, length-drop}
use Rattle.definitions.specs.Answers.{Reply, accepted, refused, MoveAnswer, Test, answered}
use Rattle.definitions.specs.Bounds.{last_move}
use Rattle.definitions.specs.Codes.{set_move, clear_move}
use Rattle.definitions.specs.Forms.{Form, threads, request, note, bad, act_text, note_fits, note_form, threads_form, target_form, aimed_form, plain_moves, act_form, move_form, form_of, line_form, request_in}
use Rattle.definitions.specs.Moves.{ask, calls, reply_in, move_reply}
use Rattle.definitions.specs.Plan.{bytes_of}
use Rattle.definitions.specs.Run.{Turn, stops, passes, makes, turn_for, turn_of}
use Rattle.definitions.specs.Scripts.{requests_in, move_lines, stated_by}
use Rattle.definitions.specs.Texts.{bytes, same, starts, line_feed, Line, in_front, lines_of, decimal_within, decimal, NumberRead, number_read}
use Rattle.definitions.specs.Threads.{every, implies}
use Rattle.definitions.specs.declared.Request.{Request}
use Rattle.basics.specs.ShortestLines.{shortest_move}
use Rattle.basics.proofs.Numbers.{decimal-some}
use Rattle.basics.proofs.Quantifiers.{every_at}
use Rattle.basics.proofs.Tests.{T_true, and_l, and_r, implies_e, cond_either}
use Rattle.basics.proofs.Texts.{starts-length}
use Rattle.theory.proofs.Lengths.{bytes-length}
use Rattle.theory.proofs.LineTurns.{numbers, request_either}
use Rattle.theory.proofs.PlainMoves.{plain_e, plain_form_lem}
use Rattle.runs.proofs.Numbers.{printed_digits, digits_split}

-- ---- the bytes of lines

-- a line's bytes, its line feed among them
abbrev pub line_size : Line → ℕ
line_size l = length l.text + cond l.ended 1 0

abbrev pub size_of : List Line → ℕ
size_of [] = 0
size_of (l ∷ ls) = line_size l + size_of ls

-- the lines behind the first
pub behind-size : (ls : List Line) → size_of (drop 1 ls) ≤ size_of ls
behind-size [] = omega arith
behind-size (l ∷ ls) = omega arith

front_size : (c : ℕ) (ls : List Line) → size_of (in_front c ls) ≡ suc (size_of ls)
front_size c [] = refl
front_size c (l ∷ ls) = omega arith

pub lines-size : (cs : List ℕ) → size_of (lines_of cs) ≡ length cs
unfolding lines_of
lines-size [] = refl
lines-size (c ∷ cs) =
    cond_either (λ (ls : List Line). size_of ls ≡ suc (length cs)) (eqb c line_feed) (record { text = []; ended = true } ∷ lines_of cs) (in_front c (lines_of cs))
    (λ t. let rest = lines-size cs in omega arith)
    (λ t. front_size c (lines_of cs) ∙ ap suc (lines-size cs))

front_count : (c : ℕ) (ls : List Line) → length (in_front c ls) ≤ suc (length ls)
front_count c [] = omega arith
front_count c (l ∷ ls) = omega arith

pub lines-count : (cs : List ℕ) → length (lines_of cs) ≤ length cs
unfolding lines_of
lines-count [] = omega arith
lines-count (c ∷ cs) =
    cond_either (λ (ls : List Line). length ls ≤ suc (length cs)) (eqb c line_feed) (record { text = []; ended = true } ∷ lines_of cs) (in_front c (lines_of cs))
    (λ t. let rest = lines-count cs in omega arith)
    (λ t. let rest = lines-count cs in let front = front_count c (lines_of cs) in omega arith)

-- ---- the bytes of a request's line

starts-split : (p xs : List ℕ) → T (starts p xs) → length xs ≡ length p + length (drop (length p) xs)
starts-split p xs t = omega (arith, length-drop (length p) xs, starts-length p xs (T_true (starts p xs) t))

-- a line of so many bytes has room for a request of a thread: `(T (go))` is the shortest, and a call takes nine bytes more
pub record LineFits (size thread mv : ℕ) : Type 0 where
  pub plain : length (decimal thread) + 8 ≤ size
  pub call : T (calls mv) → length (decimal thread) + 17 ≤ size

abbrev pub Long : ℕ → Form → Type 0
Long size (threads n) = Unit {0}
Long size (request r) = LineFits size r.thread r.mv
Long size note = Unit {0}
Long size bad = Unit {0}

target-long : (size thread mv : ℕ) (r : NumberRead) → LineFits size thread mv → Long size (target_form thread mv r)
target-long size thread mv r w =
    cond_either (Long size) (r.fits && same r.rest (bytes "))")) (request (ask thread mv r.value)) bad (λ t. w) (λ t. tt)

-- behind T: a move that names no thread has the bytes of its text, of which " (go))" has 6 and " (call shared))" 15, by trying the moves
plain-long : (size thread mv n : ℕ) → mv ≤ last_move → n ≡ length (act_text mv 0) → length (decimal thread) + n + 2 ≤ size → LineFits size thread mv
unfolding every act_text bytes decimal_within
plain-long size thread mv n l e fits =
    let most : ℕ → Bool = λ k. leb 6 (length (act_text k 0)) && implies (calls k) (leb 15 (length (act_text k 0))) in
    let t = every_at most (suc last_move) tt mv (omega arith) in
    let six = leb→le 6 (length (act_text mv 0)) (and_l (leb 6 (length (act_text mv 0))) _ t) in
    record {
      plain = omega arith;
      call = λ c. let fifteen = leb→le 15 (length (act_text mv 0)) (implies_e (calls mv) _ (and_r (leb 6 (length (act_text mv 0))) _ t) c) in omega arith;
    }

-- one that does has a word in front of its target
aimed_long : (size thread : ℕ) (xs : List ℕ) → length (decimal thread) + length xs + 2 ≤ size → Long size (aimed_form thread xs)
unfolding aimed_form bytes
aimed_long size thread xs fits =
    cond_either (Long size) (starts (bytes " (set ") xs) _ _
    (λ t. target-long size thread set_move (number_read (drop 6 xs)) (short set_move (λ u. u) (omega (arith, starts-split (bytes " (set ") xs t))))
    (λ t1. cond_either (Long size) (starts (bytes " (clear ") xs) _ _
    (λ t. target-long size thread clear_move (number_read (drop 8 xs)) (short clear_move (λ u. u) (omega (arith, starts-split (bytes " (clear ") xs t))))
    (λ t2. tt))
  where
    short : (mv : ℕ) → (T (calls mv) → ⊥) → 6 ≤ length xs → LineFits size thread mv
    short mv other l = record { plain = omega arith; call = λ e. absurd (other e) }

act_long : (size thread : ℕ) (xs : List ℕ) → length (decimal thread) + length xs + 2 ≤ size → Long size (act_form thread xs)
unfolding act_form
act_long size thread xs fits =
    plain_form_lem (Long size) thread xs (aimed_form thread xs) (aimed_long size thread xs fits) plain_moves
    (λ mv m e. plain-long size thread mv (length xs) (plain_e mv m).0 (ap length e) fits)

-- behind the first bracket
move-long : (size : ℕ) (xs : List ℕ) → length xs + 2 ≤ size → Long size (move_form (number_read xs))
unfolding number_read
move-long size xs fits =
    cond_either (Long size) (number_read xs).fits _ bad
    (λ t. let read = printed_digits xs t in let split = digits_split xs in act_long size (number_read xs).value (number_read xs).rest (omega arith))
    (λ t. tt)

-- the number of threads is no request
count_long : (size : ℕ) (r : NumberRead) → Long size (threads_form r)
count_long size r = cond_either (Long size) (r.fits && same r.rest (bytes ")")) (threads r.value) bad (λ u. tt) (λ u. tt)

note-long : (size : ℕ) (xs : List ℕ) → Long size (note_form xs)
unfolding note_form
note-long size xs = cond_either (Long size) (eqb (get_or xs (length xs - 1) 0) 41 && note_fits (take (length xs - 1) xs)) note bad (λ u. tt) (λ u. tt)

form_long : (line : List ℕ) → Long (length line + 1) (form_of line)
unfolding form_of bytes
form_long line =
    let P : Form → Type 0 = Long (length line + 1) in
    cond_either P (starts (bytes "(threads ") line) _ _ (λ t. count_long (length line + 1) (number_read (drop 9 line)))
    (λ t1. cond_either P (starts (bytes "(note ") line) _ _ (λ t. note-long (length line + 1) (drop 6 line))
    (λ t2. cond_either P (starts (bytes "(") line) _ _ (λ t. move-long (length line + 1) (drop 1 line) (omega (arith, starts-split (bytes "(") line t)))
    (λ t3. tt)))

line_long : (l : Line) → Long (line_size l) (line_form l)
line_long l = by l.ended l.text
  where
    by : (ended : Bool) (text : List ℕ) → Long (length text + cond ended 1 0) (cond ended (form_of text) bad)
    by true text = form_long text
    by false text = tt

-- ---- the requests that lines state

request-long : (size : ℕ) (f : Form) → Long size f → shortest_move * length (request_in f) ≤ size
request-long size (threads n) w = omega arith
request-long size (request r) w = omega (arith, w.plain, decimal-some r.thread)
request-long size note w = omega arith
request-long size bad w = omega arith

-- a request takes as many bytes as the shortest line of a move
pub stated_few : (ls : List Line) → shortest_move * length (requests_in ls) ≤ size_of ls
unfolding requests_in
stated_few [] = omega arith
stated_few (l ∷ ls) =
    omega (arith, request-long (line_size l) (line_form l) (line_long l), stated_few ls, length-append (request_in (line_form l)) (requests_in ls))

-- so the triples that a script states take a third of its bytes at most
pub read-few : (script : List ℕ) → 3 * length (bytes_of (stated_by script)) ≤ length script
read-few script = omega (arith, bytes-length (stated_by script), stated_few (move_lines script), behind-size (lines_of script), lines-size script)

-- ---- what a line does to the run

-- refusal numbers have one digit
abbrev Small : List Test → Type 0
Small [] = Unit {0}
Small (t ∷ ts) = (t.number ≤ 9) × Small ts

refused_small : {A : Type 0} (ts : List Test) (a : A) (number place : ℕ) → Small ts → answered ts a ≡ refused number place → number ≤ 9
unfolding answered
refused_small [] a number place h e = absurd (let z : ◌≡◌ {A = ℕ} 0 1 = cc in omega arith)
refused_small (t ∷ ts) a number place h e = by t.passed e (λ d. refused_small ts a number place h.1 d)
  where
    by : (b : Bool) → cond b (answered ts a) (refused t.number t.place) ≡ refused number place → (answered ts a ≡ refused number place → number ≤ 9) → number ≤ 9
    by true d rec = rec d
    by false d rec = let same : t.number ≡ number = cc in let low = h.0 in omega arith

move_small : (table : List ℕ) (r : Request) (number place : ℕ) → move_reply table r ≡ refused number place → number ≤ 9
unfolding reply_in
move_small table r number place e =
    refused_small _ _ number place (omega arith, (omega arith, (omega arith, (omega arith, (omega arith, (omega arith, (omega arith, tt))))))) e

-- a line that stops the run has a refusal of one digit, one that makes a move is an accepted request and has the bytes of its form
abbrev pub Does : List ℕ → ℕ → Turn → Type 0
Does table size (stops number) = number ≤ 9
Does table size passes = Unit {0}
Does table size (makes r answer) = (move_reply table r ≡ accepted answer) × LineFits size r.thread r.mv

form_does : (table : List ℕ) (size : ℕ) (f : Form) → Long size f → Does table size (turn_of table f)
unfolding answered
form_does table size (threads n) w = omega arith
form_does table size (request r) w =
    request_either table r (Does table size) (λ number place e. refused_small (numbers table r) (r ∷ []) number place (omega arith, (omega arith, (omega arith, tt))) e) (by (move_reply table r) refl)
  where
    by : (x : Reply MoveAnswer) → move_reply table r ≡ x → Does table size (turn_for r x)
    by (accepted answer) e = (e, w)
    by (refused number place) e = move_small table r number place e
form_does table size note w = tt
form_does table size bad w = omega arith

pub line_does : (table : List ℕ) (l : Line) → Does table (line_size l) (turn_of table (line_form l))
line_does table l = form_does table (line_size l) (line_form l) (line_long l)
