-- Writing what was read gives the script without its note lines, byte for byte, for every script that can be read.
-- First as definitions (`write_back`), then through the two entries (`written_read`): the triples that were read stand at the front of the output, and are written from there.
-- A line that says N or a request is the one that is written for it, since reading is the inverse of spelling.
use Prim.Native.Nat.{ℕ, suc, ◌+◌, ◌≤◌}
use native.Mathlib.Omega.{arith}
use mathlib.Core.Bool.{Bool, true, false, cond}
use mathlib.Core.List.{List, [], ◌∷◌, ◌++◌}
use mathlib.Core.Path.{◌≡◌, refl, sym, subst, ap, ◌∙◌}
use lib.Dec.{T, leb→le}
use lib.ListN.{length, take, drop, length-append}
use Rattle.definitions.specs.Answers.{accepted, passes_all, filled, delivery_reply, delivery_output}
use Rattle.definitions.specs.Bounds.{most_script}
use Rattle.definitions.specs.Chains.{requests_of}
use Rattle.definitions.specs.Forms.{Form, threads, request, note, bad, threads_line, spelled, form_of, line_form, first_tests, threads_first, line_tests, request_in}
use Rattle.definitions.specs.Plan.{bytes_of}
use Rattle.definitions.specs.Scripts.{ended, moves_text, script_of, lines_tests, requests_in, script_tests, threads_of_lines, threads_of, stated_by, Listed, write_entry, read_entry}
use Rattle.definitions.specs.Table.{count_fits}
use Rattle.definitions.specs.Texts.{Line, lines_of}
use Rattle.definitions.specs.declared.Request.{Request}
use Rattle.basics.specs.Outputs.{Delivered}
use Rattle.forms.specs.Grammar.{Spells}
use Rattle.round_trips.specs.Exchange.{Writable, Readable, is_note, without_notes}
use Rattle.basics.proofs.Outputs.{whole, delivered_as, answered_so, text_first}
use Rattle.basics.proofs.Replies.{peel}
use Rattle.basics.proofs.TestLists.{passes-split}
use Rattle.forms.proofs.Spelling.{read-spelled}
use Rattle.runs.proofs.Lines.{line_size, size_of, lines-size}
use Rattle.theory.proofs.RequestNumbers.{AllNumbersFit, numbers_e}
use Rattle.theory.proofs.Triples.{bytes_read}
use Rattle.round_trips.proofs.WrittenLines.{line_of, bytes_writable}

-- ---- one line

-- a line that says N or a request is the line written for it
abbrev pub LineIs : Line → Form → Type 0
LineIs l (threads n) = l ≡ line_of (threads_line n)
LineIs l (request r) = l ≡ line_of (spelled r)
LineIs l note = Unit {0}
LineIs l bad = Unit {0}

pub line_is : (l : Line) → LineIs l (line_form l)
line_is l = by l.ended l.text
  where
    spells : (text : List ℕ) (f : Form) → Spells text f → LineIs (line_of text) f
    spells text (threads n) s = ap line_of s.is_spelled
    spells text (request r) s = ap line_of s.is_spelled
    spells text note s = tt
    spells text bad s = tt

    by : (b : Bool) (text : List ℕ) → LineIs (record { text = text; ended = b }) (cond b (form_of text) bad)
    by true text = spells text (form_of text) (read-spelled text)
    by false text = tt

-- what stays of a line
abbrev kept : Line → Form → List ℕ
kept l f = cond (is_note f) [] (ended l.text)

-- ---- the lines behind the first

-- the numbers of requests fit, and a script of them is a text of at most so many bytes
record Rewritten (n : ℕ) (rs : List Request) (script text : List ℕ) (size : ℕ) : Type 0 where
  pub numbers : AllNumbersFit n rs
  pub same : script ≡ text
  pub short : length text ≤ size

-- the same with a line in front
with_line : (n : ℕ) (rs : List Request) (script text : List ℕ) (size : ℕ) (l : Line) (xs : List ℕ) → l ≡ line_of xs → Rewritten n rs script text size
    → Rewritten n rs (ended xs ++ script) (ended l.text ++ text) (line_size l + size)
with_line n rs script text size l xs is w =
    subst (λ (line : Line). Rewritten n rs (ended xs ++ script) (ended line.text ++ text) (line_size line + size)) (sym is)
    record { numbers = w.numbers; same = ap (λ (ys : List ℕ). ended xs ++ ys) w.same; short = simp length-append (omega (arith, w.short)) }

-- a line that passes its tests is a request's or a note
line_rewritten : (n k : ℕ) (l : Line) (f : Form) (rs : List Request) (text : List ℕ) (size : ℕ) → LineIs l f → T (passes_all (line_tests k n f))
    → Rewritten n rs (moves_text rs) text size → Rewritten n (request_in f ++ rs) (moves_text (request_in f ++ rs)) (kept l f ++ text) (line_size l + size)
unfolding moves_text
line_rewritten n k l (threads m) rs text size is t w = absurd (peel _ _ t).0
line_rewritten n k l (request r) rs text size is t w =
    let v = with_line n rs (moves_text rs) text size l (spelled r) is w in
    record { numbers = (numbers_e k n r t, w.numbers); same = v.same; short = v.short }
line_rewritten n k l note rs text size is t w = record { numbers = w.numbers; same = w.same; short = omega arith }
line_rewritten n k l bad rs text size is t w = absurd (peel _ _ t).0

lines_rewritten : (n k : ℕ) (ls : List Line) → T (passes_all (lines_tests k n ls)) → Rewritten n (requests_in ls) (moves_text (requests_in ls)) (without_notes ls) (size_of ls)
unfolding moves_text lines_tests requests_in without_notes
lines_rewritten n k [] t = record { numbers = tt; same = refl; short = omega arith }
lines_rewritten n k (l ∷ ls) t =
    let p = passes-split (line_tests k n (line_form l)) (lines_tests (suc k) n ls) t in
    line_rewritten n k l (line_form l) (requests_in ls) (without_notes ls) (size_of ls) (line_is l) p.0 (lines_rewritten n (suc k) ls p.1)

-- ---- the script

-- the same of a whole script, whose first line gives its N
abbrev ScriptRewritten : ℕ → List Line → List ℕ → ℕ → Type 0
ScriptRewritten n ls text size = T (count_fits n) × Rewritten n (requests_in ls) (script_of n (requests_in ls)) text size

first_rewritten : (l : Line) (f : Form) (ls : List Line) → LineIs l f → T (passes_all (first_tests f ++ lines_tests 2 (threads_first f) ls))
    → ScriptRewritten (threads_first f) ls (kept l f ++ without_notes ls) (line_size l + size_of ls)
unfolding script_of
first_rewritten l (threads n) ls is t =
    let p = peel _ _ t in
    (p.0, with_line n (requests_in ls) (moves_text (requests_in ls)) (without_notes ls) (size_of ls) l (threads_line n) is (lines_rewritten n 2 ls p.1))
first_rewritten l (request r) ls is t = absurd (peel _ _ t).0
first_rewritten l note ls is t = absurd (peel _ _ t).0
first_rewritten l bad ls is t = absurd (peel _ _ t).0

script_rewritten : (ls : List Line) → T (passes_all (script_tests ls)) → ScriptRewritten (threads_of_lines ls) (drop 1 ls) (without_notes ls) (size_of ls)
unfolding script_tests without_notes
script_rewritten [] t = absurd (peel _ _ t).0
script_rewritten (l ∷ ls) t = first_rewritten l (line_form l) ls (line_is l) t

-- What a script that can be read states can be written, and gives the script but for its notes.
pub write_back : (script : List ℕ) → Readable script
    → Writable (threads_of script) (bytes_of (stated_by script))
    × (script_of (threads_of script) (requests_of (bytes_of (stated_by script))) ≡ without_notes (lines_of script))
write_back script t =
    let p = peel _ _ t in
    let (count, w) = script_rewritten (lines_of script) p.1 in
    let long = leb→le (length script) most_script p.0 in (
      bytes_writable (threads_of script) (stated_by script) count w.numbers (omega (arith, ap length w.same, w.short, lines-size script)),
      ap (script_of (threads_of script)) (bytes_read (stated_by script)) ∙ w.same,
    )

-- Whatever script the reading entry accepts, the writing entry, with enough bytes lent, writes for the N and the triples read the script without its notes.
pub written_read : (script out back : List ℕ) (a : Listed) → delivery_reply (read_entry script) out ≡ accepted a → length (without_notes (lines_of script)) ≤ length back
    → let triples = take a.bytes (delivery_output (read_entry script) out) in
    let text = without_notes (lines_of script) in
    Delivered (write_entry a.threads triples) back (filled back text) (accepted (length text))
written_read script out back a e room =
    let s = answered_so (read_entry script) out a e in
    let w = write_back script s.tested in
    let count : a.threads ≡ threads_of script = sym (ap (λ (x : Listed). x.threads) s.answer) in
    rw (text_first (read_entry script) out a a.bytes e (ap (λ (x : Listed). x.bytes) s.answer), count)
    (delivered_as (whole (write_entry (threads_of script) (bytes_of (stated_by script))) back w.0 (rw w.1 room))
    (ap (filled back) (sym w.1)) (ap (λ (xs : List ℕ). accepted (length xs)) (sym w.1)))
