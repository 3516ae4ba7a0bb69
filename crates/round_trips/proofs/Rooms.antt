-- Rooms that suffice: a script that can be read has a threads line and then a line for each move, which have at least the shortest lines' bytes, so that 9,996 bytes hold its triples.
-- A script that can be written has at most 30,000.
use Prim.Native.Nat.{ℕ, ◌+◌, ◌*◌, ◌≤◌}
use native.Mathlib.Omega.{arith}
use mathlib.Core.List.{List, [], ◌∷◌}
use mathlib.Core.Path.{sym, subst}
use lib.Dec.{T, leb→le}
use lib.ListN.{length, drop, length-append}
use Rattle.definitions.specs.Answers.{passes_all}
use Rattle.definitions.specs.Bounds.{most_script}
use Rattle.definitions.specs.Forms.{Form, threads, request, note, bad, threads_line, line_form, first_tests}
use Rattle.definitions.specs.Scripts.{requests_in, script_tests, stated_by, write_entry, read_entry}
use Rattle.definitions.specs.Texts.{bytes, Line, lines_of}
use Rattle.basics.specs.ShortestLines.{shortest_threads, shortest_move}
use Rattle.round_trips.specs.Exchange.{Writable, Readable, enough_triples}
use Rattle.basics.proofs.Numbers.{decimal-some}
use Rattle.basics.proofs.Replies.{peel}
use Rattle.basics.proofs.TestLists.{passes-split}
use Rattle.runs.proofs.Lines.{line_size, size_of, lines-size, stated_few}
use Rattle.theory.proofs.Lengths.{bytes-length}
use Rattle.round_trips.proofs.WrittenLines.{line_of, writable_e}
use Rattle.round_trips.proofs.WrittenRead.{LineIs, line_is}

threads-size : (n : ℕ) → shortest_threads ≤ line_size (line_of (threads_line n))
unfolding bytes
threads-size n = let some = decimal-some n in simp length-append (omega arith)

first_size : (l : Line) (f : Form) → LineIs l f → T (passes_all (first_tests f)) → shortest_threads ≤ line_size l
first_size l (threads n) is t = subst (λ (line : Line). shortest_threads ≤ line_size line) (sym is) (threads-size n)
first_size l (request r) is t = absurd (peel _ _ t).0
first_size l note is t = absurd (peel _ _ t).0
first_size l bad is t = absurd (peel _ _ t).0

lines-room : (ls : List Line) → T (passes_all (script_tests ls)) → shortest_move * length (requests_in (drop 1 ls)) + shortest_threads ≤ size_of ls
unfolding script_tests
lines-room [] t = absurd (peel _ _ t).0
lines-room (l ∷ ls) t = omega (arith, first_size l (line_form l) (line_is l) (passes-split (first_tests (line_form l)) _ t).0, stated_few ls)

-- 9,996 bytes hold the triples of every script that can be read.
pub read-room : (script : List ℕ) → Readable script → length (read_entry script).text ≤ enough_triples
read-room script t =
    let p = peel _ _ t in
    omega (arith, bytes-length (stated_by script), lines-room (lines_of script) p.1, lines-size script, leb→le (length script) most_script p.0)

-- 30,000 bytes hold every script that can be written.
pub write-room : (n : ℕ) (triples : List ℕ) → Writable n triples → length (write_entry n triples).text ≤ most_script
write-room n triples w = (writable_e n triples w).short
