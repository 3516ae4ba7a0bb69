-- What the loop over the lines knows at each of them, and that each turn of it keeps that.
use Prim.Native.Nat.{ℕ, suc, ◌+◌, ◌*◌, ◌%◌, ◌≤◌}
use native.Mathlib.Nat.{zero-add}
use native.Mathlib.Omega.{arith}
use mathlib.Core.List.{List, [], ◌∷◌, ◌++◌, append_assoc}
use mathlib.Core.Path.{◌≡◌, refl, sym, ap, ◌∙◌}
use lib.ListN.{length, take, drop, drop_of_length-le}
use lib.Seq.{length-take-le}
use Rattle.definitions.specs.Answers.{Seen, shown, quiet, number_of}
use Rattle.definitions.specs.PlainLock.{pairs_of}
use Rattle.definitions.specs.Run.{Turn, stops, passes, makes, event_lines, printed, retries_from}
use Rattle.definitions.specs.Texts.{Line}
use Rattle.definitions.specs.declared.Refusal.{Refusal}
use Rattle.definitions.specs.declared.Refused.{Refused}
use Rattle.apply.specs.MoveMade.{TestedTable}
use Rattle.basics.specs.ShortestLines.{shortest_move}
use Rattle.endings.specs.LastLine.{ending_line}
use Rattle.theory.specs.Tables.{SoundBytes}
use Rattle.turns.specs.Steps.{pair_bytes, added, table_behind, moves_made, retries_made, PassedOn, StoppedBy}
use Rattle.turns.specs.declared.Passed.{Passed}
use Rattle.running.specs.Records.{lines_size, Roomy, Begun, RecordedIn}
use Rattle.std.specs.Prelude.{Result, Ok, Err}
use Rattle.text.specs.Cursors.{HasRoom}
use Rattle.text.specs.declared.Output.{Output}
use Rattle.basics.proofs.Chunks.{Next}
use Rattle.basics.proofs.Numbers.{decimal-some}
use Rattle.basics.proofs.Outputs.{put_front}
use Rattle.basics.proofs.Tests.{one_most}
use Rattle.runs.proofs.Lines.{line_size, size_of, Does, line_does}
use Rattle.theory.proofs.SoundKept.{sound-kept}
use Rattle.running.proofs.Histories.{lines_in, lines_append}
use Rattle.running.proofs.PrintedText.{turn_at, at_stop, at_pass, none_stop, counted-pass}

-- the bytes of lines, as the laws of runs have them
pub sizes : (ls : List Line) → lines_size ls ≡ size_of ls
sizes [] = refl
sizes (l ∷ ls) = omega (arith, sizes ls)

-- k lines have passed: the lines of the history so far, and what is printed from here on, are the whole output, and the retries so far, with those made from here on, are all of them
pub record AtLine (ls : List Line) (table₀ : List ℕ) (history₀ : Output) (table : List ℕ) (history : Output) (k steps retried count : ℕ) : Type 0 where
  pub moves-few : steps ≤ k
  pub retries-few : retried ≤ k
  pub shown-few : shortest_move * history.at + 2 * size_of (drop k ls) ≤ 2 * size_of ls
  pub pairs : history.at % 2 ≡ 0
  pub tested : TestedTable table count
  pub prints : printed table₀ 2 0 ls ≡ lines_in (take history.at history.bytes.now) ++ printed table (2 + k) steps (drop k ls)
  pub counts : retries_from table₀ ls ≡ retried + retries_from table (drop k ls)
  pub table-size : length table ≡ length table₀
  pub same_bytes : history.bytes.ghost_name ≡ history₀.bytes.ghost_name
  pub history-size : length history.bytes.now ≡ length history₀.bytes.now

-- where the loop begins
pub begun : {ls : List Line} {table : List ℕ} {history : Output} → Begun ls table history.bytes.now → history.at ≡ 0 → AtLine ls table history table history 0 0 0 0
unfolding pairs_of event_lines
begun {ls} {table} {history} b front =
    record {
      moves-few = omega arith;
      retries-few = omega arith;
      shown-few = omega (arith, front);
      pairs = rw front refl;
      tested = b.tested;
      prints = rw front refl;
      counts = sym (zero-add _);
      table-size = refl;
      same_bytes = refl;
      history-size = refl;
    }

-- a table stays sound behind a line
sound-behind : (table : List ℕ) (t : Turn) → SoundBytes table → SoundBytes (table_behind table t)
sound-behind table (stops number) s = s
sound-behind table passes s = s
sound-behind table (makes r answer) s = sound-kept table r s

-- a line makes one move at most
made-most : (t : Turn) → moves_made t ≤ 1
made-most (stops number) = omega arith
made-most passes = omega arith
made-most (makes r answer) = omega arith

-- of which one at most is a retry
retried-most : (t : Turn) → retries_made t ≤ 1
retried-most (stops number) = omega arith
retried-most passes = omega arith
retried-most (makes r answer) = one_most answer.retry

-- and it adds a pair or nothing, a pair only if it has as many bytes as the shortest line of a move
record OnePair (size : ℕ) (bytes : List ℕ) : Type 0 where
  pub even : length bytes % 2 ≡ 0
  pub few : shortest_move * length bytes ≤ 2 * size

seen_pair : (size thread : ℕ) (seen : Seen) → shortest_move ≤ size → OnePair size (pair_bytes thread seen)
seen_pair size thread (shown event) h = record { even = refl; few = omega arith }
seen_pair size thread quiet h = record { even = refl; few = omega arith }

added_pair : (table : List ℕ) (size : ℕ) (t : Turn) → Does table size t → OnePair size (added t)
added_pair table size (stops number) d = record { even = refl; few = omega arith }
added_pair table size passes d = record { even = refl; few = omega arith }
added_pair table size (makes r answer) d = seen_pair size r.thread answer.seen (omega (arith, d.1.plain, decimal-some r.thread))

module _ {ls : List Line} {table₀ : List ℕ} {history₀ : Output} {table : List ℕ} {history : Output} {k steps retried count : ℕ} (room : Roomy ls history₀.bytes.now)
    (g : AtLine ls table₀ history₀ table history k steps retried count) where
  at_within : history.at ≤ length history.bytes.now
  at_within = omega (arith, g.shown-few, g.history-size, room.pairs, sizes ls)

  -- the run ends here
  ends : (history' : Output) (ending : Result ℕ Refused) (written : ℕ) → history' ≡ history → written ≡ history'.at
      → printed table (2 + k) steps (drop k ls) ≡ ending_line ending → retries_from table (drop k ls) ≡ 0
      → RecordedIn table₀ ls history₀ history' (record { shown = written; retries = retried; ending = ending })
  ends history' ending written same w e none =
      rw (w, same)
      (record {
        same_bytes = g.same_bytes;
        recorded =
            record {
              fits = at_within;
              prints = g.prints ∙ ap (λ (xs : List ℕ). lines_in (take history.at history.bytes.now) ++ xs) e;
              counts = omega (arith, g.counts, none);
            };
      })

  -- ---- the last line was passed
  pub finished : {written : ℕ} → written ≡ history.at → k ≡ length ls → RecordedIn table₀ ls history₀ history (record { shown = written; retries = retried; ending = Ok steps })
  unfolding printed retries_from
  finished {written} w e =
      let none = drop_of_length-le ls (omega arith) in
      ends history (Ok steps) written refl w (ap (printed table (2 + k) steps) none) (ap (retries_from table) none)

  -- ---- a line
  module _ {l : Line} {next : ℕ} (t : Next ls k l next) where
    abbrev pub turn : Turn
    turn = turn_at table l

    size_here : size_of (drop k ls) ≡ line_size l + size_of (drop next ls)
    size_here = ap size_of t.left

    pair : OnePair (line_size l) (added turn)
    pair = added_pair table (line_size l) turn (line_does table l)

    pub line_room : HasRoom history (added turn)
    line_room = record { ends = omega (arith, pair.few, size_here, g.shown-few, g.history-size, room.pairs, sizes ls) }

    -- it stops the run
    pub stop : (history' : Output) (x : Refusal) → StoppedBy turn history history' (number_of x) → {written : ℕ} → written ≡ history'.at → (i : ℕ) → i ≡ k
        → RecordedIn table₀ ls history₀ history' (record { shown = written; retries = retried; ending = Err (record { refusal = x; place = 2 + i }) })
    stop history' x by {written} w i same =
        rw same
        (ends history' (Err (record { refusal = x; place = 2 + k })) written by.kept w
        (ap (printed table (2 + k) steps) t.left ∙ at_stop table (2 + k) steps l (drop next ls) (number_of x) by.stopped)
        (ap (retries_from table) t.left ∙ none_stop table l (drop next ls) (number_of x) by.stopped))

    module _ {table' : List ℕ} {history' : Output} {p : Passed} (s : PassedOn turn table history table' history' p) where
      -- it lets the run go on
      pub goes_on : length table' ≡ length table → AtLine ls table₀ history₀ table' history' next (steps + p.moves) (retried + p.retries) p.forbidden
      goes_on q =
          record {
            moves-few = omega (arith, g.moves-few, s.made, made-most turn, t.more);
            retries-few = omega (arith, g.retries-few, s.retried, retried-most turn, t.more);
            shown-few = omega (arith, g.shown-few, pair.few, s.put.put.next, size_here);
            pairs = omega (arith, g.pairs, pair.even, s.put.put.next);
            tested = record { tested = rw s.bytes (sound-behind table turn g.tested.tested); count = s.count };
            prints =
                g.prints
                ∙ (ap (λ (xs : List ℕ). lines_in (take history.at history.bytes.now) ++ xs) here
                ∙ (sym (append_assoc (lines_in (take history.at history.bytes.now)) (lines_in (added turn)) more) ∙ ap (λ (xs : List ℕ). xs ++ more) (sym front)));
            counts =
                let rest = ap (λ (t : List ℕ). retries_from t (drop next ls)) s.bytes in
                omega (arith, g.counts, s.retried, ap (retries_from table) t.left, counted-pass table l (drop next ls) s.passed, rest);
            table-size = q ∙ g.table-size;
            same_bytes = s.put.same_bytes ∙ g.same_bytes;
            history-size = s.put.size ∙ g.history-size;
          }
        where
          more : List ℕ
          more = printed table' (2 + next) (steps + p.moves) (drop next ls)

          line_next : suc (2 + k) ≡ 2 + next
          line_next = omega (arith, t.more)

          here : printed table (2 + k) steps (drop k ls) ≡ lines_in (added turn) ++ more
          here =
              ap (printed table (2 + k) steps) t.left
              ∙ (at_pass table (2 + k) steps l (drop next ls) s.passed ∙ rw (line_next, s.bytes, s.made) refl)

          -- the history behind the line
          longer : take history'.at history'.bytes.now ≡ take history.at history.bytes.now ++ added turn
          longer = rw (s.put.put.next, s.put.put.output) (put_front history.bytes.now history.at (added turn) line_room.ends)

          front : lines_in (take history'.at history'.bytes.now) ≡ lines_in (take history.at history.bytes.now) ++ lines_in (added turn)
          front = ap lines_in longer ∙ lines_append (take history.at history.bytes.now) (added turn) (rw (length-take-le history.at history.bytes.now at_within) g.pairs)
