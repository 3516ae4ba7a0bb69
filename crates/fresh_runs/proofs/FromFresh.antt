-- The fresh table that a run starts from, and what the first line makes of the run.
use Prim.Native.Nat.{ℕ, ◌≤◌}
use native.Mathlib.Omega.{arith}
use mathlib.Core.Bool.{Bool, true, false, not}
use mathlib.Core.List.{List, []}
use mathlib.Core.Logic.{⊎_elim}
use mathlib.Core.Path.{◌≡◌, sym, subst, ap, ◌∙◌}
use lib.Dec.{T, leb, eqb, leb→le}
use lib.ListN.{length, take, drop}
use lib.Seq.{take_at}
use Rattle.definitions.specs.Answers.{Reply, accepted, refused, is_accepted, number_of, Test, test, filled}
use Rattle.definitions.specs.Bounds.{most_threads}
use Rattle.definitions.specs.Forms as spec
use Rattle.definitions.specs.PlainLock.{pairs_of}
use Rattle.definitions.specs.Run.{event_lines, printed, printed_first, refused_line, retries_from, retries_first}
use Rattle.definitions.specs.Table.{count_fits, size, fresh, fresh_entry}
use Rattle.definitions.specs.Texts as texts
use Rattle.definitions.specs.declared.Refusal.{Refusal}
use Rattle.apply.specs.MoveMade.{TestedTable}
use Rattle.basics.specs.Outputs.{Delivered}
use Rattle.std.specs.Prelude.{Err}
use Rattle.theory.specs.Tables.{forbidden_count}
use Rattle.running.specs.Records.{Roomy, Begun, Recorded}
use Rattle.running.specs.declared.Ran.{Ran}
use Rattle.basics.proofs.Outputs.{turned_down, whole}
use Rattle.basics.proofs.Quantifiers.{how_many_none}
use Rattle.basics.proofs.Replies.{failed, pass, no_test}
use Rattle.basics.proofs.Tests.{and_r, true-T, either}
use Rattle.theory.proofs.Bytes.{fresh-table}
use Rattle.theory.proofs.Lengths.{fresh-length}
use Rattle.theory.proofs.LineTurns.{first_printed, first_retries}
use Rattle.theory.proofs.SoundKept.{fresh_is_sound}

-- ---- the fresh table

pub fresh-tested : (n : ℕ) → count_fits n ≡ true → TestedTable (fresh n) 0
unfolding forbidden_count
fresh-tested n e =
    record {
      tested = fresh_is_sound n (true-T (count_fits n) e);
      count = sym (ap forbidden_count (fresh-table n) ∙ how_many_none (λ j. eqb 0 1) n (λ i l. tt));
    }

-- what the fresh entry leaves in a place that the largest table fits
module _ (n : ℕ) {place place' : List ℕ} (long : size most_threads ≤ length place) {a : Reply ℕ} (made : Delivered (fresh_entry n) place place' a) where
  abbrev count-test : Test
  count-test = test 1 (count_fits n)

  when_bad : count_fits n ≡ false → a ≡ refused 1 0
  when_bad e = made.reply ∙ sym (turned_down (fresh_entry n) place 0 1 0 (failed count-test [] 0 (subst (λ (b : Bool). T (not b)) (sym e) tt))).reply

  module _ (e : count_fits n ≡ true) where
    roomy : length (fresh n) ≤ length place
    roomy = omega (arith, long, fresh-length n, leb→le n most_threads (and_r (leb 1 n) (leb n most_threads) (true-T (count_fits n) e)))

    when_good : Delivered (fresh_entry n) place (filled place (fresh n)) (accepted (length (fresh n)))
    when_good = whole (fresh_entry n) place (pass count-test [] (true-T (count_fits n) e) no_test) roomy

  -- a refusal: the number of threads is bad
  pub refused-count : (number place' : ℕ) → a ≡ refused number place' → count_fits n ≡ false
  refused-count number p f =
      ⊎_elim (λ e. absurd (subst (λ (x : Reply ℕ). T (is_accepted x)) ((when_good e).reply ∙ (sym made.reply ∙ f)) tt)) (λ e. e) (either (count_fits n))

  -- otherwise the place begins with the fresh table
  module _ (size : ℕ) (f : a ≡ accepted size) where
    pub good_count : count_fits n ≡ true
    good_count =
        ⊎_elim (λ e. e) (λ e. absurd (subst (λ (x : Reply ℕ). T (is_accepted x)) (sym f ∙ when_bad e) tt)) (either (count_fits n))

    good_size : size ≡ length (fresh n)
    good_size = let g = sym f ∙ (made.reply ∙ sym (when_good good_count).reply) in cc

    pub size_fits : size ≤ length place
    size_fits = omega (arith, good_size, roomy good_count)

    pub table_front : take size place' ≡ fresh n
    table_front =
        rw (made.output, ← (when_good good_count).output)
        (take_at (fresh n) (drop (length (fresh n)) place) size (sym good_size))

-- ---- a run for a number of threads

module _ (n : ℕ) (ls : List texts.Line) where
  pub from-bad : count_fits n ≡ false → (printed_first (spec.threads n) ls ≡ refused_line 1 1) × (retries_first (spec.threads n) ls ≡ 0)
  from-bad e = (first_printed n ls ∙ rw e, first_retries n ls ∙ rw e)

  pub from-fresh : count_fits n ≡ true → (printed_first (spec.threads n) ls ≡ printed (fresh n) 2 0 ls) × (retries_first (spec.threads n) ls ≡ retries_from (fresh n) ls)
  from-fresh e = (first_printed n ls ∙ rw e, first_retries n ls ∙ rw e)

pub begins-fresh : {ls : List texts.Line} {history : List ℕ} (n : ℕ) → Roomy ls history → (table : List ℕ) → count_fits n ≡ true → table ≡ fresh n → Begun ls table history
begins-fresh n r table e f = rw f (record { room = r; tested = fresh-tested n e })

-- ---- what a run leaves

-- it is stopped at its first line
pub stopped_first : {output : List ℕ} {retries : ℕ} {history : List ℕ} (x : Refusal) {ran : Ran} → (output ≡ refused_line (number_of x) 1) × (retries ≡ 0)
    → ran ≡ record { shown = 0; retries = 0; ending = Err (record { refusal = x; place = 1 }) } → Recorded output retries history ran
unfolding pairs_of event_lines
stopped_first x (e, none) r = rw r (record { fits = omega arith; prints = e; counts = none })

-- the same output and count under other names
pub recorded_as : {output output' : List ℕ} {retries retries' : ℕ} {history : List ℕ} {ran : Ran} → (output ≡ output') × (retries ≡ retries')
    → Recorded output' retries' history ran → Recorded output retries history ran
recorded_as (e, f) r = record { fits = r.fits; prints = e ∙ r.prints; counts = f ∙ r.counts }

-- the same lines under other names
pub lines_room : {ls more : List texts.Line} {history : List ℕ} → ls ≡ more → Roomy ls history → Roomy more history
lines_room {history = history} e r = subst (λ (x : List texts.Line). Roomy x history) e r
