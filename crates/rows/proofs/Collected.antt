-- What a pass has of the threads that it has read, in whatever order and by whatever words: their rows added up, and all bits of their words (`Collected`).
-- Of no thread that is nothing (`read_none`), of one its row and its word (`read_one`), and what is collected of two lists is, put together, collected of both (`joined`).
-- Where each thread was read once, the pass has found what it is to find (`ended`). For every N and every table, whatever stores it.
use Prim.Native.Nat.{ℕ, ◌+◌, ◌*◌, ◌^◌, ◌≤◌, ◌<◌}
use native.Mathlib.Omega.{arith}
use mathlib.Core.Bool.{Bool, ◌&&◌, and-true}
use mathlib.Core.List.{List, [], ◌∷◌, ◌++◌}
use mathlib.Core.Path.{◌≡◌, refl, sym, subst, ap₂, ◌∙◌}
use lib.Bits.{bit_and, bit_or}
use lib.Dec.{T, eqb}
use lib.ListN.{length, length-append}
use Rattle.definitions.specs.Bounds.{most_threads}
use Rattle.definitions.specs.Phases.{rows}
use Rattle.definitions.specs.Table.{Table}
use Rattle.basics.specs.EachOnce.{EachOnce, all_in, sum_in}
use Rattle.soundness.specs.Pass.{found_of}
use Rattle.basics.proofs.EachOnce.{all-behind, sum_behind, all_once, sum_once}
use Rattle.basics.proofs.Tests.{and_l, and_r}
use Rattle.rows.specs.Rows.{one_bad, row_for, row_at, state_in, high, few_at, thread_row, thread_word, found_by}
use Rattle.rows.proofs.Packed.{packed}
use Rattle.rows.proofs.RowBounds.{row-most}
use Rattle.rows.proofs.Words.{row_in, few_word, few_both}

-- a thread's three bytes are bytes
pub record Bytes (s : Table) (i : ℕ) : Type 0 where
  pub phase : s.phase i < 256
  pub busy : s.busy i < 256
  pub forbidden : s.forbidden i < 256

pub word_fits : (s : Table) (i above : ℕ) → Bytes s i → above < 256 → thread_word s i above < 2 ^ 32
word_fits s i above b l = omega (arith, b.phase, b.busy, b.forbidden)

module _ (s : Table) where
  -- `total` and `seen` are the rows and the bits of the threads read
  pub record Collected (read : List ℕ) (total seen : ℕ) : Type 0 where
    pub most : total ≤ one_bad * length read
    pub few : eqb (bit_and seen high) 0 ≡ all_in (few_at s) read
    pub added : T (all_in (few_at s) read) → total ≡ sum_in (thread_row s) read

  pub read_none : Collected [] 0 0
  read_none = record { most = omega arith; few = refl; added = λ t. refl }

  -- 0 is the word of a free thread, which adds nothing
  pub read_free : Collected [] (row_at (state_in 0)) 0
  unfolding row_at row_for rows
  read_free = read_none

  pub read_one : (i above : ℕ) → Bytes s i → Collected (i ∷ []) (row_at (state_in (thread_word s i above))) (thread_word s i above)
  read_one i above b =
      record {
        most = omega (arith, row-most (state_in (thread_word s i above)));
        few = few_word (s.phase i) (s.busy i) (s.forbidden i) above b.phase b.busy b.forbidden ∙ sym (and-true (few_at s i));
        added = λ t. omega (arith, row_in (s.phase i) (s.busy i) (s.forbidden i) above (and_l (few_at s i) _ t));
      }

  pub joined : {read read' : List ℕ} {total total' seen seen' : ℕ} → Collected read total seen → Collected read' total' seen'
      → Collected (read ++ read') (total + total') (bit_or seen seen')
  joined {read} {read'} {total} {total'} {seen} {seen'} c d =
      let f = few_at s in
      record {
        most = omega (arith, c.most, d.most, length-append read read');
        few = few_both seen seen' high ∙ (ap₂ (λ (a b : Bool). a && b) c.few d.few ∙ sym (all-behind f read read'));
        added = λ t.
            let both = subst T (all-behind f read read') t in
            omega (arith, c.added (and_l (all_in f read) (all_in f read') both), d.added (and_r (all_in f read) (all_in f read') both), sum_behind (thread_row s) read read');
      }

  -- the same list, said otherwise
  pub read_as : {read read' : List ℕ} {total seen : ℕ} → read ≡ read' → Collected read total seen → Collected read' total seen
  read_as {read} {read'} {total} {seen} e c = subst (λ (l : List ℕ). Collected l total seen) e c

  pub ended : {n : ℕ} {read : List ℕ} {total seen : ℕ} → n ≤ most_threads → EachOnce n read → Collected read total seen → found_by total seen ≡ found_of s n
  ended {n} {read} {total} {seen} most once c =
      let few = all_once (few_at s) once in
      packed s n total seen most (c.few ∙ few) (λ t. c.added (subst T (sym few) t) ∙ sum_once (thread_row s) n once)
