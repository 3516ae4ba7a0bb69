-- The order in which the pass reads a byte table: the last thread first, and the one before it where those before the last are odd in number, then two by two from thread 0 on (`read_to`).
-- Two words are at hand and not yet added (`AtHand`): `begun` with those of the first one or two, `gone_on` with the next two; in the end each thread was read once (`ended-all`).
-- What is collected of threads read in any order is the law of the crate rows. For every N and every table.
use Prim.Native.Nat.{ℕ, suc, ◌+◌, ◌-◌, ◌*◌, ◌/◌, ◌%◌, ◌^◌, ◌≤◌, ◌<◌}
use native.Mathlib.Omega.{arith}
use mathlib.Core.Bool.{Bool, true, false, cond}
use mathlib.Core.List.{List, [], ◌∷◌, ◌++◌, append_assoc, append-nil}
use mathlib.Core.Logic.{⊎_elim}
use mathlib.Core.Path.{◌≡◌, sym, ap, ◌∙◌}
use borrow.Author.Tests.{eqb-true, eqb-false}
use lib.Bits.{bit_or}
use lib.Dec.{eqb}
use lib.ListN.{length, length-append}
use Rattle.definitions.specs.Bounds.{most_threads}
use Rattle.definitions.specs.Table.{Table}
use Rattle.definitions.specs.Threads.{list_of}
use Rattle.basics.specs.EachOnce.{EachOnce}
use Rattle.rows.specs.Rows.{one_bad, row_at, state_in, thread_word, found_by}
use Rattle.soundness.specs.Pass.{found_of}
use Rattle.byte_pass.specs.Words.{odd_word}
use Rattle.basics.proofs.EachOnce.{once_more, in_order}
use Rattle.basics.proofs.Lists.{length-list_of}
use Rattle.basics.proofs.Tests.{either}
use Rattle.rows.proofs.Collected.{Bytes, Collected, word_fits, read_none, read_free, read_one, joined, read_as, ended}

module _ (s : Table) (last : ℕ) where
  -- the threads before the last are even in number
  abbrev alone : Bool
  alone = eqb (last % 2) 0

  abbrev read_first : List ℕ
  read_first = last ∷ cond alone [] ((last - 1) ∷ [])

  -- those read first, and the threads below k
  abbrev read_to : ℕ → List ℕ
  read_to k = read_first ++ list_of k (λ i. i)

  few_first : length read_first ≤ 2
  few_first = by alone
    where
      by : (b : Bool) → length (last ∷ cond b [] ((last - 1) ∷ [])) ≤ 2
      by true = omega arith
      by false = omega arith

  -- with the two words at hand, the threads of `read_to k` are collected
  pub record AtHand (k total seen first second : ℕ) : Type 0 where
    pub first_fits : first < 2 ^ 32
    pub second_fits : second < 2 ^ 32
    pub collected : Collected s (read_to k) (total + (row_at (state_in first) + row_at (state_in second))) (bit_or seen (bit_or first second))

  pub rows-most : {k total seen first second : ℕ} → AtHand k total seen first second → total + (row_at (state_in first) + row_at (state_in second)) ≤ one_bad * (k + 2)
  rows-most {k} h = omega (arith, h.collected.most, length-append read_first (list_of k (λ i. i)), length-list_of k (λ i. i), few_first)

  module _ (here : Bytes s last) (before : Bytes s (last - 1)) where
    odd_fits : odd_word s last < 2 ^ 32
    unfolding odd_word
    odd_fits = by alone
      where
        by : (b : Bool) → cond b 0 (thread_word s (last - 1) 0) < 2 ^ 32
        by true = omega arith
        by false = word_fits s (last - 1) 0 before (omega arith)

    odd_read : Collected s (cond alone [] ((last - 1) ∷ [])) (row_at (state_in (odd_word s last))) (odd_word s last)
    unfolding odd_word
    odd_read = by alone
      where
        by : (b : Bool) → let w = cond b 0 (thread_word s (last - 1) 0) in Collected s (cond b [] ((last - 1) ∷ [])) (row_at (state_in w)) w
        by true = read_free s
        by false = read_one s (last - 1) 0 before

    pub begun : AtHand 0 0 0 (thread_word s last 0) (odd_word s last)
    unfolding list_of
    begun =
        record {
          first_fits = word_fits s last 0 here (omega arith);
          second_fits = odd_fits;
          collected = read_as s (sym (append-nil read_first)) (joined s (read_none s) (joined s (read_one s last 0 here) odd_read));
        }

  module _ {k total seen first second : ℕ} (h : AtHand k total seen first second) where
    pub gone_on : (above above' : ℕ) → Bytes s k → Bytes s (suc k) → above < 256 → above' < 256
        → AtHand (suc (suc k)) (total + (row_at (state_in first) + row_at (state_in second))) (bit_or seen (bit_or first second)) (thread_word s k above) (thread_word s (suc k) above')
    unfolding list_of
    gone_on above above' one two l l' =
        record {
          first_fits = word_fits s k above one l;
          second_fits = word_fits s (suc k) above' two l';
          collected = read_as s (sym joined_to) (joined s h.collected (joined s (read_one s k above one) (read_one s (suc k) above' two)));
        }
      where
        joined_to : read_first ++ ((list_of k (λ i. i) ++ (k ∷ [])) ++ (suc k ∷ [])) ≡ (read_first ++ list_of k (λ i. i)) ++ (k ∷ suc k ∷ [])
        joined_to =
            ap (λ (xs : List ℕ). read_first ++ xs) (append_assoc (list_of k (λ i. i)) (k ∷ []) (suc k ∷ []))
            ∙ sym (append_assoc read_first (list_of k (λ i. i)) (k ∷ suc k ∷ []))

    -- each thread was read once
    pub ended-all : (n : ℕ) → k ≡ 2 * (last / 2) → n ≡ suc last → n ≤ most_threads
        → found_by (total + (row_at (state_in first) + row_at (state_in second))) (bit_or seen (bit_or first second)) ≡ found_of s n
    ended-all n even is most = ended s most (⊎_elim by_itself with_one (either alone)) h.collected
      where
        by_itself : alone ≡ true → EachOnce n (read_to k)
        by_itself a =
            let at : k ≡ last = omega (arith, eqb-true (last % 2) 0 a) in
            rw (is, a, at) (once_more last (list_of last (λ i. i)) (in_order last))

        with_one : alone ≡ false → EachOnce n (read_to k)
        with_one a =
            let at : last ≡ suc k = omega (arith, eqb-false (last % 2) 0 a) in
            let before : last - 1 ≡ k = omega arith in
            rw (is, a, before, at) (once_more (suc k) (k ∷ list_of k (λ i. i)) (once_more k (list_of k (λ i. i)) (in_order k)))
