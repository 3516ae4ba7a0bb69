-- With the two words at hand, those of the threads passed and of those read first are collected: so it is before the loop, and after each turn.
use Rattle.std.proofs.Common.{◌+◌, ◌-◌, ◌*◌, ◌/◌, ◌^◌, ◌≤◌, ◌<◌, ◌≡◌, ℕ, suc, Option, List, get_or, bit_or, refl, subst, ap, ◌∙◌, arith}
use Rattle.definitions.specs.Bounds.{most_threads}
use Rattle.definitions.specs.Table.{Table, table_of, phase_at, busy_at, forbidden_at}
use Rattle.rows.specs.Rows.{row_at, state_in, thread_word, found_by}
use Rattle.soundness.specs.Pass.{found_of}
use Rattle.tallies.specs.declared.Tally.{Tally}
use Rattle.byte_pass.specs.Words.{odd_word}
use Rattle.rows.proofs.Collected.{Bytes}
use Rattle.byte_pass.proofs.Passing.{AtHand, rows-most, begun, gone_on, ended-all}
use Rattle.byte_pass.proofs.found.Goals as goal

-- every byte of a table is one
bytes_at : (l : List ℕ) → ((k : ℕ) → get_or l k 0 < 2 ^ 8) → (i : ℕ) → Bytes (table_of l) i
bytes_at l known i = record { phase = known (phase_at i); busy = known (busy_at i); forbidden = known (forbidden_at i) }

module _ (l : List ℕ) (known : (k : ℕ) → get_or l k 0 < 2 ^ 8) (last : ℕ) where
  abbrev s : Table
  s = table_of l

  first_words : (first second : ℕ) → first ≡ thread_word s last 0 → second ≡ odd_word s last → AtHand s last 0 0 0 first second
  first_words first second e f = rw (e, f) (begun s last (bytes_at l known last) (bytes_at l known (last - 1)))

  module _ (k total seen first second rows : ℕ) (c : AtHand s last k total seen first second) (added : rows ≡ row_at (state_in first) + row_at (state_in second)) where
    rows_fit : k ≤ most_threads → total + rows < 2 ^ 64
    rows_fit most = omega (arith, rows-most s last c)

    next_words : (k' i first' second' : ℕ) → k' ≡ k + 2 → i ≡ k + 1 → first' ≡ thread_word s k (s.phase (k + 1)) → second' ≡ thread_word s i (s.phase (i + 1))
        → AtHand s last k' (total + rows) (bit_or seen (bit_or first second)) first' second'
    next_words k' i first' second' e f w w' =
        let two : k' ≡ suc (suc k) = omega arith in
        let one : i ≡ suc k = omega arith in
        rw (two, added, w, w' ∙ ap (λ (j : ℕ). thread_word s j (s.phase (i + 1))) one)
        (gone_on s last c _ _ (bytes_at l known k) (bytes_at l known (suc k)) (known (phase_at (k + 1))) (known (phase_at (i + 1))))

    all_words : (n : ℕ) (r : Option Tally) → k ≡ 2 * (last / 2) → n ≡ suc last → n ≤ most_threads → r ≡ found_by (total + rows) (bit_or seen (bit_or first second)) → r ≡ found_of s n
    all_words n r even is most e =
        e ∙ (ap (λ (x : ℕ). found_by (total + x) (bit_or seen (bit_or first second))) added ∙ ended-all s last c n even is most)

same-passed : {s : Table} {last k k' total seen first second : ℕ} → k ≡ k' → AtHand s last k total seen first second → AtHand s last k' total seen first second
same-passed {s} {last} {k} {k'} {total} {seen} {first} {second} e c = subst (λ (j : ℕ). AtHand s last j total seen first second) e c

pub loop-j-init : goal.loop-j-init
loop-j-init c =
    let a = c.args in
    (omega arith, first_words a.table.now (λ k. (c.type_inv.table k).fits) (get_or a.table.now 0 0 - 1) _ _ c.last_word-first.ensures c.odd_word-second.ensures)

pub overflow_add-total : goal.overflow_add-total
overflow_add-total c =
    let a = c.args in
    record { fits = rows_fit a.table.now (λ k. (c.type_inv.table k).fits) (get_or a.table.now 0 0 - 1) _ _ _ _ _ _ c.loop-j-2.invariant.1 c.two_rows-total.ensures (omega (arith, c.loop-j.invariant.0, c.loop-j-2.invariant.0, c.requires)) }

pub returns-then-left-j : goal.returns-then-left-j
returns-then-left-j c =
    let a = c.args in
    all_words a.table.now (λ k. (c.type_inv.table k).fits) (get_or a.table.now 0 0 - 1) _ _ _ _ _ _ c.loop-j-2.invariant.1 c.two_rows-total.ensures _ _
    (omega (arith, c.loop-j.invariant.0, c.if-left-j.true)) (omega (arith, c.requires)) (omega (arith, c.requires)) c.found_of.ensures

pub loop-j-2-preserved : goal.loop-j-2-preserved
loop-j-2-preserved c =
    let a = c.args in (
      omega (arith, c.if-left-j.false),
      next_words a.table.now (λ k. (c.type_inv.table k).fits) (get_or a.table.now 0 0 - 1) _ _ _ _ _ _ c.loop-j-2.invariant.1 c.two_rows-total.ensures _ _ _ _
          (omega arith) refl c.thread_word-first.ensures c.thread_word-second.ensures,
    )

pub loop-j-preserved : goal.loop-j-preserved
loop-j-preserved c =
    let four : c.loop-j-2.j ≡ 4 = omega arith in
    (omega (arith, c.loop-j-2.invariant.0, c.loop-j.invariant.0), same-passed (omega arith) c.loop-j-2.invariant.1)
