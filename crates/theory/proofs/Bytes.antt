-- The byte table is a storage that keeps what is written (`byte_keeps`); its size as numbers; its bytes, which the table determines (`same_bytes`); and the fresh table's bytes.
use Prim.Native.Nat.{ℕ, zero, suc, ◌+◌, ◌*◌, ◌≤◌, ◌<◌}
use native.Mathlib.Omega.{arith}
use mathlib.Core.List.{List, [], ◌∷◌}
use mathlib.Core.Logic.{◌⊎◌, inl, inr}
use mathlib.Core.Path.{◌≡◌, refl, sym, subst, ap, ◌∙◌, fun_ext}
use lib.Dec.{T, leb, eqb, leb→le, le→leb, eqb→eq}
use lib.ListN.{length, get_or, set, length-set, length-replicate, get_or-eq_default}
use lib.Seq.{get_or-set_same, get_or-set_other, ext_get_or}
use Rattle.definitions.specs.Bounds.{most_threads}
use Rattle.definitions.specs.Table.{Table, count_fits, fresh_table, Write, mutex≔, target≔, phase≔, busy≔, forbidden≔, update, applied_one}
use Rattle.definitions.specs.Table.{applied, size, phase_at, busy_at, forbidden_at, table_of, sized, stored_one, stored, byte_table, fresh}
use Rattle.theory.specs.Tables.{Sized, WriteFits, WritesFit, Keeps}
use Rattle.basics.proofs.Lists.{zeros}
use Rattle.basics.proofs.Tests.{and_l, and_r, and_i, eq_T, same?}
use Rattle.basics.proofs.Columns.{update_same, update_other}
use Rattle.theory.proofs.Writes.{same-table, applied-threads, applied-keeps}

-- ---- one write to the bytes

-- the bytes at `at 0`, `at 1`, ..
abbrev column : List ℕ → (ℕ → ℕ) → ℕ → ℕ
column bytes at = λ j. get_or bytes (at j) 0

-- after a write to one of them
written : (bytes : List ℕ) (at : ℕ → ℕ) (i v : ℕ) → ((j : ℕ) → (j ≡ i → ⊥) → at j ≡ at i → ⊥) → at i < length bytes
    → column (set bytes (at i) v) at ≡ update (column bytes at) i v
written bytes at i v apart fits = fun_ext (λ j. go j (same? j i))
  where
    go : (j : ℕ) → (j ≡ i) ⊎ (j ≡ i → ⊥) → column (set bytes (at i) v) at j ≡ update (column bytes at) i v j
    go j (inl e) =
        ap (column (set bytes (at i) v) at) e ∙ (get_or-set_same bytes (at i) v 0 fits ∙ sym (update_same (column bytes at) i v j e))
    go j (inr h) = get_or-set_other bytes (at i) (at j) v 0 (apart j h) ∙ sym (update_other (column bytes at) i v j h)

-- after a write elsewhere
unwritten : (bytes : List ℕ) (at : ℕ → ℕ) (p v : ℕ) → ((j : ℕ) → at j ≡ p → ⊥) → column (set bytes p v) at ≡ column bytes at
unwritten bytes at p v apart = fun_ext (λ j. get_or-set_other bytes p (at j) v 0 (apart j))

pub write_same : (bytes : List ℕ) (w : Write) → length bytes ≡ size (get_or bytes 0 0) → WriteFits (get_or bytes 0 0) w → table_of (stored_one bytes w) ≡ applied_one (table_of bytes) w
write_same bytes (mutex≔ v) len fit =
    same-table _ _
    (get_or-set_other bytes 1 0 v 0 (λ e. omega arith))
    (get_or-set_same bytes 1 v 0 (omega arith))
    (get_or-set_other bytes 1 2 v 0 (λ e. omega arith))
    (unwritten bytes phase_at 1 v (λ j e. omega arith))
    (unwritten bytes busy_at 1 v (λ j e. omega arith))
    (unwritten bytes forbidden_at 1 v (λ j e. omega arith))
write_same bytes (target≔ v) len fit =
    same-table _ _
    (get_or-set_other bytes 2 0 v 0 (λ e. omega arith))
    (get_or-set_other bytes 2 1 v 0 (λ e. omega arith))
    (get_or-set_same bytes 2 v 0 (omega arith))
    (unwritten bytes phase_at 2 v (λ j e. omega arith))
    (unwritten bytes busy_at 2 v (λ j e. omega arith))
    (unwritten bytes forbidden_at 2 v (λ j e. omega arith))
write_same bytes (phase≔ i v) len fit =
    same-table _ _
    (get_or-set_other bytes (phase_at i) 0 v 0 (λ e. omega arith))
    (get_or-set_other bytes (phase_at i) 1 v 0 (λ e. omega arith))
    (get_or-set_other bytes (phase_at i) 2 v 0 (λ e. omega arith))
    (written bytes phase_at i v (λ j h e. h (omega arith)) (omega arith))
    (unwritten bytes busy_at (phase_at i) v (λ j e. omega arith))
    (unwritten bytes forbidden_at (phase_at i) v (λ j e. omega arith))
write_same bytes (busy≔ i v) len fit =
    same-table _ _
    (get_or-set_other bytes (busy_at i) 0 v 0 (λ e. omega arith))
    (get_or-set_other bytes (busy_at i) 1 v 0 (λ e. omega arith))
    (get_or-set_other bytes (busy_at i) 2 v 0 (λ e. omega arith))
    (unwritten bytes phase_at (busy_at i) v (λ j e. omega arith))
    (written bytes busy_at i v (λ j h e. h (omega arith)) (omega arith))
    (unwritten bytes forbidden_at (busy_at i) v (λ j e. omega arith))
write_same bytes (forbidden≔ i v) len fit =
    same-table _ _
    (get_or-set_other bytes (forbidden_at i) 0 v 0 (λ e. omega arith))
    (get_or-set_other bytes (forbidden_at i) 1 v 0 (λ e. omega arith))
    (get_or-set_other bytes (forbidden_at i) 2 v 0 (λ e. omega arith))
    (unwritten bytes phase_at (forbidden_at i) v (λ j e. omega arith))
    (unwritten bytes busy_at (forbidden_at i) v (λ j e. omega arith))
    (written bytes forbidden_at i v (λ j h e. h (omega arith)) (omega arith))

write-length : (bytes : List ℕ) (w : Write) → length (stored_one bytes w) ≡ length bytes
write-length bytes (mutex≔ v) = length-set bytes 1 v
write-length bytes (target≔ v) = length-set bytes 2 v
write-length bytes (phase≔ i v) = length-set bytes (phase_at i) v
write-length bytes (busy≔ i v) = length-set bytes (busy_at i) v
write-length bytes (forbidden≔ i v) = length-set bytes (forbidden_at i) v

-- ---- a list of writes

-- writes keep N and the length, and are the same on either
pub stored_same : (bytes : List ℕ) (ws : List Write) → length bytes ≡ size (get_or bytes 0 0) → WritesFit (get_or bytes 0 0) ws → table_of (stored bytes ws) ≡ applied (table_of bytes) ws
unfolding stored
stored_same bytes [] len fit = refl
stored_same bytes (w ∷ ws) len fit =
    let here = write_same bytes w len fit.0 in
    let n : get_or (stored_one bytes w) 0 0 ≡ get_or bytes 0 0 = ap (λ (t : Table). t.threads) here ∙ applied-threads (table_of bytes) w in
    stored_same (stored_one bytes w) ws (write-length bytes w ∙ (len ∙ ap size (sym n))) (subst (λ (k : ℕ). WritesFit k ws) (sym n) fit.1)
    ∙ ap (λ (t : Table). applied t ws) here

pub stored-length : (bytes : List ℕ) (ws : List Write) → length (stored bytes ws) ≡ length bytes
unfolding stored
stored-length bytes [] = refl
stored-length bytes (w ∷ ws) = stored-length (stored_one bytes w) ws ∙ write-length bytes w

-- ---- the size

pub sized_e : (bytes : List ℕ) → T (sized bytes) → Sized bytes
unfolding sized
sized_e bytes t =
    let n = get_or bytes 0 0 in
    let a = and_l (count_fits n) (eqb (length bytes) (size n)) t in
    record {
      least = leb→le 1 n (and_l (leb 1 n) (leb n most_threads) a);
      most = leb→le n most_threads (and_r (leb 1 n) (leb n most_threads) a);
      long = eqb→eq (length bytes) (size n) (and_r (count_fits n) (eqb (length bytes) (size n)) t);
    }

pub sized_i : (bytes : List ℕ) → Sized bytes → T (sized bytes)
unfolding sized
sized_i bytes z =
    let n = get_or bytes 0 0 in
    and_i (count_fits n) (eqb (length bytes) (size n)) (and_i (leb 1 n) (leb n most_threads) (le→leb 1 n z.least) (le→leb n most_threads z.most))
    (eq_T (length bytes) (size n) z.long)

pub byte_keeps : Keeps byte_table
byte_keeps =
    record {
      fits = λ bytes ws z f.
          let old = sized_e bytes z in
          let n : get_or (stored bytes ws) 0 0 ≡ get_or bytes 0 0 = ap (λ (s : Table). s.threads) (stored_same bytes ws old.long f) ∙ applied-keeps (table_of bytes) ws in
          sized_i (stored bytes ws)
          record {
            least = subst (λ (k : ℕ). 1 ≤ k) (sym n) old.least;
            most = subst (λ (k : ℕ). k ≤ most_threads) (sym n) old.most;
            long = stored-length bytes ws ∙ (old.long ∙ ap size (sym n));
          };
      writes = λ bytes ws z f. stored_same bytes ws (sized_e bytes z).long f;
    }

-- ---- the bytes of a table

-- the places of a list of bytes, three at a time
data Third (k : ℕ) : Type 0 where
  first : (q : ℕ) → k ≡ 3 * q → Third k
  second : (q : ℕ) → k ≡ 1 + 3 * q → Third k
  third : (q : ℕ) → k ≡ 2 + 3 * q → Third k

third_of : (k : ℕ) → Third k
third_of zero = first 0 refl
third_of (suc zero) = second 0 refl
third_of (suc (suc zero)) = third 0 refl
third_of (suc (suc (suc k))) = by (third_of k)
  where
    by : Third k → Third (suc (suc (suc k)))
    by (first q e) = first (suc q) (omega arith)
    by (second q e) = second (suc q) (omega arith)
    by (third q e) = third (suc q) (omega arith)

-- bytes of the right size are determined by the table that is read off them
pub same_bytes : (a b : List ℕ) → T (sized a) → T (sized b) → table_of a ≡ table_of b → a ≡ b
same_bytes a b fits fits' e =
    ext_get_or 0 a b ((sized_e a fits).long ∙ (ap (λ (t : Table). size t.threads) e ∙ sym (sized_e b fits').long)) (λ k l. by k (third_of k))
  where
    at : (k j : ℕ) → k ≡ j → get_or a j 0 ≡ get_or b j 0 → get_or a k 0 ≡ get_or b k 0
    at k j q same = ap (λ (x : ℕ). get_or a x 0) q ∙ (same ∙ sym (ap (λ (x : ℕ). get_or b x 0) q))

    by : (k : ℕ) → Third k → get_or a k 0 ≡ get_or b k 0
    by k (first zero q) = at k 0 q (ap (λ (t : Table). t.threads) e)
    by k (first (suc i) q) = at k (phase_at i) (omega arith) (ap (λ (t : Table). t.phase i) e)
    by k (second zero q) = at k 1 q (ap (λ (t : Table). t.mutex) e)
    by k (second (suc i) q) = at k (busy_at i) (omega arith) (ap (λ (t : Table). t.busy i) e)
    by k (third zero q) = at k 2 q (ap (λ (t : Table). t.target) e)
    by k (third (suc i) q) = at k (forbidden_at i) (omega arith) (ap (λ (t : Table). t.forbidden i) e)

-- and nothing stands beyond its threads
pub blank_beyond : (bytes : List ℕ) → T (sized bytes) → (j : ℕ) → (table_of bytes).threads ≤ j
    → ((table_of bytes).phase j ≡ 0) × ((table_of bytes).busy j ≡ 0) × ((table_of bytes).forbidden j ≡ 0)
blank_beyond bytes fits j l =
    let long = (sized_e bytes fits).long in (
      get_or-eq_default bytes 0 (omega arith),
      get_or-eq_default bytes 0 (omega arith),
      get_or-eq_default bytes 0 (omega arith),
    )

-- ---- the fresh table

below : (n : ℕ) (at : ℕ → ℕ) (m : ℕ) → ((j : ℕ) → at j ≡ 3 + m + 3 * j) → column (fresh n) at ≡ (λ j. 0)
unfolding fresh
below n at m e = fun_ext (λ j. ap (λ (k : ℕ). get_or (fresh n) k 0) (e j ∙ shift j) ∙ zeros (3 * n) (m + 3 * j))
  where
    shift : (j : ℕ) → 3 + m + 3 * j ≡ suc (suc (suc (m + 3 * j)))
    shift j = omega arith

pub fresh-table : (n : ℕ) → table_of (fresh n) ≡ fresh_table n
unfolding fresh
fresh-table n =
    same-table _ _ refl refl refl
    (below n phase_at 0 (λ j. omega arith))
    (below n busy_at 1 (λ j. omega arith))
    (below n forbidden_at 2 (λ j. omega arith))

pub fresh-sized : (n : ℕ) → 1 ≤ n → n ≤ most_threads → T (sized (fresh n))
unfolding fresh sized
fresh-sized n least most =
    and_i (count_fits n) _ (and_i (leb 1 n) (leb n most_threads) (le→leb 1 n least) (le→leb n most_threads most))
    (eq_T _ _ (ap (λ (k : ℕ). suc (suc (suc k))) (length-replicate (3 * n) 0) ∙ long))
  where
    long : suc (suc (suc (3 * n))) ≡ size n
    long = omega arith
