-- Tables whose bytes are written thread by thread (`thread_bytes`): the record that is read off them (`bytes-table`), and that they have the right size (`bytes-sized`). For every N.
use Prim.Native.Nat.{ℕ, zero, suc, ◌+◌, ◌*◌, ◌≤◌, ◌<◌}
use native.Mathlib.Omega.{arith}
use mathlib.Core.Bool.{Bool, cond}
use mathlib.Core.List.{List, [], ◌∷◌, ◌++◌}
use mathlib.Core.Logic.{⊎_elim}
use mathlib.Core.Path.{◌≡◌, refl, sym, ap, ◌∙◌, fun_ext}
use lib.Dec.{T, ltb, leb-suc-zero, lt→ltb}
use lib.ListN.{length, get_or, length-append, get_or-append, get_or-eq_default}
use lib.Seq.{get_or-append-add}
use Rattle.definitions.specs.Bounds.{most_threads}
use Rattle.definitions.specs.Table.{Table, table_of, sized}
use Rattle.definitions.specs.Threads.{gather}
use Rattle.basics.proofs.Gathering.{gather-length}
use Rattle.basics.proofs.Tests.{cond_yes, same?, below?}
use Rattle.orders.proofs.Flags.{below_other}
use Rattle.theory.proofs.Bytes.{sized_i}
use Rattle.theory.proofs.Writes.{same-table}

-- byte m of thread j's three
threes : (f : ℕ → List ℕ) → ((i : ℕ) → length (f i) ≡ 3) → (n j m : ℕ) → m < 3 → get_or (gather n f) (m + 3 * j) 0 ≡ cond (ltb j n) (get_or (f j) m 0) 0
unfolding gather
threes f three zero j m l = rw (leb-suc-zero j)
threes f three (suc n) j m l = ⊎_elim last (λ h. earlier h ∙ (threes f three n j m l ∙ ap (λ (b : Bool). cond b (get_or (f j) m 0) 0) (below_other j n h))) (same? j n)
  where
    front : List ℕ
    front = gather n f

    long : length front ≡ 3 * n
    long = gather-length f 3 n three

    last : j ≡ n → get_or (front ++ f n) (m + 3 * j) 0 ≡ cond (ltb j (suc n)) (get_or (f j) m 0) 0
    last e =
        let at : m + 3 * j ≡ length front + m = omega (arith, long) in
        ap (λ (k : ℕ). get_or (front ++ f n) k 0) at
        ∙ (get_or-append-add front (f n) m 0 ∙ (ap (λ (i : ℕ). get_or (f i) m 0) (sym e) ∙ sym (cond_yes (ltb j (suc n)) (get_or (f j) m 0) 0 (lt→ltb j (suc n) (omega arith)))))

    earlier : (j ≡ n → ⊥) → get_or (front ++ f n) (m + 3 * j) 0 ≡ get_or front (m + 3 * j) 0
    earlier h =
        ⊎_elim (λ k. get_or-append front (f n) 0 (m + 3 * j) (omega (arith, long)))
        (λ k. get_or-eq_default (front ++ f n) 0 (omega (arith, long, length-append front (f n), three n)) ∙ sym (get_or-eq_default front 0 (omega (arith, long)))) (below? n j)

-- a column of n threads, with nothing beyond them
abbrev pub of_threads : ℕ → (ℕ → ℕ) → ℕ → ℕ
of_threads n f = λ j. cond (ltb j n) (f j) 0

pub of_thread : (n : ℕ) (f : ℕ → ℕ) (j : ℕ) → j < n → of_threads n f j ≡ f j
of_thread n f j l = cond_yes (ltb j n) (f j) 0 (lt→ltb j n l)

module _ (n mutex target : ℕ) (phase busy forbidden : ℕ → ℕ) where
  abbrev pub thread_bytes : List ℕ
  thread_bytes = n ∷ mutex ∷ target ∷ gather n (λ i. phase i ∷ busy i ∷ forbidden i ∷ [])

  abbrev pub thread_table : Table
  thread_table = record { threads = n; mutex = mutex; target = target; phase = of_threads n phase; busy = of_threads n busy; forbidden = of_threads n forbidden }

  pub bytes-table : table_of thread_bytes ≡ thread_table
  bytes-table =
      same-table (table_of thread_bytes) thread_table refl refl refl (fun_ext (λ j. column j 0 (omega arith))) (fun_ext (λ j. column j 1 (omega arith))) (fun_ext (λ j. column j 2 (omega arith)))
    where
      column : (j m : ℕ) → m < 3 → get_or thread_bytes (3 + m + 3 * j) 0 ≡ cond (ltb j n) (get_or (phase j ∷ busy j ∷ forbidden j ∷ []) m 0) 0
      column j m l =
          let at : 3 + m + 3 * j ≡ suc (suc (suc (m + 3 * j))) = omega arith in
          ap (λ (k : ℕ). get_or thread_bytes k 0) at ∙ threes (λ i. phase i ∷ busy i ∷ forbidden i ∷ []) (λ i. refl) n j m l

  pub bytes-sized : 1 ≤ n → n ≤ most_threads → T (sized thread_bytes)
  bytes-sized least most =
      sized_i thread_bytes record { least = least; most = most; long = omega (arith, gather-length {A = ℕ} (λ i. phase i ∷ busy i ∷ forbidden i ∷ []) 3 n (λ i. refl)) }
