-- Laws of `note_fits`: the depth before a byte, the test of a byte at its depth, and the whole text from the tests of its bytes.
use Prim.Native.Nat.{ℕ, suc, ◌+◌, ◌-◌, ◌≤◌, ◌<◌}
use native.Mathlib.Numerals.{add-one}
use native.Mathlib.Omega.{arith}
use mathlib.Core.Bool.{Bool, true, false, cond, ◌&&◌, and-false}
use mathlib.Core.List.{List, [], ◌∷◌, ◌++◌}
use mathlib.Core.Path.{◌≡◌, refl, subst, ap, ◌∙◌}
use borrow.Author.Tests.{ltb-true, ltb-false, le-leb, lt-leb, eqb-true, eq-eqb, ne_eqb}
use lib.Dec.{leb, ltb, eqb, eqb→eq}
use lib.ListN.{length, take, get_or}
use lib.Seq.{take-suc, take_all}
use Rattle.std.specs.Prelude.{Some, None}
use Rattle.definitions.specs.Bounds.{most_depth}
use Rattle.definitions.specs.Forms.{occurrences, note, bad, note_fits, note_form}
use Rattle.definitions.specs.Threads.{every, between}
use Rattle.notes.specs.Brackets.{depth_behind}
use Rattle.basics.proofs.Quantifiers.{every_at}
use Rattle.basics.proofs.Tests.{T_false, false-T, same_test, no_both, not_i, eq_T}

-- ---- tests of every place

every_more : (f : ℕ → Bool) (n : ℕ) → every n f ≡ true → f n ≡ true → every (n + 1) f ≡ true
unfolding every
every_more f n h e = rw (add-one, h) e

every-fails : (f : ℕ → Bool) (n k : ℕ) → k < n → f k ≡ false → every n f ≡ false
every-fails f n k l e = T_false (every n f) (not_i (every n f) (λ t. no_both (f k) (every_at f n t k l) (false-T (f k) e)))

-- a value where a test holds
some_if : (b : Bool) (x y : ℕ) → cond b (Some x) None ≡ Some y → (b ≡ true) × (x ≡ y)
some_if true x y e = (refl, cc)
some_if false x y e = cc

none_if : (b : Bool) (x : ℕ) → cond b (Some x) None ≡ None → b ≡ false
none_if true x e = cc
none_if false x e = refl

-- ---- the depth

occurrences-behind : (c : ℕ) (xs : List ℕ) (x : ℕ) → occurrences c (xs ++ (x ∷ [])) ≡ occurrences c xs + cond (eqb x c) 1 0
unfolding occurrences
occurrences-behind c [] x = omega arith
occurrences-behind c (y ∷ ys) x = rw (occurrences-behind c ys x) (omega arith)

occurrences_more : (c : ℕ) (xs : List ℕ) (n : ℕ) → n < length xs
    → occurrences c (take (n + 1) xs) ≡ occurrences c (take n xs) + cond (eqb (get_or xs n 0) c) 1 0
occurrences_more c xs n h = rw (add-one, take-suc xs n 0) (occurrences-behind c (take n xs) (get_or xs n 0))

-- the depth before byte n, 0 before the first
abbrev pub Depth : List ℕ → ℕ → ℕ → Type 0
Depth xs n depth = depth + occurrences 41 (take n xs) ≡ occurrences 40 (take n xs)

-- ---- the tests of a byte and of the text

-- a byte that a note may have
abbrev pub printable : List ℕ → ℕ → Bool
printable xs k = between 32 126 (get_or xs k 0)

-- the depth before it is from 0 to the deepest
abbrev pub nested : List ℕ → ℕ → Bool
nested xs k = between (occurrences 41 (take k xs)) (occurrences 41 (take k xs) + most_depth) (occurrences 40 (take k xs))

nested_i : (xs : List ℕ) (n depth : ℕ) → Depth xs n depth → depth ≤ most_depth → nested xs n ≡ true
nested_i xs n depth h l =
    rw (le-leb (occurrences 41 (take n xs)) (occurrences 40 (take n xs)) (omega arith), le-leb (occurrences 40 (take n xs)) (occurrences 41 (take n xs) + most_depth) (omega arith))

-- a byte that no note has
pub note-bad : (xs : List ℕ) (n : ℕ) → n < length xs → printable xs n ≡ false → note_fits xs ≡ false
unfolding note_fits
note-bad xs n l e = rw (every-fails (printable xs) (length xs) n l e)

-- ---- the loop

-- the bytes before place n pass, and the depth behind them
pub record Behind (xs : List ℕ) (n depth : ℕ) : Type 0 where
  pub within : n ≤ length xs
  pub bytes : every n (printable xs) ≡ true
  pub depths : every (n + 1) (nested xs) ≡ true
  pub is_depth : Depth xs n depth
  pub deep : depth ≤ most_depth

pub behind_first : (xs : List ℕ) → Behind xs 0 0
unfolding every occurrences
behind_first xs = record { within = omega arith; bytes = refl; depths = refl; is_depth = refl; deep = omega arith }

module _ (xs : List ℕ) (n depth : ℕ) (b : Behind xs n depth) (l : n < length xs) where
  opens_more : (x : Bool) → eqb (get_or xs n 0) 40 ≡ x → occurrences 40 (take (n + 1) xs) ≡ occurrences 40 (take n xs) + cond x 1 0
  opens_more x e = occurrences_more 40 xs n l ∙ ap (λ (y : Bool). occurrences 40 (take n xs) + cond y 1 0) e

  closes_more : (x : Bool) → eqb (get_or xs n 0) 41 ≡ x → occurrences 41 (take (n + 1) xs) ≡ occurrences 41 (take n xs) + cond x 1 0
  closes_more x e = occurrences_more 41 xs n l ∙ ap (λ (y : Bool). occurrences 41 (take n xs) + cond y 1 0) e

  -- one byte more
  more : (next : ℕ) → printable xs n ≡ true → Depth xs (n + 1) next → next ≤ most_depth → Behind xs (n + 1) next
  more next e d h =
      record {
        within = omega arith;
        bytes = every_more (printable xs) n b.bytes e;
        depths = every_more (nested xs) (n + 1) b.depths (nested_i xs (n + 1) next d h);
        is_depth = d;
        deep = h;
      }

  -- it opens, it closes, or it is no bracket
  which : (P : Type 0) → (eqb (get_or xs n 0) 40 ≡ true → eqb (get_or xs n 0) 41 ≡ false → P) → (eqb (get_or xs n 0) 40 ≡ false → eqb (get_or xs n 0) 41 ≡ true → P)
      → (eqb (get_or xs n 0) 40 ≡ false → eqb (get_or xs n 0) 41 ≡ false → P) → P
  which P f g h = go (eqb (get_or xs n 0) 40) (eqb (get_or xs n 0) 41) refl refl
    where
      go : (x y : Bool) → eqb (get_or xs n 0) 40 ≡ x → eqb (get_or xs n 0) 41 ≡ y → P
      go true true o c = absurd (let p = eqb-true (get_or xs n 0) 40 o in let q = eqb-true (get_or xs n 0) 41 c in omega arith)
      go true false o c = f o c
      go false true o c = g o c
      go false false o c = h o c

  -- a byte that may stand there
  pub behind_more : printable xs n ≡ true → (next : ℕ) → depth_behind depth (get_or xs n 0) ≡ Some next → Behind xs (n + 1) next
  behind_more e next q =
      which (Behind xs (n + 1) next)
      (λ o c.
      let opened = some_if (ltb depth most_depth) (depth + 1) next (rw o at q) in
      let below = ltb-true depth most_depth opened.0 in
      more next e (omega (arith, opens_more true o, closes_more false c, b.is_depth)) (omega arith))
      (λ o c.
      let closed = some_if (ltb 0 depth) (depth - 1) next (rw (o, c) at q) in
      let above = ltb-true 0 depth closed.0 in
      more next e (omega (arith, opens_more false o, closes_more true c, b.is_depth)) (omega (arith, b.deep)))
      (λ o c.
      let plain : Some depth ≡ Some next = rw (o, c) at q in
      let same : depth ≡ next = cc in
      more next e (omega (arith, opens_more false o, closes_more false c, b.is_depth)) (omega (arith, b.deep)))

  -- one that may not
  pub note_deep : depth_behind depth (get_or xs n 0) ≡ None → note_fits xs ≡ false
  unfolding note_fits
  note_deep q =
      rw (every-fails (nested xs) (suc (length xs)) (n + 1) (omega arith) outside) (and-false (every (length xs) (printable xs)))
    where
      outside : nested xs (n + 1) ≡ false
      outside =
          which (nested xs (n + 1) ≡ false)
          (λ o c.
          let full = ltb-false depth most_depth (none_if (ltb depth most_depth) (depth + 1) (rw o at q)) in
          rw (lt-leb (occurrences 40 (take (n + 1) xs)) (occurrences 41 (take (n + 1) xs) + most_depth) (omega (arith, opens_more true o, closes_more false c, b.is_depth)))
          (and-false (leb (occurrences 41 (take (n + 1) xs)) (occurrences 40 (take (n + 1) xs)))))
          (λ o c.
          let none = ltb-false 0 depth (none_if (ltb 0 depth) (depth - 1) (rw (o, c) at q)) in
          rw (lt-leb (occurrences 41 (take (n + 1) xs)) (occurrences 40 (take (n + 1) xs)) (omega (arith, opens_more false o, closes_more true c, b.is_depth))))
          (λ o c. let plain : Some depth ≡ None = rw (o, c) at q in cc)

-- the text ends
pub note_end : (xs : List ℕ) (n depth : ℕ) → Behind xs n depth → length xs ≤ n → eqb depth 0 ≡ note_fits xs
unfolding note_fits
note_end xs n depth b l =
    rw (subst (λ (m : ℕ). every m (printable xs) ≡ true) end b.bytes, subst (λ (m : ℕ). every m (nested xs) ≡ true) (add-one n ∙ ap suc end) b.depths)
    (closes (rw (take_all n xs l) at b.is_depth))
  where
    end : n ≡ length xs
    end = omega (arith, b.within)

    closes : depth + occurrences 41 xs ≡ occurrences 40 xs → eqb depth 0 ≡ eqb (occurrences 40 xs) (occurrences 41 xs)
    closes e =
        same_test (eqb depth 0) (eqb (occurrences 40 xs) (occurrences 41 xs))
        (λ t. let q = eqb→eq depth 0 t in eq_T (occurrences 40 xs) (occurrences 41 xs) (omega arith))
        (λ t. let q = eqb→eq (occurrences 40 xs) (occurrences 41 xs) t in eq_T depth 0 (omega arith))

-- ---- the note's own bracket

module _ (xs : List ℕ) where
  pub note_empty : length xs ≡ 0 → bad ≡ note_form xs
  unfolding note_form
  note_empty e = by xs e
    where
      by : (ys : List ℕ) → length ys ≡ 0 → bad ≡ cond (eqb (get_or ys (length ys - 1) 0) 41 && note_fits (take (length ys - 1) ys)) note bad
      by [] e = refl
      by (y ∷ ys) e = absurd (omega arith)

  -- the last byte is none
  pub note_unclosed : (get_or xs (length xs - 1) 0 ≡ 41 → ⊥) → bad ≡ note_form xs
  unfolding note_form
  note_unclosed h = rw (ne_eqb (get_or xs (length xs - 1) 0) 41 h)

  -- it is, and the text before it fits or not
  pub note_closed : (b : Bool) → get_or xs (length xs - 1) 0 ≡ 41 → b ≡ note_fits (take (length xs - 1) xs) → cond b note bad ≡ note_form xs
  unfolding note_form
  note_closed b h e = rw (eq-eqb (get_or xs (length xs - 1) 0) 41 h, e)
