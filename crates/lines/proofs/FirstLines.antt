-- The lines of a text by the place of its first line feed.
use Prim.Native.Nat.{ℕ, zero, suc, ◌+◌, ◌-◌, ◌≤◌, ◌<◌}
use native.Mathlib.Numerals.{one-add}
use native.Mathlib.Omega.{arith}
use mathlib.Core.Bool.{Bool, true, false, cond}
use mathlib.Core.List.{List, [], ◌∷◌}
use mathlib.Core.Logic.{⊎_elim}
use mathlib.Core.Path.{◌≡◌, refl, sym, ap, ◌∙◌}
use borrow.Author.Tests.{eq-eqb, ne_eqb, lt-ltb, le-ltb, ltb-true, ltb-false}
use lib.Dec.{ltb, eqb, leb-suc-suc}
use lib.ListN.{length, get_or, take, drop, length-drop, drop_of_length-le}
use lib.Seq.{take_all, drop-cons, drop-drop, length-take-le}
use Rattle.std.specs.List.{position, position_or_len}
use Rattle.std.specs.Prelude.{Option, Some, None}
use Rattle.definitions.specs.Texts.{Line, line_feed, in_front, lines_of}
use Rattle.basics.proofs.Lists.{from_on}
use Rattle.basics.proofs.Tests.{either}

-- how many bytes stand before the first line feed, or all where there is none
abbrev size : List ℕ → ℕ
size xs = position_or_len (λ c. eqb c line_feed) xs

-- the line at the front of xs, which isn't empty
abbrev first_line : List ℕ → Line
first_line xs = record { text = take (size xs) xs; ended = ltb (size xs) (length xs) }

-- a byte in front of the rest makes the first line one longer
longer : (c : ℕ) (l : Line) (ls : List Line) (n m : ℕ) → l.ended ≡ ltb n m
    → in_front c (l ∷ ls) ≡ record { text = c ∷ l.text; ended = ltb (suc n) (suc m) } ∷ ls
longer c l ls n m e = rw (leb-suc-suc (suc n) m, e)

-- it, and those behind it
first_line_lem : (xs : List ℕ) → 0 < length xs → lines_of xs ≡ first_line xs ∷ lines_of (drop (suc (size xs)) xs)
unfolding lines_of
first_line_lem [] h = absurd (omega arith)
first_line_lem (c ∷ []) h = ⊎_elim (λ e. rw e) (λ e. rw e) (either (eqb c line_feed))
first_line_lem (c ∷ d ∷ ds) h =
    ⊎_elim
    (λ e. rw e (ap (λ (b : Bool). record { text = []; ended = b } ∷ lines_of (d ∷ ds)) (sym (lt-ltb 0 (length (c ∷ d ∷ ds)) (omega arith)))))
    (λ e. rw e (rw (one-add (size (d ∷ ds))) (ap (in_front c) (first_line_lem (d ∷ ds) (omega arith)) ∙ longer c (first_line (d ∷ ds)) _ (size (d ∷ ds)) (length (d ∷ ds)) refl)))
    (either (eqb c line_feed))

pub no_line : (xs : List ℕ) (k : ℕ) → length xs ≤ k → lines_of (drop k xs) ≡ []
unfolding lines_of
no_line xs k h = rw (drop_of_length-le xs h)

-- what the place of the first line feed says
record Feed (xs : List ℕ) (place : Option ℕ) : Type 0 where
  found : (k : ℕ) → place ≡ Some k → (size xs < length xs) × (size xs ≡ k)
  missing : place ≡ None → length xs ≤ size xs

feed : (xs : List ℕ) (b : Bool) → ltb (size xs) (length xs) ≡ b → Feed xs (cond b (Some (size xs)) None)
feed xs true e = record { found = λ k q. (ltb-true (size xs) (length xs) e, cc); missing = λ q. cc }
feed xs false e = record { found = λ k q. cc; missing = λ q. ltb-false (size xs) (length xs) e }

-- ---- the search for a line feed

-- it stands at place k, or nowhere
pub feed_at : (xs : List ℕ) (k : ℕ) → k < length xs → size xs ≡ k → Some k ≡ position (λ c. eqb c line_feed) xs
feed_at xs k h e = rw (e, lt-ltb k (length xs) h)

pub feed_nowhere : (xs : List ℕ) → length xs ≤ size xs → None ≡ position (λ c. eqb c line_feed) xs
feed_nowhere xs h = rw (le-ltb (size xs) (length xs) h)

-- among the first n bytes, or behind them
size_take : (xs : List ℕ) (n : ℕ) → size (take n xs) < length (take n xs) → size xs ≡ size (take n xs)
size_take xs zero h = absurd (omega arith)
size_take [] (suc n) h = absurd (omega arith)
size_take (c ∷ cs) (suc n) h =
    ⊎_elim
    (λ e. rw e)
    (λ e. let more : 1 + size (take n cs) < suc (length (take n cs)) = rw e at h in rw e (omega (arith, size_take cs n (omega arith))))
    (either (eqb c line_feed))

size_behind : (xs : List ℕ) (n : ℕ) → n ≤ length xs → length (take n xs) ≤ size (take n xs) → size xs ≡ n + size (drop n xs)
size_behind xs zero l h = omega arith
size_behind [] (suc n) l h = absurd (omega arith)
size_behind (c ∷ cs) (suc n) l h =
    ⊎_elim
    (λ e. let none : suc (length (take n cs)) ≤ 0 = rw e at h in absurd (omega arith))
    (λ e. let more : suc (length (take n cs)) ≤ 1 + size (take n cs) = rw e at h in rw e (omega (arith, size_behind cs n (omega arith) (omega arith))))
    (either (eqb c line_feed))

-- no line feed was passed, so that the first of the text is the first from the present place on
pub record Passed (xs : List ℕ) (at : ℕ) : Type 0 where
  pub within : at ≤ length xs
  pub left : size xs ≡ at + size (drop at xs)

pub passed_none : (xs : List ℕ) → Passed xs 0
passed_none xs = record { within = omega arith; left = omega arith }

module _ {xs : List ℕ} {at : ℕ} (p : Passed xs at) where
  -- the next n bytes
  module _ (n : ℕ) (within : at + n ≤ length xs) where
    pub feed_found : (k : ℕ) → Some k ≡ position (λ c. eqb c line_feed) (take n (drop at xs)) → Some (at + k) ≡ position (λ c. eqb c line_feed) xs
    feed_found k h =
        let f = (feed (take n (drop at xs)) _ refl).found k (sym h) in
        let same = size_take (drop at xs) n f.0 in
        let below : at + k < length xs = omega (arith, f.0, f.1, length-take-le n (drop at xs), length-drop at xs) in
        feed_at xs (at + k) below (omega (arith, p.left, f.1))

    pub passed_more : None ≡ position (λ c. eqb c line_feed) (take n (drop at xs)) → Passed xs (at + n)
    passed_more h =
        let f = (feed (take n (drop at xs)) _ refl).missing (sym h) in
        let behind : size (drop at xs) ≡ n + size (drop n (drop at xs)) = size_behind (drop at xs) n (omega (arith, length-drop at xs)) f in
        let left : size (drop n (drop at xs)) ≡ size (drop (at + n) xs) = ap size (drop-drop n at xs) in
        record { within = within; left = omega (arith, p.left) }

  -- the next byte
  module _ (below : at < length xs) where
    pub feed_here : get_or xs at 0 ≡ line_feed → Some at ≡ position (λ c. eqb c line_feed) xs
    feed_here e =
        let none : size (drop at xs) ≡ 0 = rw (drop-cons xs at 0 below, eq-eqb (get_or xs at 0) line_feed e) in
        feed_at xs at below (omega (arith, p.left))

    pub passed_byte : (get_or xs at 0 ≡ line_feed → ⊥) → Passed xs (at + 1)
    passed_byte n =
        let more : size (drop at xs) ≡ 1 + size (drop (suc at) xs) = rw (drop-cons xs at 0 below, ne_eqb (get_or xs at 0) line_feed n) in
        let next : suc at ≡ at + 1 = omega arith in
        record { within = omega arith; left = omega (arith, p.left, ap (λ (k : ℕ). size (drop k xs)) next) }

  -- none
  pub no_feed : length xs ≤ at → None ≡ position (λ c. eqb c line_feed) xs
  no_feed h = feed_nowhere xs (omega (arith, p.left))

module _ (xs : List ℕ) (from : ℕ) (some : from < length xs) where
  cut : (b : Bool) → ltb (size (drop from xs)) (length (drop from xs)) ≡ b
      → lines_of (drop from xs) ≡ record { text = take (size (drop from xs)) (drop from xs); ended = b } ∷ lines_of (drop (from + suc (size (drop from xs))) xs)
  cut b h = first_line_lem (drop from xs) (omega (arith, length-drop from xs)) ∙ rw (h, drop-drop)

  pub line_ended : (k : ℕ) → Some k ≡ position (λ c. eqb c line_feed) (take (length xs - from) (drop from xs))
      → lines_of (drop from xs) ≡ record { text = take (from + k - from) (drop from xs); ended = true } ∷ lines_of (drop (from + k + 1) xs)
  line_ended k e =
      let f = (feed (drop from xs) _ refl).found k (sym (rw from_on at e)) in
      let same : size (drop from xs) ≡ from + k - from = omega (arith, f.1) in
      let next : from + suc (from + k - from) ≡ from + k + 1 = omega arith in
      cut true (lt-ltb _ _ f.0) ∙ rw (same, next)

  pub line_unended : None ≡ position (λ c. eqb c line_feed) (take (length xs - from) (drop from xs))
      → lines_of (drop from xs) ≡ record { text = take (length xs - from) (drop from xs); ended = false } ∷ lines_of (drop (length xs) xs)
  line_unended e =
      let f = (feed (drop from xs) _ refl).missing (sym (rw from_on at e)) in
      let long : length xs ≤ from + suc (size (drop from xs)) = omega (arith, length-drop from xs) in
      cut false (le-ltb _ _ f)
      ∙ rw (take_all (size (drop from xs)) (drop from xs) f, from_on, no_line xs (length xs) (omega arith), no_line xs (from + suc (size (drop from xs))) long)
