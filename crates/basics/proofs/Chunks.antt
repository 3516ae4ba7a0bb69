-- What a `for` over `bytes.chunks_exact(2)` reads: the pairs of the bytes, in order (`pairs_come`); and one over `bytes.chunks_exact(3)`: the requests of their triples (`triples_come`).
-- A turn of a loop over any such iterator gives a `Next`: its item is that of the index, which is the number of items before it, and the first of those that are left.
-- `next_item` is the turn and `last_item` the end; `next_at` and `last_at` are the same for a loop with indices, over `.enumerate()`.
use Rattle.std.proofs.Common.{◌≡◌, ℕ, ◌+◌, ◌<◌, Option, None, Some, List, [], ◌∷◌, ◌++◌, length, get_or, drop, sym, ap, ◌∙◌, arith, length-append}
use Rattle.std.proofs.lemmas.Iterator.{YieldsList}
use Rattle.std.proofs.lemmas.Iterator.Consumers.{YieldsList-turn, YieldsList-end, YieldsList-from_enumerate}
use Rattle.std.proofs.lemmas.List.{drop_more, get_or_read, length_push}
use Rattle.std.proofs.lemmas.List.FromFn.{length-enumerate_from, get_or-enumerate_from}
use Rattle.std.specs.Iterator.{AlwaysYields, Yields}
use Rattle.std.specs.Iterator.Adapters.{enumerate_source, enumerate_count, enumerate_steps}
use Rattle.std.specs.Slice.Iter.{chunks_exact_rest, chunks_exact_size, chunks_exact_steps}
use Rattle.definitions.specs.Chains.{requests_of}
use Rattle.definitions.specs.Moves.{ask}
use Rattle.definitions.specs.PlainLock.{Pair, pairs_of}
use Rattle.definitions.specs.declared.Request.{Request}

-- ---- a turn of a loop over a list

-- the item of index k of a list is a, and then come those from `next` on
pub record Next {B : Type 0} (all : List B) (k : ℕ) (a : B) (next : ℕ) : Type 0 where
  pub within : k < length all
  pub more : next ≡ k + 1
  pub item : (d : B) → get_or all k d ≡ a
  pub left : drop k all ≡ a ∷ drop next all

next_of : {B : Type 0} (all : List B) (k : ℕ) (a : B) (next : ℕ) → next ≡ k + 1 → k < length all → a ≡ get_or all k a → Next all k a next
next_of all k a next e l same =
    record {
      within = l;
      more = e;
      item = λ d. sym (get_or_read all k a l same d);
      left = drop_more all k a l ∙ (ap (λ z. z ∷ drop (k + 1) all) (sym same) ∙ ap (λ j. a ∷ drop j all) (sym e));
    }

module _ {S A B : Type 0} {steps : S → Option A → S → Type 0} {v : A → B} {s : S} {all : List B} (e : YieldsList steps v s all) where
  pub next_item : (xs : List A) (t : S) → Yields steps s xs t → (r : Option A) (u : S) (x : A) → r ≡ Some x → steps t r u → Next all (length xs) (v x) (length (xs ++ x ∷ []))
  next_item xs t y r u x is p = let turn = YieldsList-turn e xs t y r u x is p in next_of all (length xs) (v x) _ (length_push xs x) turn.0 turn.1

  pub last_item : (xs : List A) (t : S) → Yields steps s xs t → (r : Option A) (u : S) → r ≡ None → steps t r u → length xs ≡ length all
  last_item xs t y r u is p = (YieldsList-end e xs t y r u is p).1

-- with indices
module _ {S A B : Type 0} {steps : S → Option A → S → Type 0} {v : A → B} {s : _} {all : List B} (e : YieldsList steps v (enumerate_source s) all) (z : enumerate_count s ≡ 0) where
  pub next_at : (xs : List (ℕ × A)) (t : _) → Yields (enumerate_steps steps) s xs t → (r : Option (ℕ × A)) (u : _) (i : ℕ) (x : A) → r ≡ Some (i, x) → enumerate_steps steps t r u
      → (i ≡ length xs) × Next all (length xs) (v x) (length (xs ++ (i, x) ∷ []))
  next_at xs t y r u i x is p =
      let turn = YieldsList-turn (YieldsList-from_enumerate e z) xs t y r u (i, x) is p in
      let l : length xs < length all = omega (arith, turn.0, length-enumerate_from 0 all) in
      let at : ◌≡◌ {A = ℕ × B} (i, v x) (0 + length xs, get_or all (length xs) (v x)) = turn.1 ∙ get_or-enumerate_from 0 all (length xs) (i, v x) l in
      (omega (arith, ap (λ (p : ℕ × B). p.0) at), next_of all (length xs) (v x) _ (length_push xs (i, x)) l (ap (λ (p : ℕ × B). p.1) at))

  pub last_at : (xs : List (ℕ × A)) (t : _) → Yields (enumerate_steps steps) s xs t → (r : Option (ℕ × A)) (u : _) → r ≡ None → enumerate_steps steps t r u → length xs ≡ length all
  last_at xs t y r u is p = omega (arith, (YieldsList-end (YieldsList-from_enumerate e z) xs t y r u is p).1, length-enumerate_from 0 all)

-- no whole chunk is left where the bytes are fewer
short : (n : ℕ) (bytes xs ys : List ℕ) → bytes ≡ xs ++ ys → length xs ≡ n → length bytes < n → ⊥
short n bytes xs ys same size few = omega (arith, ap length same, length-append xs ys)

-- ---- pairs

abbrev pub pair_in : List ℕ → Pair
pair_in xs = record { thread = get_or xs 0 0; event = get_or xs 1 0 }

first_two : (xs ys : List ℕ) (t e : ℕ) (rest : List ℕ) → t ∷ e ∷ rest ≡ xs ++ ys → length xs ≡ 2 → (pair_in xs ≡ record { thread = t; event = e }) × (ys ≡ rest)
first_two [] ys t e rest same two = absurd (omega arith)
first_two (a ∷ []) ys t e rest same two = absurd (omega arith)
first_two (a ∷ b ∷ []) ys t e rest same two = (cc, cc)
first_two (a ∷ b ∷ c ∷ more) ys t e rest same two = absurd (omega arith)

always-pairs : (bytes : List ℕ) (s : _) → chunks_exact_rest s ≡ bytes → chunks_exact_size s ≡ 2
    → AlwaysYields (chunks_exact_steps {A = ℕ}) (λ x. pair_in x.now) s (pairs_of bytes)
unfolding pairs_of
always-pairs [] s r z = λ x j h. short 2 [] x.now (chunks_exact_rest j) (sym r ∙ h.1.0) (h.1.1 ∙ z) (omega arith)
always-pairs (t ∷ []) s r z = λ x j h. short 2 (t ∷ []) x.now (chunks_exact_rest j) (sym r ∙ h.1.0) (h.1.1 ∙ z) (omega arith)
always-pairs (t ∷ e ∷ rest) s r z = (
  (λ j h. omega (arith, h.1.0, ap length r)),
  (λ x j h.
      let first = first_two x.now (chunks_exact_rest j) t e rest (sym r ∙ h.1.0) (h.1.1 ∙ z) in
      (first.0, always-pairs rest j first.1 (h.0 ∙ z))),
)

pub pairs_come : (bytes : List ℕ) {s : _} → chunks_exact_rest s ≡ bytes → chunks_exact_size s ≡ 2 → YieldsList (chunks_exact_steps {A = ℕ}) (λ x. pair_in x.now) s (pairs_of bytes)
pairs_come bytes {s} r z = record { runs = always-pairs bytes s r z }

-- ---- triples

abbrev pub triple_in : List ℕ → Request
triple_in xs = ask (get_or xs 0 0) (get_or xs 1 0) (get_or xs 2 0)

first_three : (xs ys : List ℕ) (i m t : ℕ) (rest : List ℕ) → i ∷ m ∷ t ∷ rest ≡ xs ++ ys → length xs ≡ 3 → (triple_in xs ≡ ask i m t) × (ys ≡ rest)
first_three [] ys i m t rest same three = absurd (omega arith)
first_three (a ∷ []) ys i m t rest same three = absurd (omega arith)
first_three (a ∷ b ∷ []) ys i m t rest same three = absurd (omega arith)
first_three (a ∷ b ∷ c ∷ []) ys i m t rest same three = (cc, cc)
first_three (a ∷ b ∷ c ∷ d ∷ more) ys i m t rest same three = absurd (omega arith)

always-triples : (bytes : List ℕ) (s : _) → chunks_exact_rest s ≡ bytes → chunks_exact_size s ≡ 3
    → AlwaysYields (chunks_exact_steps {A = ℕ}) (λ x. triple_in x.now) s (requests_of bytes)
unfolding requests_of
always-triples [] s r z = λ x j h. short 3 [] x.now (chunks_exact_rest j) (sym r ∙ h.1.0) (h.1.1 ∙ z) (omega arith)
always-triples (i ∷ []) s r z = λ x j h. short 3 (i ∷ []) x.now (chunks_exact_rest j) (sym r ∙ h.1.0) (h.1.1 ∙ z) (omega arith)
always-triples (i ∷ m ∷ []) s r z = λ x j h. short 3 (i ∷ m ∷ []) x.now (chunks_exact_rest j) (sym r ∙ h.1.0) (h.1.1 ∙ z) (omega arith)
always-triples (i ∷ m ∷ t ∷ rest) s r z = (
  (λ j h. omega (arith, h.1.0, ap length r)),
  (λ x j h.
      let first = first_three x.now (chunks_exact_rest j) i m t rest (sym r ∙ h.1.0) (h.1.1 ∙ z) in
      (first.0, always-triples rest j first.1 (h.0 ∙ z))),
)

pub triples_come : (bytes : List ℕ) {s : _} → chunks_exact_rest s ≡ bytes → chunks_exact_size s ≡ 3 → YieldsList (chunks_exact_steps {A = ℕ}) (λ x. triple_in x.now) s (requests_of bytes)
triples_come bytes {s} r z = record { runs = always-triples bytes s r z }
