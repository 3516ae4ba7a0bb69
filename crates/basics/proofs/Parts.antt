-- A text in parts, put into an output one part behind the other.
-- First `Partly`: some parts are put, and a rest is left. A function that puts parts goes from `no_part` by `part_put` to `last_part` or `all_parts`, and `room_part` is what each call asks.
-- Then `Parts`: a text whose parts have the indices 0, 1, .. A loop that puts them is entered by `parts_none`, one turn is `parts_more`, and it is left by `parts_all`.
-- A turn's call asks `parts_room`. A loop that measures them goes from `measured_none` by `measured_more` to `measured_all`.
-- Last, texts in parts that several writers have: lists behind each other, one entry for each thread, and a list byte by byte.
use Prim.Native.Nat.{ℕ, zero, suc, ◌+◌, ◌-◌, ◌≤◌, ◌<◌}
use native.Mathlib.Numerals.{add-one}
use native.Mathlib.Omega.{arith}
use mathlib.Core.List.{List, [], ◌∷◌, ◌++◌, append_assoc, append-nil}
use mathlib.Core.Path.{◌≡◌, refl, sym, subst, ap, ◌∙◌}
use lib.ListN.{length, get_or, drop, length-append}
use lib.Seq.{drop-cons, drop-length}
use Rattle.definitions.specs.Threads.{list_of, gather}
use Rattle.basics.specs.Outputs.{RoomAt, PutAt}
use Rattle.basics.proofs.Outputs.{none, same_size, room_first, room_second, both}

-- the same text, said otherwise
module _ {out : List ℕ} {at : ℕ} {s t : List ℕ} (e : s ≡ t) where
  pub room_as : RoomAt out at s → RoomAt out at t
  room_as r = subst (λ (x : List ℕ). RoomAt out at x) e r

  pub put_as : {out' : List ℕ} {n : ℕ} → PutAt out at s out' n → PutAt out at t out' n
  put_as {out'} {n} p = subst (λ (x : List ℕ). PutAt out at x out' n) e p

-- ---- some parts are put

-- the parts before `rest` are put: `rest`, put at the present position, completes the text
pub record Partly (out : List ℕ) (at : ℕ) (text rest out' : List ℕ) (next : ℕ) : Type 0 where
  pub room : RoomAt out' next rest
  pub completes : {o : List ℕ} {n : ℕ} → PutAt out' next rest o n → PutAt out at text o n
  pub size : length out' ≡ length out

module _ {out : List ℕ} {at : ℕ} {text : List ℕ} where
  pub no_part : RoomAt out at text → Partly out at text text out at
  no_part r = record { room = r; completes = λ p. p; size = refl }

  module _ {out' : List ℕ} {next : ℕ} where
    -- one more part
    module _ (s t : List ℕ) (w : Partly out at text (s ++ t) out' next) where
      pub room_part : RoomAt out' next s
      room_part = room_first s t w.room

      pub part_put : {o : List ℕ} {n : ℕ} → PutAt out' next s o n → Partly out at text t o n
      part_put p =
          record {
            room = room_second s t w.room p;
            completes = λ q. w.completes (both s t w.room p q);
            size = same_size room_part p ∙ w.size;
          }

    -- the last part
    pub last_part : {s : List ℕ} → Partly out at text s out' next → {o : List ℕ} {n : ℕ} → PutAt out' next s o n → PutAt out at text o n
    last_part w p = w.completes p

    -- nothing is left
    pub all_parts : Partly out at text [] out' next → PutAt out at text out' next
    all_parts w = w.completes (none out' next)

    -- the same by an equation for what is left
    module _ {rest : List ℕ} (w : Partly out at text rest out' next) where
      pub all-by : rest ≡ [] → PutAt out at text out' next
      all-by e = all_parts (subst (λ (l : List ℕ). Partly out at text l out' next) e w)

      module _ (s t : List ℕ) (e : rest ≡ s ++ t) where
        split : Partly out at text (s ++ t) out' next
        split = subst (λ (l : List ℕ). Partly out at text l out' next) e w

        pub room_by : RoomAt out' next s
        room_by = room_part s t split

        pub put-by : {o : List ℕ} {n : ℕ} → PutAt out' next s o n → Partly out at text t o n
        put-by p = part_put s t split p

-- ---- a text in parts

-- what part k is, and what is left of the text from part k on: part k and what is left from part k + 1 on, and behind the last part nothing
pub record Parts : Type 0 where
  pub text : List ℕ
  pub count : ℕ
  pub part : ℕ → List ℕ
  pub from : ℕ → List ℕ
  pub start : from 0 ≡ text
  pub next : (k : ℕ) → k < count → from k ≡ part k ++ from (k + 1)
  pub end : from count ≡ []

at_end : (p : Parts) (k : ℕ) → k ≤ p.count → p.count ≤ k → p.from k ≡ []
at_end p k l m = let e : k ≡ p.count = omega arith in ap p.from e ∙ p.end

-- the parts below k are measured, behind what was counted before them
pub record PartsMeasured (p : Parts) (before k total : ℕ) : Type 0 where
  pub within : k ≤ p.count
  pub left : total + length (p.from k) ≡ before + length p.text

pub measured_none : (p : Parts) (before : ℕ) → PartsMeasured p before 0 before
measured_none p before = record { within = omega arith; left = ap (λ (l : List ℕ). before + length l) p.start }

module _ {p : Parts} {before k total : ℕ} (m : PartsMeasured p before k total) where
  pub measured_all : p.count ≤ k → total ≡ before + length p.text
  measured_all l = omega (arith, m.left, ap length (at_end p k m.within l))

  module _ (l : k < p.count) {more : ℕ} (e : more ≡ length (p.part k)) where
    pub measured_more : PartsMeasured p before (k + 1) (total + more)
    measured_more = record { within = omega arith; left = omega (arith, m.left, ap length (p.next k l), length-append (p.part k) (p.from (k + 1))) }

    pub measured_most : total + more ≤ before + length p.text
    measured_most = omega (arith, measured_more.left)

-- the parts below k are put, and there is room for the rest
pub record PartsPut (p : Parts) (out : List ℕ) (at k : ℕ) (out' : List ℕ) (next : ℕ) : Type 0 where
  pub within : k ≤ p.count
  pub put : Partly out at p.text (p.from k) out' next

pub parts_none : {p : Parts} {out : List ℕ} {at : ℕ} → RoomAt out at p.text → PartsPut p out at 0 out at
parts_none {p} {out} {at} r = record { within = omega arith; put = subst (λ (l : List ℕ). Partly out at p.text l out at) (sym p.start) (no_part r) }

module _ {p : Parts} {out : List ℕ} {at k : ℕ} {out' : List ℕ} {next : ℕ} (w : PartsPut p out at k out' next) where
  pub parts_all : p.count ≤ k → PutAt out at p.text out' next
  parts_all l = all-by w.put (at_end p k w.within l)

  module _ (l : k < p.count) where
    pub parts_room : RoomAt out' next (p.part k)
    parts_room = room_by w.put (p.part k) (p.from (k + 1)) (p.next k l)

    pub parts_more : {o : List ℕ} {n : ℕ} → PutAt out' next (p.part k) o n → PartsPut p out at (k + 1) o n
    parts_more q = record { within = omega arith; put = put-by w.put (p.part k) (p.from (k + 1)) (p.next k l) q }

-- ---- lists behind each other

module _ {A : Type 0} (f : ℕ → List A) where
  -- m lists, from f k on
  later : ℕ → ℕ → List A
  later k zero = []
  later k (suc m) = f k ++ later (suc k) m

  joined : (n k m : ℕ) → k + m ≡ n → gather k f ++ later k m ≡ gather n f
  unfolding gather later
  joined n k zero e = let same : k ≡ n = omega arith in append-nil (gather k f) ∙ ap (λ (j : ℕ). gather j f) same
  joined n k (suc m) e = sym (append_assoc (gather k f) (f k) (later (suc k) m)) ∙ joined n (suc k) m (omega arith)

  module _ (n : ℕ) where
    -- the lists from index k on
    pub gather_from : ℕ → List A
    gather_from k = later k (n - k)

    pub gather-start : gather_from 0 ≡ gather n f
    unfolding gather gather_from
    gather-start = joined n 0 (n - 0) (omega arith)

    pub gather-next : (k : ℕ) → k < n → gather_from k ≡ f k ++ gather_from (k + 1)
    unfolding gather_from later
    gather-next k l =
        let e : n - k ≡ suc (n - (k + 1)) = omega arith in
        ap (later k) e ∙ ap (λ (j : ℕ). f k ++ later j (n - (k + 1))) (sym (add-one k))

    pub gather_end : gather_from n ≡ []
    unfolding gather_from later
    gather_end = let e : n - n ≡ 0 = omega arith in ap (later n) e

abbrev pub gathered : ℕ → (ℕ → List ℕ) → Parts
gathered n f = record { text = gather n f; count = n; part = f; from = gather_from f n; start = gather-start f n; next = gather-next f n; end = gather_end f n }

-- ---- one entry for each thread below n

list_gathered : (n : ℕ) (f : ℕ → ℕ) → gather n (λ i. f i ∷ []) ≡ list_of n f
unfolding list_of gather
list_gathered zero f = refl
list_gathered (suc n) f = ap (λ (l : List ℕ). l ++ (f n ∷ [])) (list_gathered n f)

pub list_start : (n : ℕ) (f : ℕ → ℕ) → gather_from (λ i. f i ∷ []) n 0 ≡ list_of n f
list_start n f = gather-start (λ i. f i ∷ []) n ∙ list_gathered n f

abbrev pub listed : ℕ → (ℕ → ℕ) → Parts
listed n f =
    let entry : ℕ → List ℕ = λ i. f i ∷ [] in
    record { text = list_of n f; count = n; part = entry; from = gather_from entry n; start = list_start n f; next = gather-next entry n; end = gather_end entry n }

-- ---- byte by byte

pub bytes_next : (xs : List ℕ) (k : ℕ) → k < length xs → drop k xs ≡ get_or xs k 0 ∷ drop (k + 1) xs
bytes_next xs k l = rw (add-one, ← drop-cons xs k 0 l)

abbrev pub bytewise : List ℕ → Parts
bytewise xs =
    record {
      text = xs;
      count = length xs;
      part = λ k. get_or xs k 0 ∷ [];
      from = λ k. drop k xs;
      start = refl;
      next = bytes_next xs;
      end = drop-length xs;
    }
