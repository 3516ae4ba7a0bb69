-- The requests of a list of byte triples, from a triple on; and that requests and triples are inverse.
use Prim.Native.Nat.{ℕ, suc, ◌+◌, ◌*◌, ◌/◌, ◌%◌, ◌≤◌, ◌<◌}
use native.Mathlib.Numerals.{add-one, add-two}
use native.Mathlib.Omega.{arith}
use mathlib.Core.List.{List, [], ◌∷◌, ◌++◌}
use mathlib.Core.Path.{◌≡◌, refl, ap, ◌∙◌}
use lib.ListN.{length, get_or, drop, length-drop}
use lib.Seq.{drop-cons}
use Rattle.definitions.specs.Chains.{requests_of}
use Rattle.definitions.specs.Moves.{ask}
use Rattle.definitions.specs.Plan.{bytes_of}
use Rattle.definitions.specs.declared.Request.{Request}

-- the triple of index k
abbrev pub triple_at : List ℕ → ℕ → Request
triple_at bytes k = ask (get_or bytes (3 * k) 0) (get_or bytes (3 * k + 1) 0) (get_or bytes (3 * k + 2) 0)

-- the requests from there on
abbrev pub triples_from : List ℕ → ℕ → List Request
triples_from bytes k = requests_of (drop (3 * k) bytes)

-- the bytes from a triple on
pub triple_bytes : (bytes : List ℕ) (at : ℕ) → at + 3 ≤ length bytes
    → drop at bytes ≡ get_or bytes at 0 ∷ get_or bytes (at + 1) 0 ∷ get_or bytes (at + 2) 0 ∷ drop (at + 3) bytes
triple_bytes bytes at h =
    let three : at + 3 ≡ suc (suc (suc at)) = omega arith in
    rw (add-one at, add-two at, three, drop-cons bytes at 0 (omega arith), drop-cons bytes (suc at) 0 (omega arith), drop-cons bytes (suc (suc at)) 0 (omega arith))

pub triples_next : (bytes : List ℕ) (k : ℕ) → k < length bytes / 3 → triples_from bytes k ≡ triple_at bytes k ∷ triples_from bytes (k + 1)
unfolding requests_of
triples_next bytes k l =
    let three : 3 * k + 3 ≡ 3 * (k + 1) = omega arith in
    ap requests_of (triple_bytes bytes (3 * k) (omega arith)) ∙ ap (λ (j : ℕ). triple_at bytes k ∷ requests_of (drop j bytes)) three

short_triples : (l : List ℕ) → length l < 3 → requests_of l ≡ []
unfolding requests_of
short_triples [] h = refl
short_triples (a ∷ []) h = refl
short_triples (a ∷ b ∷ []) h = refl
short_triples (a ∷ b ∷ c ∷ rest) h = absurd (omega arith)

pub triples_end : (bytes : List ℕ) (k : ℕ) → length bytes / 3 ≤ k → triples_from bytes k ≡ []
triples_end bytes k l = short_triples (drop (3 * k) bytes) (omega (arith, length-drop (3 * k) bytes))

-- how many there are
pub triples_count : (l : List ℕ) → length (requests_of l) ≡ length l / 3
unfolding requests_of
triples_count [] = refl
triples_count (a ∷ []) = refl
triples_count (a ∷ b ∷ []) = refl
triples_count (a ∷ b ∷ c ∷ rest) = let more = triples_count rest in omega arith

-- ---- triples and requests

-- requests come back from their bytes
pub bytes_read : (rs : List Request) → requests_of (bytes_of rs) ≡ rs
unfolding bytes_of requests_of
bytes_read [] = refl
bytes_read (r ∷ rs) = ap (λ (qs : List Request). r ∷ qs) (bytes_read rs)

-- and so do bytes, if they are three times a whole number
pub triples_written : (xs : List ℕ) → length xs % 3 ≡ 0 → bytes_of (requests_of xs) ≡ xs
unfolding bytes_of requests_of
triples_written [] e = refl
triples_written (i ∷ []) e = absurd (omega arith)
triples_written (i ∷ m ∷ []) e = absurd (omega arith)
triples_written (i ∷ m ∷ t ∷ rest) e = ap (λ (ys : List ℕ). i ∷ m ∷ t ∷ ys) (triples_written rest (omega arith))

-- the bytes of two lists of requests
pub bytes_append : (xs ys : List Request) → bytes_of (xs ++ ys) ≡ bytes_of xs ++ bytes_of ys
unfolding bytes_of
bytes_append [] ys = refl
bytes_append (r ∷ xs) ys = ap (λ (l : List ℕ). r.thread ∷ r.mv ∷ r.target ∷ l) (bytes_append xs ys)
