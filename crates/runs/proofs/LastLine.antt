-- The last line of an output can be told from its bytes: one that ends in a steps line has one count, one that ends in a refused line has one refusal, and none ends in both.
-- Read from the back: the bracket, the number's digits, a space, and a letter or a digit.
use Prim.Native.Nat.{ℕ, ◌+◌, ◌/◌, ◌%◌, ◌≤◌, ◌<◌}
use native.Mathlib.Omega.{arith}
use mathlib.Core.List.{List, [], ◌∷◌, ◌++◌, append_assoc, reverse, reverse-append, reverse-reverse, append_cancel_left}
use mathlib.Core.Path.{◌≡◌, refl, sym, subst, ap, ◌∙◌}
use lib.Dec.{T, leb, leb→le, le→leb}
use lib.ListN.{length, get_or, drop, length-reverse}
use Rattle.definitions.specs.Run.{steps_line, refused_line}
use Rattle.definitions.specs.Texts.{bytes, is_digit, digits_of, value_from, decimal}
use Rattle.basics.proofs.Digits.{value-printed}
use Rattle.basics.proofs.Numbers.{decimal_small, decimal_more, by_tens, decimal-some}
use Rattle.basics.proofs.Tests.{and_i, and_r, cond_yes}

-- ---- numbers

abbrev Digits : List ℕ → Type 0
Digits [] = Unit {0}
Digits (c ∷ cs) = T (is_digit c) × Digits cs

digit : (c : ℕ) → c < 10 → T (is_digit (48 + c))
digit c l = and_i (leb 48 (48 + c)) (leb (48 + c) 57) (le→leb 48 (48 + c) (omega arith)) (le→leb (48 + c) 57 (omega arith))

-- the printed digits, from the last on
decimal_digits : (n : ℕ) → Digits (reverse (decimal n))
decimal_digits =
    by_tens (λ n. Digits (reverse (decimal n))) (λ n h. rw (decimal_small n h) (digit n h, tt))
    (λ n h rec. rw (decimal_more n h, reverse-append (decimal (n / 10)) ((48 + n % 10) ∷ [])) (digit (n % 10) (omega arith), rec))

-- ---- digits in front of a space

digits_read : (ds rest : List ℕ) → Digits ds → digits_of (ds ++ (32 ∷ rest)) ≡ ds
unfolding digits_of
digits_read [] rest h = refl
digits_read (d ∷ ds) rest h = cond_yes (is_digit d) (d ∷ digits_of (ds ++ (32 ∷ rest))) [] h.0 ∙ ap (λ (xs : List ℕ). d ∷ xs) (digits_read ds rest h.1)

split_once : (ds es v w : List ℕ) → Digits ds → Digits es → ds ++ (32 ∷ v) ≡ es ++ (32 ∷ w) → (ds ≡ es) × (v ≡ w)
split_once ds es v w h k e =
    let d : ds ≡ es = sym (digits_read ds v h) ∙ (ap digits_of e ∙ digits_read es w k) in
    (d, ap (drop 1) (append_cancel_left ds (32 ∷ v) (32 ∷ w) (e ∙ ap (λ (xs : List ℕ). xs ++ (32 ∷ w)) (sym d))))

first_digit : (ds rest : List ℕ) → 1 ≤ length ds → Digits ds → get_or (ds ++ rest) 0 0 ≤ 57
first_digit [] rest l h = absurd (omega arith)
first_digit (d ∷ ds) rest l h = leb→le d 57 (and_r (leb 48 d) (leb d 57) h.0)

-- ---- the last line from the back

-- a line that ends in a number and a bracket
from_back : (before word digits : List ℕ) → reverse (before ++ (word ++ (digits ++ bytes ")\n"))) ≡ 10 ∷ 41 ∷ (reverse digits ++ (reverse word ++ reverse before))
unfolding bytes
from_back before word digits =
    reverse-append before (word ++ (digits ++ bytes ")\n"))
    ∙ (ap (λ (xs : List ℕ). xs ++ reverse before) (reverse-append word (digits ++ bytes ")\n") ∙ ap (λ (xs : List ℕ). xs ++ reverse word) (reverse-append digits (bytes ")\n")))
    ∙ ap (λ (xs : List ℕ). 10 ∷ 41 ∷ xs) (append_assoc (reverse digits) (reverse word) (reverse before)))

steps_back : (before : List ℕ) (k : ℕ) → drop 2 (reverse (before ++ steps_line k)) ≡ reverse (decimal k) ++ (32 ∷ 115 ∷ (reverse (bytes "(step") ++ reverse before))
unfolding steps_line bytes
steps_back before k = ap (drop 2) (from_back before (bytes "(steps ") (decimal k))

-- the number that digits print is told by them
decimal_once : (k m : ℕ) → reverse (decimal k) ≡ reverse (decimal m) → k ≡ m
decimal_once k m e =
    let printed : decimal k ≡ decimal m = sym (reverse-reverse (decimal k)) ∙ (ap reverse e ∙ reverse-reverse (decimal m)) in
    sym (value-printed k) ∙ (ap (value_from 0) printed ∙ value-printed m)

-- one count
pub steps_once : (before other : List ℕ) (k m : ℕ) → before ++ steps_line k ≡ other ++ steps_line m → k ≡ m
steps_once before other k m e =
    let b = sym (steps_back before k) ∙ (ap (λ (xs : List ℕ). drop 2 (reverse xs)) e ∙ steps_back other m) in
    let same = (split_once (reverse (decimal k)) (reverse (decimal m)) _ _ (decimal_digits k) (decimal_digits m) b).0 in
    decimal_once k m same

refused_back : (before : List ℕ) (number line : ℕ)
    → drop 2 (reverse (before ++ refused_line number line)) ≡ reverse (decimal line) ++ (32 ∷ (reverse (decimal number) ++ reverse (before ++ bytes "(refused ")))
unfolding refused_line bytes
refused_back before number line =
    let front = before ++ bytes "(refused " in
    let tail = bytes " " ++ (decimal line ++ bytes ")\n") in
    ap (λ (xs : List ℕ). drop 2 (reverse xs)) (sym (append_assoc before (bytes "(refused ") (decimal number ++ tail)) ∙ sym (append_assoc front (decimal number) tail))
    ∙ (ap (drop 2) (from_back (front ++ decimal number) (bytes " ") (decimal line))
    ∙ ap (λ (xs : List ℕ). reverse (decimal line) ++ (32 ∷ xs)) (reverse-append front (decimal number)))

-- one refusal
pub refused_once : (before other : List ℕ) (n m l k : ℕ) → before ++ refused_line n l ≡ other ++ refused_line m k → (before ≡ other) × (n ≡ m) × (l ≡ k)
unfolding bytes
refused_once before other n m l k e =
    let b = sym (refused_back before n l) ∙ (ap (λ (xs : List ℕ). drop 2 (reverse xs)) e ∙ refused_back other m k) in
    let last = split_once (reverse (decimal l)) (reverse (decimal k)) _ _ (decimal_digits l) (decimal_digits k) b in
    let front : (number : ℕ) (xs : List ℕ)
    → reverse (decimal number) ++ reverse (xs ++ bytes "(refused ") ≡ reverse (decimal number) ++ (32 ∷ (reverse (bytes "(refused") ++ reverse xs)) =
    λ number xs. ap (λ (ys : List ℕ). reverse (decimal number) ++ ys) (reverse-append xs (bytes "(refused ")) in
    let first = split_once (reverse (decimal n)) (reverse (decimal m)) _ _ (decimal_digits n) (decimal_digits m) (sym (front n before) ∙ (last.1 ∙ front m other)) in
    let back : reverse before ≡ reverse other = append_cancel_left (reverse (bytes "(refused")) (reverse before) (reverse other) first.1 in
    (sym (reverse-reverse before) ∙ (ap reverse back ∙ reverse-reverse other), decimal_once n m first.0, decimal_once l k last.0)

-- no refused line
pub steps_not_refused : (before other : List ℕ) (k number line : ℕ) → before ++ steps_line k ≡ other ++ refused_line number line → ⊥
steps_not_refused before other k number line e =
    let b = sym (steps_back before k) ∙ (ap (λ (xs : List ℕ). drop 2 (reverse xs)) e ∙ refused_back other number line) in
    let same = (split_once (reverse (decimal k)) (reverse (decimal line)) _ _ (decimal_digits k) (decimal_digits line) b).1 in
    let byte = ap (λ (xs : List ℕ). get_or xs 0 0) same in
    let some = decimal-some number in
    let low = first_digit (reverse (decimal number)) (reverse (other ++ bytes "(refused ")) (subst (λ (n : ℕ). 1 ≤ n) (sym (length-reverse (decimal number))) some) (decimal_digits number) in
    omega arith
