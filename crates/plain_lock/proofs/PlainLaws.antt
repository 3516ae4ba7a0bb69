-- The plain lock read pair by pair: `permitted`, which speaks of prefixes, as a recursion over the list (`permitted_is`); which event is next at a place;
-- the places after one pair more, and in an array; how many threads are at a place while one moves.
use Rattle.std.proofs.Common.{◌≡◌, ℕ, zero, suc, ◌+◌, ◌<◌, ◌≤◌, Bool, cond, not, ◌&&◌, ◌||◌, T, eqb, ◌⊎◌, List, [], ◌∷◌, ◌++◌, length, get_or, take, set, sym, refl, ap, ◌∙◌, subst, inl, inr}
use Rattle.std.proofs.Common.{add-one, arith, eqb→eq, get_or-set_other, take-suc, get_or-set_same, ne_eqb}
use mathlib.Core.Bool.{and-true, and_assoc}
use mathlib.Core.Path.{fun_ext}
use Rattle.definitions.specs.Answers.{passes_all}
use Rattle.definitions.specs.PlainLock.{Pair, Places, places_in, at_start, place_after, advanced, places_after, is_next, tests_of, permitted, how_many_at}
use Rattle.definitions.specs.Threads.{every}
use Rattle.plain_lock.specs.Permitted.{pair_fits, permitted_from}
use Rattle.basics.proofs.Quantifiers.{how_many-change}
use Rattle.basics.proofs.Tests.{or_e, or_l, same_test, no_both, eq_T, decided, cond_yes, cond_no, cond_either, same?}
use Rattle.basics.proofs.Columns.{update_same, update_other}

abbrev pub no_pair : Pair
no_pair = record { thread = 0; event = 0 }

-- ---- permitted

every_front : (n : ℕ) (f : ℕ → Bool) → every (suc n) f ≡ f 0 && every n (λ k. f (suc k))
unfolding every
every_front zero f = sym (and-true (f 0))
every_front (suc n) f =
    ap (λ (b : Bool). b && f (suc n)) (every_front n f) ∙ and_assoc (f 0) (every n (λ k. f (suc k))) (f (suc n))

permitted-from : (n : ℕ) (p : Places) (h : List Pair)
    → every (length h) (λ k. pair_fits n (places_after p (take k h)) (get_or h k no_pair)) ≡ permitted_from n p h
unfolding permitted_from every places_after
permitted-from n p [] = refl
permitted-from n p (x ∷ xs) =
    every_front (length xs) (λ k. pair_fits n (places_after p (take k (x ∷ xs))) (get_or (x ∷ xs) k no_pair))
    ∙ ap (λ (b : Bool). pair_fits n p x && b) (permitted-from n (advanced p x) xs)

pub permitted_is : (n : ℕ) (h : List Pair) → permitted n h ≡ permitted_from n at_start h
unfolding permitted tests_of passes_all
permitted_is n h = permitted-from n at_start h

-- one behind the other
pub permitted_append : (n : ℕ) (p : Places) (xs ys : List Pair) → permitted_from n p (xs ++ ys) ≡ permitted_from n p xs && permitted_from n (places_after p xs) ys
unfolding permitted_from places_after
permitted_append n p [] ys = refl
permitted_append n p (x ∷ xs) ys =
    ap (λ (b : Bool). pair_fits n p x && b) (permitted_append n (advanced p x) xs ys)
    ∙ sym (and_assoc (pair_fits n p x) (permitted_from n (advanced p x) xs) (permitted_from n (places_after (advanced p x) xs) ys))

-- ---- the next event

-- at place 0 a call, at any other the code one above it
pub data Next (place event : ℕ) : Type 0 where
  calls-shared : place ≡ 0 → event ≡ 1 → Next place event
  calls-exclusive : place ≡ 0 → event ≡ 5 → Next place event
  goes_on : event ≡ place + 1 → Next place event

pub next_e : (place event : ℕ) → T (is_next place event) → Next place event
next_e place event t = by (decided (eqb place 0))
  where
    call : place ≡ 0 → T (eqb event 1) ⊎ T (eqb event 5) → Next place event
    call z (inl u) = calls-shared z (eqb→eq event 1 u)
    call z (inr u) = calls-exclusive z (eqb→eq event 5 u)

    by : T (eqb place 0) ⊎ T (not (eqb place 0)) → Next place event
    by (inl z) =
        call (eqb→eq place 0 z) (or_e (eqb event 1) (eqb event 5) (subst T (cond_yes (eqb place 0) (eqb event 1 || eqb event 5) (eqb event (place + 1)) z) t))
    by (inr z) =
        goes_on (eqb→eq event (place + 1) (subst T (cond_no (eqb place 0) (eqb event 1 || eqb event 5) (eqb event (place + 1)) z) t))

-- a thread leaves a place by the code one above it, where that is no call
pub leaves_by : (place event at : ℕ) → 1 ≤ at → (at ≡ 4 → ⊥) → T (is_next place event) → eqb place at ≡ eqb event (at + 1)
leaves_by place event at some no_4 t =
    same_test (eqb place at) (eqb event (at + 1))
    (λ u. eq_T event (at + 1) (to (next_e place event t) (eqb→eq place at u)))
    (λ u. eq_T place at (from (next_e place event t) (eqb→eq event (at + 1) u)))
  where
    to : Next place event → place ≡ at → event ≡ at + 1
    to (calls-shared z c) e = absurd (omega arith)
    to (calls-exclusive z c) e = absurd (omega arith)
    to (goes_on c) e = omega arith

    from : Next place event → event ≡ at + 1 → place ≡ at
    from (calls-shared z c) e = absurd (omega arith)
    from (calls-exclusive z c) e = absurd (no_4 (omega arith))
    from (goes_on c) e = omega arith

-- and comes to a place by the place's own code
pub comes_by : (event at : ℕ) → 1 ≤ at → (at ≡ 4 → ⊥) → (at ≡ 8 → ⊥) → eqb (place_after event) at ≡ eqb event at
comes_by event at some no_4 no-8 =
    cond_either (λ p. eqb p at ≡ eqb event at) (eqb event 4 || eqb event 8) 0 event
    (λ t. ne_eqb 0 at (λ e. omega arith) ∙ sym (ne_eqb event at (ends (or_e (eqb event 4) (eqb event 8) t))))
    (λ t. refl)
  where
    ends : T (eqb event 4) ⊎ T (eqb event 8) → event ≡ at → ⊥
    ends (inl u) e = no_4 (sym e ∙ eqb→eq event 4 u)
    ends (inr u) e = no-8 (sym e ∙ eqb→eq event 8 u)

-- no thread is ever at place 4: a 4 leads to place 0
after_round : (event : ℕ) → place_after event ≡ 4 → ⊥
after_round event =
    cond_either (λ p. p ≡ 4 → ⊥) (eqb event 4 || eqb event 8) 0 event
    (λ t e. omega arith)
    (λ t e. no_both (eqb event 4 || eqb event 8) (or_l (eqb event 4) (eqb event 8) (eq_T event 4 e)) t)

pub is_in_round : (p : Places) (h : List Pair) → ((t : ℕ) → p t ≡ 4 → ⊥) → (t : ℕ) → places_after p h t ≡ 4 → ⊥
unfolding places_after
is_in_round p [] fine = fine
is_in_round p (x ∷ xs) fine =
    is_in_round (advanced p x) xs
    (λ t. cond_either (λ q. q ≡ 4 → ⊥) (eqb t x.thread) (place_after x.event) (p t) (λ u. after_round x.event) (λ u. fine t))

-- ---- the places after one pair more

pub places_append : (p : Places) (xs ys : List Pair) → places_after p (xs ++ ys) ≡ places_after (places_after p xs) ys
unfolding places_after
places_append p [] ys = refl
places_append p (x ∷ xs) ys = places_append (advanced p x) xs ys

pub places_behind : (p : Places) (xs : List Pair) (x : Pair) → places_after p (xs ++ (x ∷ [])) ≡ advanced (places_after p xs) x
unfolding places_after
places_behind p xs x = places_append p xs (x ∷ [])

pub places_more : (h : List Pair) (k : ℕ) → k < length h → places_after at_start (take (k + 1) h) ≡ advanced (places_after at_start (take k h)) (get_or h k no_pair)
places_more h k l =
    ap (λ (m : ℕ). places_after at_start (take m h)) (add-one k)
    ∙ (ap (places_after at_start) (take-suc h k no_pair l) ∙ places_behind at_start (take k h) (get_or h k no_pair))

-- ---- the places that an array holds

pub places_in-set : (a : List ℕ) (x : Pair) → x.thread < length a → places_in (set a x.thread (place_after x.event)) ≡ advanced (places_in a) x
places_in-set a x l = fun_ext (λ t. at t (same? t x.thread))
  where
    place : ℕ
    place = place_after x.event

    at : (t : ℕ) → (t ≡ x.thread) ⊎ (t ≡ x.thread → ⊥) → get_or (set a x.thread (place_after x.event)) t 0 ≡ advanced (places_in a) x t
    at t (inl e) =
        ap (λ (j : ℕ). get_or (set a x.thread place) j 0) e
        ∙ (get_or-set_same a x.thread place 0 l ∙ sym (update_same (places_in a) x.thread place t e))
    at t (inr d) = get_or-set_other a x.thread t place 0 d ∙ sym (update_other (places_in a) x.thread place t d)

-- ---- how many threads are at a place

-- less the thread where it was, and more where it goes
pub count-advanced : (n : ℕ) (p : Places) (x : Pair) (place : ℕ) → x.thread < n
    → how_many_at n (advanced p x) place + cond (eqb (p x.thread) place) 1 0
    ≡ how_many_at n p place + cond (eqb (place_after x.event) place) 1 0
count-advanced n p x place l =
    how_many-change (λ t. eqb (p t) place) (λ t. eqb (advanced p x t) place) n x.thread l
    (λ t d. ap (λ (q : ℕ). eqb q place) (sym (update_other p x.thread (place_after x.event) t d)))
    ∙ ap (λ (q : ℕ). how_many_at n p place + cond (eqb q place) 1 0) (update_same p x.thread (place_after x.event) x.thread refl)
