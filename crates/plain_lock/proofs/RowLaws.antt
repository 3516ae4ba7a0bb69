-- What the row of a code says: which place an event follows, that a total meets its need, and what it does to a standing.
use Rattle.std.proofs.Common.{◌≡◌, ℕ, ◌+◌, ◌-◌, ◌/◌, ◌%◌, ◌^◌, ◌<◌, ◌≤◌, Bool, true, false, cond, not, ◌||◌, T, eqb, leb, ◌⊎◌, sym, ap, ◌∙◌, subst, inl, inr, arith, eqb→eq, leb→le, eq-eqb, ne_eqb}
use Rattle.definitions.specs.PlainLock.{place_after, is_next}
use Rattle.definitions.specs.Threads.{between}
use Rattle.plain_lock.specs.Counts.{writer, total, readers, any, most_for, counts_meet, counted_in, counted_out, standing_after, Counted}
use Rattle.plain_lock.specs.Rows.{place_before, change, packed, known_row, no_place, unknown_row, event_row, moved_by}
use Rattle.plain_lock.specs.declared.Standing.{Standing}
use Rattle.basics.proofs.Tests.{and_l, and_r, or_l, same_test, no_both, eq_T, decided, cond_yes, cond_no, cond_either, same?}
use Rattle.plain_lock.proofs.PlainLaws.{Next, calls-shared, calls-exclusive, goes_on, next_e, leaves_by}
use Rattle.plain_lock.proofs.StandingLaws.{same-standing}

row-known : (code : ℕ) → T (between 1 8 code) → event_row code ≡ known_row code
unfolding event_row
row-known code t = cond_yes (between 1 8 code) (known_row code) unknown_row t

pub row_unknown : (code : ℕ) → T (not (between 1 8 code)) → event_row code ≡ unknown_row
unfolding event_row
row_unknown code t = cond_no (between 1 8 code) (known_row code) unknown_row t

-- ---- the digits of a row

-- what is read of a row is what was packed
record Unpacked (row before after most added : ℕ) : Type 0 where
  pub before_is : row % 2 ^ 8 ≡ before
  pub after_is : row / 2 ^ 8 % 2 ^ 8 ≡ after
  pub most_is : row / 2 ^ 16 % 2 ^ 16 ≡ most
  pub added_is : row / 2 ^ 32 ≡ added

unpacked : (before after most added : ℕ) → before < 2 ^ 8 → after < 2 ^ 8 → most < 2 ^ 16 → Unpacked (packed before after most added) before after most added
unpacked before after most added b a m =
    record { before_is = omega arith; after_is = omega arith; most_is = omega arith; added_is = omega arith }

known_digits : (event : ℕ) → T (between 1 8 event) → Unpacked (event_row event) (place_before event) (place_after event) (most_for event) (change event)
known_digits event known =
    rw (row-known event known)
    (unpacked (place_before event) (place_after event) (most_for event) (change event)
    (cond_either (λ p. p < 2 ^ 8) (eqb event 1 || eqb event 5) 0 (event - 1) (λ t. omega arith) (λ t. omega (arith, most)))
    (cond_either (λ p. p < 2 ^ 8) (eqb event 4 || eqb event 8) 0 event (λ t. omega arith) (λ t. omega (arith, most)))
    (totals (eqb event 2) (eqb event 6)))
  where
    most : event ≤ 8
    most = leb→le event 8 (and_r (leb 1 event) (leb event 8) known)

    totals : (a b : Bool) → cond a readers (cond b 0 any) < 2 ^ 16
    totals true b = omega arith
    totals false true = omega arith
    totals false false = omega arith

unknown_digits : (code : ℕ) → T (not (between 1 8 code)) → Unpacked (event_row code) no_place 0 any 0
unknown_digits code unknown = rw (row_unknown code unknown) (unpacked no_place 0 any 0 (omega arith) (omega arith) (omega arith))

-- ---- the place before

-- an event follows its place; no thread is ever at place 4, which 5 would follow by its number
follows : (place event : ℕ) → T (between 1 8 event) → (place ≡ 4 → ⊥) → eqb place (place_before event) ≡ is_next place event
follows place event known fine =
    same_test (eqb place (place_before event)) (is_next place event)
    (λ t. to (eqb→eq place (place_before event) t) (decided (eqb event 1 || eqb event 5)))
    (λ t. eq_T place (place_before event) (from (next_e place event t) (same? event 1) (same? event 5)))
  where
    least : 1 ≤ event
    least = leb→le 1 event (and_l (leb 1 event) (leb event 8) known)

    to : place ≡ place_before event → T (eqb event 1 || eqb event 5) ⊎ T (not (eqb event 1 || eqb event 5)) → T (is_next place event)
    to e (inl c) = subst (λ (p : ℕ). T (is_next p event)) (sym (e ∙ cond_yes (eqb event 1 || eqb event 5) 0 (event - 1) c)) c
    to e (inr c) =
        let l = least in
        let b : place_before event ≡ event - 1 = cond_no (eqb event 1 || eqb event 5) 0 (event - 1) c in
        let no_call : event ≡ 1 → ⊥ = λ d. no_both (eqb event 1 || eqb event 5) (or_l (eqb event 1) (eqb event 5) (eq_T event 1 d)) c in
        rw (ne_eqb place 0 (λ z. no_call (omega arith))) (eq_T event (place + 1) (omega arith))

    from : Next place event → (event ≡ 1) ⊎ (event ≡ 1 → ⊥) → (event ≡ 5) ⊎ (event ≡ 5 → ⊥) → place ≡ place_before event
    from (calls-shared z c) a b = z ∙ ap place_before (sym c)
    from (calls-exclusive z c) a b = z ∙ ap place_before (sym c)
    from (goes_on c) (inl a) b = rw a (omega arith)
    from (goes_on c) (inr a) (inl b) = absurd (fine (omega arith))
    from (goes_on c) (inr a) (inr b) = rw (ne_eqb event 1 a, ne_eqb event 5 b) (omega arith)

-- ---- what is done to a total

-- an event counts at most one thread of each kind into it
in_most : (event : ℕ) → counted_in event ≤ writer + 1
in_most event = by (eqb event 2) (eqb event 6)
  where
    by : (a b : Bool) → total (cond a 1 0) (cond b 1 0) ≤ writer + 1
    by true true = omega arith
    by true false = omega arith
    by false true = omega arith
    by false false = omega arith

-- and out of it what it holds
out_most : (inside event : ℕ) → (event ≡ 3 → 1 ≤ inside) → (event ≡ 7 → writer ≤ inside) → counted_out event ≤ inside
out_most inside event shared exclusive = by (same? event 3) (same? event 7)
  where
    by : (event ≡ 3) ⊎ (event ≡ 3 → ⊥) → (event ≡ 7) ⊎ (event ≡ 7 → ⊥) → counted_out event ≤ inside
    by (inl e) w = let l = shared e in rw (eq-eqb event 3 e, ne_eqb event 7 (λ d. omega arith)) (omega arith)
    by (inr d) (inl e) = let l = exclusive e in rw (ne_eqb event 3 d, eq-eqb event 7 e) (omega arith)
    by (inr d) (inr e) = rw (ne_eqb event 3 d, ne_eqb event 7 e) (omega arith)

-- what is added, modulo 2 ^ 32, leaves what the event leaves
wrapped : (inside added taken : ℕ) → inside + added < 2 ^ 32 → taken ≤ inside → (inside + (added + (2 ^ 32 - taken)) % 2 ^ 32) % 2 ^ 32 ≡ inside + added - taken
wrapped inside added taken few some = omega arith

-- ---- a code's row at a standing

module _ (n thread : ℕ) (s : Standing) (code : ℕ) (c : Counted n thread s) where
  -- of an event
  module _ (known : T (between 1 8 code)) where
    pub next_known : eqb s.place (event_row code % 2 ^ 8) ≡ is_next s.place code
    next_known = ap (eqb s.place) (known_digits code known).before_is ∙ follows s.place code known c.is_in_round

    pub met_known : leb s.inside (event_row code / 2 ^ 16 % 2 ^ 16) ≡ counts_meet s code
    met_known = ap (leb s.inside) (known_digits code known).most_is

    pub moved-known : thread < n → T (is_next s.place code) → moved_by s (event_row code) ≡ standing_after s code
    moved-known l next =
        let digits = known_digits code known in
        same-standing digits.after_is
        (ap (λ (added : ℕ). (s.inside + added) % 2 ^ 32) digits.added_is
        ∙ wrapped s.inside (counted_in code) (counted_out code) (omega (arith, c.few, c.most, in_most code))
        (out_most s.inside code
        (λ e. c.in_shared l (left 2 (omega arith) (λ d. omega arith) e))
        (λ e. c.in_exclusive l (left 6 (omega arith) (λ d. omega arith) e))))
      where
        left : (at : ℕ) → 1 ≤ at → (at ≡ 4 → ⊥) → code ≡ at + 1 → s.place ≡ at
        left at some no_4 e = eqb→eq s.place at (subst T (sym (leaves_by s.place code at some no_4 next)) (eq_T code (at + 1) e))

  -- of a code that is no event
  pub next_unknown : T (not (between 1 8 code)) → eqb s.place (event_row code % 2 ^ 8) ≡ false
  next_unknown unknown = ap (eqb s.place) (unknown_digits code unknown).before_is ∙ ne_eqb s.place no_place c.is_in_round
