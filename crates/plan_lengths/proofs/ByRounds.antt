-- A number that adds up event by event, as moves and events do, by the rounds of a history (`by_rounds_lem`): so much for each shared round that ends, so much for each exclusive one, and for
-- each thread what its round has so far.
use Prim.Native.Nat.{ℕ, zero, suc, ◌+◌, ◌*◌, ◌≤◌, ◌<◌}
use native.Mathlib.Nat.{not-suc-le-zero}
use native.Mathlib.Omega.{arith}
use mathlib.Core.Bool.{cond}
use mathlib.Core.List.{List, [], ◌∷◌}
use mathlib.Core.Logic.{⊎_elim}
use mathlib.Core.Path.{◌≡◌, sym, subst, subst₂, ap, ◌∙◌}
use lib.Dec.{T, leb, eqb, leb→le}
use Rattle.definitions.specs.Bounds.{first_event, last_event}
use Rattle.definitions.specs.PlainLock.{Pair, Places, at_start, place_after, advanced, places_after, is_next, permitted}
use Rattle.definitions.specs.Threads.{between, sum_of}
use Rattle.plan_lengths.specs.Rounds.{how_often}
use Rattle.plain_lock.specs.Permitted.{pair_fits, permitted_from}
use Rattle.basics.proofs.Sums.{sum_update, sum_zero}
use Rattle.basics.proofs.Quantifiers.{below_suc}
use Rattle.basics.proofs.Tests.{and_l, and_r}
use Rattle.plain_lock.proofs.PlainLaws.{permitted_is, Next, calls-shared, calls-exclusive, goes_on, next_e}
use Rattle.orders.proofs.PairTests.{permits_e}

-- P holds of every number below n
abbrev pub Below : ℕ → (ℕ → Type 0) → Type 0
Below zero P = Unit {0}
Below (suc n) P = Below n P × P n

pub below_at : (n : ℕ) (P : ℕ → Type 0) → Below n P → (k : ℕ) → k < n → P k
below_at zero P all k l = absurd (not-suc-le-zero l)
below_at (suc n) P all k l = ⊎_elim (λ e. subst P (sym e) all.1) (λ m. below_at n P all.0 k m) (below_suc k n l)

-- each event adds a number, and a round that has come to a place has so much so far
module _ (number : List Pair → ℕ) (each so_far : ℕ → ℕ) (shared exclusive : ℕ) where
  -- an event that is next at a place: with it the round has that more, or ends with the number of a shared or an exclusive round
  abbrev Step : ℕ → ℕ → Type 0
  Step place event = each event + so_far place ≡ shared * cond (eqb event 4) 1 0 + exclusive * cond (eqb event 8) 1 0 + so_far (place_after event)

  pub record AddsUp : Type 0 where
    pub none : number [] ≡ 0
    pub more : (x : Pair) (h : List Pair) → number (x ∷ h) ≡ each x.event + number h
    pub start : so_far 0 ≡ 0
    pub calls : Step 0 5
    pub goes : Below 8 (λ place. Step place (place + 1))

  module _ (a : AddsUp) where
    step : (place event : ℕ) → T (between first_event last_event event) → T (is_next place event) → Step place event
    step place event known next = by (next_e place event next)
      where
        most : event ≤ last_event
        most = leb→le event last_event (and_r (leb first_event event) (leb event last_event) known)

        goes_from : (k : ℕ) → k < 8 → Step k (k + 1)
        goes_from = below_at 8 (λ k. Step k (k + 1)) a.goes

        by : Next place event → Step place event
        by (calls-shared z c) = subst₂ Step (sym z) (sym c) (goes_from 0 (omega arith))
        by (calls-exclusive z c) = subst₂ Step (sym z) (sym c) a.calls
        by (goes_on c) = subst (Step place) (sym c) (goes_from place (omega (arith, most)))

    -- from any places on
    from_places : (n : ℕ) (p : Places) (h : List Pair) → T (permitted_from n p h)
        → number h + sum_of n (λ t. so_far (p t)) ≡ shared * how_often 4 h + exclusive * how_often 8 h + sum_of n (λ t. so_far (places_after p h t))
    unfolding permitted_from places_after how_often
    from_places n p [] t = omega (arith, a.none)
    from_places n p (x ∷ xs) t =
        let fits = pair_fits n p x in
        let rest = permitted_from n (advanced p x) xs in
        let q = permits_e n p x (and_l fits rest t) in
        let taken = step (p x.thread) x.event q.known q.next in
        let change = sum_update n so_far p x.thread (place_after x.event) q.fits in
        omega (arith, a.more x xs, from_places n (advanced p x) xs (and_r fits rest t))

    pub by_rounds_lem : (n : ℕ) (h : List Pair) → T (permitted n h)
        → number h ≡ shared * how_often 4 h + exclusive * how_often 8 h + sum_of n (λ t. so_far (places_after at_start h t))
    by_rounds_lem n h t =
        let none : sum_of n (λ t. so_far 0) ≡ 0 = ap (λ (k : ℕ). sum_of n (λ t. k)) a.start ∙ sum_zero n in
        omega (arith, from_places n at_start h (subst T (permitted_is n h) t))
