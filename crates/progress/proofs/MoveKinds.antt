-- Whether an accepted request is a call or a retry, or neither (`Advances`), from the mover's phase; where a phase has two moves, from what is written.
use Prim.Native.Nat.{ℕ}
use mathlib.Core.Bool.{not}
use mathlib.Core.List.{List, [], ◌∷◌}
use mathlib.Core.Logic.{◌⊎◌, inl, inr, ⊎_elim}
use mathlib.Core.Path.{◌≡◌, subst, ap, ◌∙◌}
use lib.Dec.{T, eqb, eqb→eq}
use lib.ListN.{length}
use Rattle.definitions.specs.Codes.{go, set_move, clear_move, relent, hold}
use Rattle.definitions.specs.Moves.{Effect, quietly, go_effect, set_effect, clear_effect, effect, is_retry, is_call}
use Rattle.definitions.specs.Phases.{rows, has_move}
use Rattle.definitions.specs.Table.{Table, Write, mutex≔, target≔, phase≔, busy≔, forbidden≔}
use Rattle.definitions.specs.Threads.{among}
use Rattle.definitions.specs.declared.Request.{Request}
use Rattle.basics.proofs.Cases.{or_at, none_of}
use Rattle.basics.proofs.Tests.{T_false, decided, no_both}

-- the request is no call and no retry
abbrev pub Advances : Table → Request → Type 0
Advances s r = T (not (is_call r)) × T (not (is_retry s r))

-- what the first of some writes gives its place
abbrev value : Write → ℕ
value (mutex≔ v) = v
value (target≔ v) = v
value (phase≔ i v) = v
value (busy≔ i v) = v
value (forbidden≔ i v) = v

abbrev first_value : List Write → ℕ
first_value [] = 0
first_value (w ∷ ws) = value w

-- a request whose move the mover's phase has
module _ (s : Table) (r : Request) (has : T (has_move r.mv (s.phase r.thread))) where
  -- the moves of phase k
  moves_in : (k : ℕ) → s.phase r.thread ≡ k → T (has_move r.mv k)
  moves_in k e = subst (λ (p : ℕ). T (has_move r.mv p)) e has

  a_retry : T (is_retry s r) → Advances s r → ⊥
  a_retry t = λ a. no_both (is_retry s r) t a.1

  -- in 0 it is a call
  pub in_0 : s.phase r.thread ≡ 0 → Advances s r → ⊥
  unfolding rows
  in_0 e a = no_both (is_call r) (or_at r.mv 1 _ (λ m. rw m tt) (or_at r.mv 2 _ (λ m. rw m tt) (none_of r.mv)) (moves_in 0 e)) a.0

  -- in 4 a retry
  pub in_4 : s.phase r.thread ≡ 4 → Advances s r → ⊥
  unfolding rows is_retry
  in_4 e = a_retry (or_at r.mv go _ (λ m. rw (m, e) tt) (or_at r.mv hold _ (λ m. rw (m, e) tt) (none_of r.mv)) (moves_in 4 e))

  -- in a phase that has go alone, 11 apart, neither
  pub by-go : (k : ℕ) → s.phase r.thread ≡ k → (T (has_move r.mv k) → T (among r.mv (go ∷ []))) → T (not (eqb k 4)) → T (not (eqb k 11)) → Advances s r
  unfolding is_retry
  by-go k e only not_4 not-11 =
      or_at r.mv go [] (λ m. (rw m tt, rw (m, e, T_false (eqb k 4) not_4, T_false (eqb k 11) not-11) tt)) (none_of r.mv) (only (moves_in k e))

  -- in 10 it is set, and a retry if the flag is set already
  pub in_10 : s.phase r.thread ≡ 10 → (s.forbidden r.target ≡ 0 → Advances s r) × (s.forbidden r.target ≡ 1 → Advances s r → ⊥)
  unfolding rows is_retry
  in_10 e =
      or_at r.mv set_move [] (λ m. ((λ f. (rw m tt, rw (m, e, f) tt)), (λ f. a_retry (rw (m, e, f) tt)))) (none_of r.mv) (moves_in 10 e)

  -- in 11 it is relent or go, and a retry exactly if one write is made
  abbrev By11 : List Write → Type 0
  By11 ws = (Advances s r × (length ws ≡ 2)) ⊎ ((Advances s r → ⊥) × (length ws ≡ 1))

  pub in_11 : s.phase r.thread ≡ 11 → (ws : List Write) → quietly ws ≡ effect s r → By11 ws
  unfolding rows is_retry effect go_effect
  in_11 e ws same =
      or_at r.mv go _ (λ m. ⊎_elim (reads_1 m) (reads_0 m) (decided (eqb (s.busy s.target) 1)))
      (or_at r.mv relent _ (λ m. inr (a_retry (rw m tt), count ∙ rw m)) (none_of r.mv))
      (moves_in 11 e)
    where
      count : length ws ≡ length (effect s r).writes
      count = ap (λ (x : Effect). length x.writes) same

      reads_1 : r.mv ≡ go → T (eqb (s.busy s.target) 1) → By11 ws
      reads_1 m t = let b = eqb→eq (s.busy s.target) 1 t in inr (a_retry (rw (m, e, b) tt), count ∙ rw (m, e, b))

      reads_0 : r.mv ≡ go → T (not (eqb (s.busy s.target) 1)) → By11 ws
      reads_0 m t = let b = T_false (eqb (s.busy s.target) 1) t in inl ((rw m tt, rw (m, e, b) tt), count ∙ rw (m, e, b))

  -- in 15 it is set, a retry, or clear, and a retry if the flag is clear already; v is what is written to the flag
  abbrev By15 : ℕ → Type 0
  By15 v = ((v ≡ 0) × (s.forbidden r.target ≡ 1 → Advances s r) × (s.forbidden r.target ≡ 0 → Advances s r → ⊥)) ⊎ ((v ≡ 1) × (Advances s r → ⊥))

  pub in_15 : s.phase r.thread ≡ 15 → (v : ℕ) (ws : List Write) → quietly (forbidden≔ r.target v ∷ ws) ≡ effect s r → By15 v
  unfolding rows is_retry effect set_effect clear_effect
  in_15 e v ws same =
      or_at r.mv set_move _ (λ m. inr (first ∙ rw (m, e), a_retry (rw (m, e) tt)))
      (or_at r.mv clear_move _ (λ m. inl (first ∙ rw m, (λ f. (rw m tt, rw (m, e, f) tt)), (λ f. a_retry (rw (m, e, f) tt)))) (none_of r.mv))
      (moves_in 15 e)
    where
      first : v ≡ first_value (effect s r).writes
      first = ap (λ (x : Effect). first_value x.writes) same
