-- How many moves the plan takes for each event, and for events put together; none for a code that is no event. For every N.
use Prim.Native.Nat.{ℕ, zero, suc, ◌+◌, ◌*◌, ◌≤◌}
use native.Mathlib.Omega.{arith}
use mathlib.Core.List.{List, [], ◌∷◌, ◌++◌}
use mathlib.Core.Logic.{◌⊎◌, inl, inr}
use mathlib.Core.Path.{◌≡◌, refl, sym, ap₂, ◌∙◌}
use lib.ListN.{length, get_or, length-append, get_or-map, get_or-eq_default}
use Rattle.definitions.specs.Codes.{go, set_move, clear_move}
use Rattle.definitions.specs.Moves.{ask}
use Rattle.definitions.specs.PlainLock.{Pair}
use Rattle.definitions.specs.Plan.{plan_rows, plan_of, plan}
use Rattle.definitions.specs.Threads.{gather}
use Rattle.definitions.specs.declared.Request.{Request}
use Rattle.basics.proofs.Gathering.{gather-length}

-- ---- one event

-- by the events' codes from 0
abbrev pub event_lengths : ℕ → List ℕ
event_lengths n = 0 ∷ 1 ∷ 3 ∷ 2 ∷ 1 ∷ 1 ∷ (2 * n + 2) ∷ (n + 2) ∷ 1 ∷ []

unfoldable pub moves_for : ℕ → ℕ → ℕ
moves_for n event = get_or (event_lengths n) event 0

pub event-moves : (n : ℕ) (x : Pair) → length (plan_of n x) ≡ moves_for n x.event
unfolding plan_of moves_for
event-moves n x =
    sym (get_or-map length (plan_rows n i) x.event [])
    ∙ ap₂ (λ (enter leave : ℕ). get_or (0 ∷ 1 ∷ 3 ∷ 2 ∷ 1 ∷ 1 ∷ enter ∷ leave ∷ 1 ∷ []) x.event 0)
    (around (λ t. ask i set_move t ∷ ask i go 0 ∷ []) 2 (λ t. refl))
    (around (λ t. ask i clear_move t ∷ []) 1 (λ t. refl) ∙ omega arith)
  where
    i : ℕ
    i = x.thread

    -- so many for each thread between one and one
    around : (f : ℕ → List Request) (m : ℕ) → ((t : ℕ) → length (f t) ≡ m) → length ((ask i go 0 ∷ []) ++ (gather n f ++ (ask i go 0 ∷ []))) ≡ m * n + 2
    around f m e = simp length-append (omega (arith, gather-length f m n e))

-- at most what all events take together
sum : List ℕ → ℕ
sum [] = 0
sum (k ∷ ks) = k + sum ks

at_most : (ks : List ℕ) (i : ℕ) → get_or ks i 0 ≤ sum ks
unfolding sum
at_most [] i = omega arith
at_most (k ∷ ks) zero = omega arith
at_most (k ∷ ks) (suc i) = omega (arith, at_most ks i)

pub event-most : (n : ℕ) (x : Pair) → length (plan_of n x) ≤ 13 + 3 * n
unfolding moves_for sum
event-most n x = omega (arith, event-moves n x, at_most (event_lengths n) x.event)

-- a code that is no event
pub plan_past : (n thread code : ℕ) → (code ≡ 0) ⊎ (9 ≤ code) → plan_of n (record { thread = thread; event = code }) ≡ []
unfolding plan_of
plan_past n thread code (inl e) = rw e
plan_past n thread code (inr l) = rw get_or-eq_default

-- ---- a history

module _ (n : ℕ) where
  -- one event in front
  pub moves_more : (x : Pair) (h : List Pair) → length (plan n (x ∷ h)) ≡ moves_for n x.event + length (plan n h)
  unfolding plan
  moves_more x h = omega (arith, length-append (plan_of n x) (plan n h), event-moves n x)

  -- one history behind another
  pub moves_append : (a b : List Pair) → length (plan n (a ++ b)) ≡ length (plan n a) + length (plan n b)
  unfolding plan
  moves_append [] b = omega arith
  moves_append (x ∷ a) b = omega (arith, moves_more x (a ++ b), moves_more x a, moves_append a b)
