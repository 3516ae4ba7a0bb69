-- Turns one after the other, whatever a turn is of which this holds: where no thread has a turn it says waiting and changes nothing,
-- and else it leaves the table that some request leaves that the dispatcher may make (`Dispatches`).
-- Then what each turn that moves keeps is kept (`lasting`); they come to a table that waits, by which the turns left (TurnsLeft) have fallen by the number of turns that moved (`ends`),
-- after at most 6N - 2 turns (`at_most`), and after exactly as many as are left where nobody comes to Shared (`exactly`).
use Prim.Native.Nat.{ℕ, zero, suc, ◌+◌, ◌≤◌, ◌<◌}
use native.Mathlib.Nat.{not-suc-le-zero}
use native.Mathlib.Omega.{arith}
use mathlib.Core.Bool.{not}
use mathlib.Core.Logic.{⊎_elim}
use mathlib.Core.Path.{◌≡◌, refl, sym, subst, ap, ◌∙◌}
use lib.Dec.{T}
use Rattle.definitions.specs.Codes.{Shared}
use Rattle.definitions.specs.Dispatch.{is_waiting}
use Rattle.definitions.specs.Phases.{node_of}
use Rattle.definitions.specs.Sound.{sound}
use Rattle.definitions.specs.Table.{Table}
use Rattle.basics.proofs.Tests.{decided}
use Rattle.dispatching.proofs.WaitingMeans.{no_turn_means}
use Rattle.theory.proofs.Soundness.{All, Sound, sound_e}
use Rattle.turn_limit.specs.AnyOrder.{Dispatcher, after_turns_by, WaitsAfterBy}
use Rattle.turn_limit.specs.TurnLimit.{most_turns}
use Rattle.turn_limit.proofs.AllStopped.{none_left}
use Rattle.turn_limit.proofs.OneRequest.{request_lowers, Made}
use Rattle.turn_limit.proofs.TurnsLeft.{turns_left, left-most}

-- of every x that is good, whose table then is sound
pub record Dispatches {X : Type 0} (turn : Dispatcher X) (table : X → Table) (Good : X → Type 0) : Type 0 where
  pub is_sound : (x : X) → Good x → T (sound (table x))
  pub waits : (x : X) → Good x → T (is_waiting (table x)) → turn.Waits x × (turn.leaves x ≡ x)
  pub moves : (x : X) → Good x → T (not (is_waiting (table x))) → turn.Moves x × Good (turn.leaves x) × Made (table x) (table (turn.leaves x))

-- what holds of the successors of all numbers from k holds from one above k
later : (P : ℕ → Type 0) (k : ℕ) → ((j : ℕ) → k ≤ j → P (suc j)) → (j : ℕ) → suc k ≤ j → P j
later P k f zero l = absurd (not-suc-le-zero l)
later P k f (suc j) l = f j (omega arith)

module _ {X : Type 0} (turn : Dispatcher X) (table : X → Table) (Good : X → Type 0) (d : Dispatches turn table Good) where
  abbrev after : ℕ → X → X
  after = after_turns_by turn

  z : (x : X) → Good x → Sound (table x)
  z x g = sound_e (table x) (d.is_sound x g)

  -- each turn that moves keeps P
  abbrev Kept : (X → Type 0) → Type 0
  Kept P = (x : X) → Good x → T (not (is_waiting (table x))) → P x → P (turn.leaves x)

  -- then turns keep it; and what is good stays so
  pub lasting : (P : X → Type 0) → Kept P → (k : ℕ) (x : X) → Good x → P x → Good (after k x) × P (after k x)
  unfolding after_turns_by
  lasting P kept zero x g p = (g, p)
  lasting P kept (suc k) x g p =
      ⊎_elim (λ t. let same = sym (d.waits x g t).1 in lasting P kept k (turn.leaves x) (subst Good same g) (subst P same p))
      (λ t. lasting P kept k (turn.leaves x) (d.moves x g t).1 (kept x g t p)) (decided (is_waiting (table x)))

  pub stays_good : (k : ℕ) (x : X) → Good x → Good (after k x)
  stays_good k x g = (lasting Good (λ y h t p. (d.moves y h t).1) k x g g).0

  -- one that waits
  at_once : (x : X) → Good x → T (is_waiting (table x)) → WaitsAfterBy turn x 0
  unfolding after_turns_by
  at_once x g t = record { moves = λ j l. absurd (not-suc-le-zero l); waits = λ j l. subst turn.Waits (sym (stays j)) (d.waits x g t).0; stays = λ j l. stays j }
    where
      stays : (j : ℕ) → after j x ≡ x
      stays zero = refl
      stays (suc j) = ap (after j) (d.waits x g t).1 ∙ stays j

  -- one whose first turn moves, and k more
  one_more : (x : X) (k : ℕ) → turn.Moves x → WaitsAfterBy turn (turn.leaves x) k → WaitsAfterBy turn x (suc k)
  unfolding after_turns_by
  one_more x k m rest =
      record { moves = move; waits = later (λ j. turn.Waits (after j x)) k rest.waits; stays = later (λ j. after j x ≡ after (suc k) x) k rest.stays }
    where
      move : (j : ℕ) → j < suc k → turn.Moves (after j x)
      move zero l = m
      move (suc j) l = rest.moves j (omega arith)

  abbrev left : X → ℕ
  left x = turns_left (table x)

  lowers : (x : X) → Good x → T (not (is_waiting (table x))) → left (turn.leaves x) + 1 ≡ left x
  lowers x g t = let (r, u, same) = (d.moves x g t).2 in rw same (request_lowers (table x) (z x g) r u)

  abbrev Ends : X → Type 0
  Ends x = (k : ℕ) × WaitsAfterBy turn x k × T (is_waiting (table (after k x))) × (left (after k x) + k ≡ left x)

  -- with at most m turns left
  ends_by : (m : ℕ) (x : X) → Good x → left x ≤ m → Ends x
  unfolding after_turns_by
  ends_by zero x g l = ⊎_elim (λ t. (0, at_once x g t, t, omega arith)) (λ t. absurd (omega (arith, lowers x g t))) (decided (is_waiting (table x)))
  ends_by (suc m) x g l =
      ⊎_elim (λ t. (0, at_once x g t, t, omega arith))
      (λ t.
      let fewer = lowers x g t in
      let (move, good, made) = d.moves x g t in
      let (k, rest, none, fall) = ends_by m (turn.leaves x) good (omega arith) in (suc k, one_more x k move rest, none, omega arith))
      (decided (is_waiting (table x)))

  pub ends : (x : X) → Good x → Ends x
  ends x g = ends_by (left x) x g (omega arith)

  -- the limit
  pub at_most : (x : X) → Good x → (k : ℕ) × (k ≤ most_turns (table x).threads) × WaitsAfterBy turn x k
  at_most x g = let (k, turns, none, fall) = ends x g in (k, omega (arith, left-most (table x) (z x g)), turns)

  -- nobody is in Shared as long as turns are made
  pub exactly : (P : X → Type 0) → Kept P → ((x : X) → Good x → P x → All (table x) (λ j. node_of ((table x).phase j) ≡ Shared → ⊥)) → (x : X) → Good x → P x → WaitsAfterBy turn x (left x)
  exactly P kept none_shared x g p =
      let (k, turns, none, fall) = ends x g in
      let (good, last) = lasting P kept k x g p in
      let y = after k x in
      let zero_left = none_left (table y) (z y good) (no_turn_means (table y) (z y good) none) (none_shared y good last) in
      subst (WaitsAfterBy turn x) (omega arith) turns
