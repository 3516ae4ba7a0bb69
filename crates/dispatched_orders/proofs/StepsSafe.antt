-- Demand 3 holds with a dispatcher (02 §8): whatever requests a host makes to a fresh table, with any numbers and refused ones among them, and wherever it lets a dispatcher take a turn,
-- by whatever choice of a thread that has one, what is shown is permitted (`steps_safe`).
-- For the host's requests, with each turn's move in its place, show the same and leave the same table (`as_requests`): a turn that made a move is that request, and the others show and change
-- nothing.
use Prim.Native.Nat.{ℕ, ◌≤◌}
use mathlib.Core.List.{List, [], ◌∷◌, ◌++◌}
use mathlib.Core.Path.{◌≡◌, refl, sym, subst, ap, ap₂, ◌∙◌}
use lib.Dec.{T}
use Rattle.definitions.specs.Answers.{Reply, accepted, refused}
use Rattle.definitions.specs.Bounds.{most_threads}
use Rattle.definitions.specs.Chains.{pair_for, history_in, history, after_in, table_after}
use Rattle.definitions.specs.Dispatch.{DispatchAnswer, made, waiting}
use Rattle.definitions.specs.Moves.{move_reply, move_table}
use Rattle.definitions.specs.PlainLock.{Pair, permitted}
use Rattle.definitions.specs.Table.{fresh}
use Rattle.definitions.specs.declared.Request.{Request}
use Rattle.dispatching.specs.Turns.{turn_reply, turn_table}
use Rattle.dispatching.proofs.TurnIsMove.{turn_by}
use Rattle.dispatching.proofs.WaitingExactly.{stays-any, refused-any}
use Rattle.orders.proofs.EveryOrder.{safe}
use Rattle.dispatched_orders.specs.Steps.{Step, asks, turn, NameTurns, pair_of_turn, shown_at, left_at, shown_by, left_by, request_of_turn, requests_at, requests_by, AsRequests}

module _ (table : List ℕ) (x : Step) (xs : List Step) (rest : AsRequests (left_at table x) xs) where
  abbrev later : List Request
  later = requests_by (left_at table x) xs

  -- the first step is a request
  one : (r : Request) → requests_at table x ≡ r ∷ [] → pair_for r.thread (move_reply table r) ≡ shown_at table x → move_table table r ≡ left_at table x → AsRequests table (x ∷ xs)
  unfolding history_in after_in shown_by left_by requests_by
  one r is shows leaves =
      record {
        shows =
            ap (λ (rs : List Request). history table (rs ++ later)) is
            ∙ ap₂ ◌++◌ shows (ap (λ (b : List ℕ). history b later) leaves ∙ rest.shows);
        leaves = ap (λ (rs : List Request). table_after table (rs ++ later)) is ∙ (ap (λ (b : List ℕ). table_after b later) leaves ∙ rest.leaves);
      }

  -- it is none, and shows and changes nothing
  none : requests_at table x ≡ [] → shown_at table x ≡ [] → left_at table x ≡ table → AsRequests table (x ∷ xs)
  unfolding shown_by left_by requests_by
  none is shows leaves =
      record {
        shows =
            ap (λ (rs : List Request). history table (rs ++ later)) is
            ∙ (ap (λ (b : List ℕ). history b later) (sym leaves) ∙ (rest.shows ∙ ap (λ (h : List Pair). h ++ shown_by (left_at table x) xs) (sym shows)));
        leaves = ap (λ (rs : List Request). table_after table (rs ++ later)) is ∙ (ap (λ (b : List ℕ). table_after b later) (sym leaves) ∙ rest.leaves);
      }

pub as_requests : (table : List ℕ) (xs : List Step) → NameTurns xs → AsRequests table xs
unfolding history_in after_in shown_by left_by requests_by
as_requests table [] named = record { shows = refl; leaves = refl }
as_requests table (asks r ∷ xs) named = one table (asks r) xs (as_requests (move_table table r) xs named) r refl refl refl
as_requests table (turn choice ∷ xs) (names, named) = by (turn_reply choice table) refl (as_requests (turn_table choice table) xs named)
  where
    by : (x : Reply DispatchAnswer) → turn_reply choice table ≡ x → AsRequests (turn_table choice table) xs → AsRequests table (turn choice ∷ xs)
    by (accepted (made r a)) e rest =
        let m = turn_by choice names table r a e in one table (turn choice) xs rest r (ap request_of_turn e) (ap (pair_for r.thread) m.reply ∙ sym (ap pair_of_turn e)) (sym m.left)
    by (accepted waiting) e rest = none table (turn choice) xs rest (ap request_of_turn e) (ap pair_of_turn e) (stays-any choice table e)
    by (refused number place) e rest = none table (turn choice) xs rest (ap request_of_turn e) (ap pair_of_turn e) ((refused-any choice table number place).0 e).stays

pub steps_safe : (n : ℕ) → 1 ≤ n → n ≤ most_threads → (xs : List Step) → NameTurns xs → T (permitted n (shown_by (fresh n) xs))
steps_safe n least most xs named = subst (λ (h : List Pair). T (permitted n h)) (as_requests (fresh n) xs named).shows (safe n least most (requests_by (fresh n) xs))
