-- What a turn answers and leaves, by any choice of the thread that moves and whatever stores the table: of a sound table that waits, waiting and the table as it was; of one that doesn't,
-- the request of the thread chosen with its answer, and what that request leaves. And what a reply says of the table that it was given for.
use Prim.Native.Nat.{ℕ}
use native.Mathlib.Omega.{arith}
use mathlib.Core.Bool.{not}
use mathlib.Core.List.{List, [], ◌∷◌}
use mathlib.Core.Logic.{◌⊎◌, inl, inr}
use mathlib.Core.Path.{◌≡◌, sym, subst, ap, ◌∙◌}
use lib.Dec.{T}
use Rattle.definitions.specs.Answers.{Reply, accepted, is_accepted, MoveAnswer, Test, test}
use Rattle.definitions.specs.Dispatch.{request_of, is_waiting, DispatchAnswer, made, waiting, turn_answer, turn_reply_in, turn_in}
use Rattle.definitions.specs.Moves.{move_answer, step_in}
use Rattle.definitions.specs.Sound.{sound}
use Rattle.definitions.specs.Table.{Table, Storage}
use Rattle.definitions.specs.declared.Request.{Request}
use Rattle.basics.proofs.Replies.{peel, pass, no_test, all-passed, leaves-yes, leaves_no}
use Rattle.basics.proofs.TestLists.{answered_e}
use Rattle.basics.proofs.Tests.{decided, cond_yes, cond_no}

-- ---- the turn

module _ (choice : Table → ℕ) where
  -- the request of the thread chosen
  abbrev choose : Table → Request
  choose s = request_of s (choice s)

  pub turn-waits : (s : Table) → T (is_waiting s) → turn_answer choice s ≡ waiting
  unfolding turn_answer
  turn-waits s t = cond_yes (is_waiting s) waiting (made (choose s) (move_answer s (choose s))) t

  pub turn-moves : (s : Table) → T (not (is_waiting s)) → turn_answer choice s ≡ made (choose s) (move_answer s (choose s))
  unfolding turn_answer
  turn-moves s t = cond_no (is_waiting s) waiting (made (choose s) (move_answer s (choose s))) t

  -- the two are apart
  pub waiting_e : (s : Table) → turn_answer choice s ≡ waiting → T (is_waiting s)
  waiting_e s e = by (decided (is_waiting s))
    where
      by : T (is_waiting s) ⊎ T (not (is_waiting s)) → T (is_waiting s)
      by (inl t) = t
      by (inr t) = let d = turn-moves s t in absurd (let z : ◌≡◌ {A = ℕ} 0 1 = cc in omega arith)

  pub made_e : (s : Table) (r : Request) (a : MoveAnswer) → turn_answer choice s ≡ made r a → T (not (is_waiting s)) × (choose s ≡ r) × (move_answer s (choose s) ≡ a)
  made_e s r a e = by (decided (is_waiting s))
    where
      by : T (is_waiting s) ⊎ T (not (is_waiting s)) → T (not (is_waiting s)) × (choose s ≡ r) × (move_answer s (choose s) ≡ a)
      by (inl t) = let d = turn-waits s t in absurd (let z : ◌≡◌ {A = ℕ} 0 1 = cc in omega arith)
      by (inr t) = let d = turn-moves s t in (t, cc, cc)

-- ---- through a storage

module _ (choice : Table → ℕ) {B : Type 0} (S : Storage B) (b : B) where
  abbrev s : Table
  s = S.table b

  abbrev request : Request
  request = request_of s (choice s)

  abbrev tests : List Test
  tests = test 1 (S.fits b) ∷ test 2 (sound s) ∷ []

  -- an accepted reply: the table fits and is sound, and the turn is its own
  pub reply_e : (t : DispatchAnswer) → turn_reply_in choice S b ≡ accepted t → T (S.fits b) × T (sound s) × (turn_answer choice s ≡ t)
  unfolding turn_reply_in
  reply_e t e =
      let (p, same) = answered_e tests (turn_answer choice s) t e in
      let (fits, q) = peel (test 1 (S.fits b)) (test 2 (sound s) ∷ []) p in
      (fits, (peel (test 2 (sound s)) [] q).0, same)

  -- a refused one leaves what is stored
  pub refused-keeps : T (not (is_accepted (turn_reply_in choice S b))) → turn_in choice S b ≡ b
  unfolding turn_in
  refused-keeps t = leaves_no _ b (turn_reply_in choice S b) t

  module _ (fits : T (S.fits b)) (is_sound : T (sound s)) where
    pub reply_is : turn_reply_in choice S b ≡ accepted (turn_answer choice s)
    unfolding turn_reply_in
    reply_is = all-passed (turn_answer choice s) tests (pass (test 1 (S.fits b)) (test 2 (sound s) ∷ []) fits (pass (test 2 (sound s)) [] is_sound no_test))

    is_accepted_lem : T (is_accepted (turn_reply_in choice S b))
    is_accepted_lem = subst (λ (x : Reply DispatchAnswer). T (is_accepted x)) (sym reply_is) tt

    -- it waits
    pub waits : T (is_waiting s) → (turn_reply_in choice S b ≡ accepted waiting) × (turn_in choice S b ≡ b)
    unfolding turn_in
    waits t = (reply_is ∙ ap accepted (turn-waits choice s t), leaves-yes _ b (turn_reply_in choice S b) is_accepted_lem ∙ cond_yes (is_waiting s) b (step_in S b request) t)

    -- it moves
    pub moves : T (not (is_waiting s)) → (turn_reply_in choice S b ≡ accepted (made request (move_answer s request))) × (turn_in choice S b ≡ step_in S b request)
    unfolding turn_in
    moves t = (reply_is ∙ ap accepted (turn-moves choice s t), leaves-yes _ b (turn_reply_in choice S b) is_accepted_lem ∙ cond_no (is_waiting s) b (step_in S b request) t)
