-- A table behaves the same whatever stores it. Of a storage that keeps what is written:
-- a request gets the reply that the record gives (`reply-same`), leaves what stores the record's step (`table_step`), and what fits still does (`fits-step`);
-- so lists of requests show, leave, retry and accept the same (`history-same`, `after_same`, `retries-same`, `accepts-all-same`).
-- For every storage, table and request with any numbers.
use Prim.Native.Nat.{ℕ, ◌+◌}
use mathlib.Core.Bool.{Bool, not, ◌&&◌}
use mathlib.Core.List.{List, [], ◌∷◌, ◌++◌}
use mathlib.Core.Logic.{◌⊎◌, inl, inr}
use mathlib.Core.Path.{◌≡◌, refl, sym, subst, ap, ◌∙◌}
use lib.Dec.{T}
use Rattle.definitions.specs.Answers.{Reply, accepted, is_accepted, leaves, MoveAnswer, test, answered}
use Rattle.definitions.specs.Chains.{pair_for, retry_for, history_in, after_in, retries_in, accepts_all_in}
use Rattle.definitions.specs.Moves.{effect, move_tests, move_answer, step_reply, step, accepts, reply_in, step_in, accepts_in}
use Rattle.definitions.specs.PlainLock.{Pair}
use Rattle.definitions.specs.Table.{Table, applied, Storage, itself}
use Rattle.definitions.specs.declared.Request.{Request}
use Rattle.theory.specs.Tables.{Keeps}
use Rattle.basics.proofs.Replies.{passed, all-passed, accepted_is, peel, leaves-yes, leaves_no}
use Rattle.theory.proofs.MoveWrites.{writes_fit}
use Rattle.basics.proofs.Tests.{decided}

-- the record's own step, as that of a storage
own-reply : (s : Table) (r : Request) → reply_in itself s r ≡ step_reply s r
unfolding reply_in step_reply answered
own-reply s r = refl

own-step : (s : Table) (r : Request) → step_in itself s r ≡ step s r
unfolding step_in step reply_in step_reply answered
own-step s r = refl

-- the record keeps what is written
pub own-keeps : Keeps itself
own-keeps = record { fits = λ s ws f w. tt; writes = λ s ws f w. refl }

module _ {B : Type 0} (S : Storage B) where
  -- ---- replies

  -- of what fits
  pub reply-same : (b : B) (r : Request) → T (S.fits b) → reply_in S b r ≡ step_reply (S.table b) r
  unfolding reply_in step_reply
  reply-same b r t = passed (test 1 (S.fits b)) (move_tests (S.table b) r) (move_answer (S.table b) r) t

  -- an accepted request is to what fits, and the record accepts it
  pub accepts_e : (b : B) (r : Request) → T (accepts_in S b r) → T (S.fits b) × T (accepts (S.table b) r)
  unfolding reply_in step_reply
  accepts_e b r t =
      let tests = move_tests (S.table b) r in
      let x = move_answer (S.table b) r in
      let p = peel (test 1 (S.fits b)) tests (subst T (accepted_is x (test 1 (S.fits b) ∷ tests)) t) in
      (p.0, subst T (sym (accepted_is x tests)) p.1)

  pub accepts_i : (b : B) (r : Request) → T (S.fits b) → T (accepts (S.table b) r) → T (accepts_in S b r)
  accepts_i b r f t = subst (λ (x : Reply MoveAnswer). T (is_accepted x)) (sym (reply-same b r f)) t

  -- its reply is what the move shows, and whether it was a retry
  pub accepted-reply : (b : B) (r : Request) → T (accepts_in S b r) → reply_in S b r ≡ accepted (move_answer (S.table b) r)
  unfolding reply_in
  accepted-reply b r t = let x = move_answer (S.table b) r in all-passed x _ (subst T (accepted_is x _) t)

  -- ---- what a request leaves

  -- "Every lent byte stays"
  pub refused-stays : (b : B) (r : Request) → T (not (accepts_in S b r)) → step_in S b r ≡ b
  unfolding step_in
  refused-stays b r t = leaves_no (S.store b (effect (S.table b) r).writes) b (reply_in S b r) t

  pub accepted_stores : (b : B) (r : Request) → T (accepts_in S b r) → step_in S b r ≡ S.store b (effect (S.table b) r).writes
  unfolding step_in
  accepted_stores b r t = leaves-yes (S.store b (effect (S.table b) r).writes) b (reply_in S b r) t

  module _ (keeps : Keeps S) where
    -- the record after an accepted request
    pub accepted-table : (b : B) (r : Request) → T (accepts_in S b r) → S.table (step_in S b r) ≡ applied (S.table b) (effect (S.table b) r).writes
    accepted-table b r t =
        let a = accepts_e b r t in
        ap S.table (accepted_stores b r t) ∙ keeps.writes b (effect (S.table b) r).writes a.0 (writes_fit (S.table b) r a.1)

    pub table_step : (b : B) (r : Request) → T (S.fits b) → S.table (step_in S b r) ≡ step (S.table b) r
    unfolding step
    table_step b r f = by (decided (accepts_in S b r))
      where
        after : Table
        after = applied (S.table b) (effect (S.table b) r).writes

        by : T (accepts_in S b r) ⊎ T (not (accepts_in S b r)) → S.table (step_in S b r) ≡ leaves (step_reply (S.table b) r) after (S.table b)
        by (inl t) = accepted-table b r t ∙ sym (leaves-yes after (S.table b) (step_reply (S.table b) r) (accepts_e b r t).1)
        by (inr t) =
            ap S.table (refused-stays b r t)
            ∙ sym (leaves_no after (S.table b) (step_reply (S.table b) r) (subst (λ (x : Reply MoveAnswer). T (not (is_accepted x))) (reply-same b r f) t))

    pub fits-step : (b : B) (r : Request) → T (S.fits b) → T (S.fits (step_in S b r))
    fits-step b r f = by (decided (accepts_in S b r))
      where
        by : T (accepts_in S b r) ⊎ T (not (accepts_in S b r)) → T (S.fits (step_in S b r))
        by (inl t) =
            subst (λ (x : B). T (S.fits x)) (sym (accepted_stores b r t))
            (keeps.fits b (effect (S.table b) r).writes f (writes_fit (S.table b) r (accepts_e b r t).1))
        by (inr t) = subst (λ (x : B). T (S.fits x)) (sym (refused-stays b r t)) f

    -- ---- lists of requests

    next : (b : B) (r : Request) → T (S.fits b) → S.table (step_in S b r) ≡ step_in itself (S.table b) r
    next b r f = table_step b r f ∙ sym (own-step (S.table b) r)

    same-reply : (b : B) (r : Request) → T (S.fits b) → reply_in S b r ≡ reply_in itself (S.table b) r
    same-reply b r f = reply-same b r f ∙ sym (own-reply (S.table b) r)

    pub history-same : (b : B) (rs : List Request) → T (S.fits b) → history_in S b rs ≡ history_in itself (S.table b) rs
    unfolding history_in
    history-same b [] f = refl
    history-same b (r ∷ rs) f =
        ap (λ (x : Reply MoveAnswer). pair_for r.thread x ++ history_in S (step_in S b r) rs) (same-reply b r f)
        ∙ ap (λ (h : List Pair). pair_for r.thread (reply_in itself (S.table b) r) ++ h)
        (history-same (step_in S b r) rs (fits-step b r f) ∙ ap (λ (s : Table). history_in itself s rs) (next b r f))

    pub after_same : (b : B) (rs : List Request) → T (S.fits b) → S.table (after_in S b rs) ≡ after_in itself (S.table b) rs
    unfolding after_in
    after_same b [] f = refl
    after_same b (r ∷ rs) f = after_same (step_in S b r) rs (fits-step b r f) ∙ ap (λ (s : Table). after_in itself s rs) (next b r f)

    pub retries-same : (b : B) (rs : List Request) → T (S.fits b) → retries_in S b rs ≡ retries_in itself (S.table b) rs
    unfolding retries_in
    retries-same b [] f = refl
    retries-same b (r ∷ rs) f =
        ap (λ (x : Reply MoveAnswer). retry_for x + retries_in S (step_in S b r) rs) (same-reply b r f)
        ∙ ap (λ (k : ℕ). retry_for (reply_in itself (S.table b) r) + k)
        (retries-same (step_in S b r) rs (fits-step b r f) ∙ ap (λ (s : Table). retries_in itself s rs) (next b r f))

    pub accepts-all-same : (b : B) (rs : List Request) → T (S.fits b) → accepts_all_in S b rs ≡ accepts_all_in itself (S.table b) rs
    unfolding accepts_all_in
    accepts-all-same b [] f = refl
    accepts-all-same b (r ∷ rs) f =
        ap (λ (x : Reply MoveAnswer). is_accepted x && accepts_all_in S (step_in S b r) rs) (same-reply b r f)
        ∙ ap (λ (t : Bool). accepts_in itself (S.table b) r && t)
        (accepts-all-same (step_in S b r) rs (fits-step b r f) ∙ ap (λ (s : Table). accepts_all_in itself s rs) (next b r f))
