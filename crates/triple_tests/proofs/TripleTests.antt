-- The tests of a list's triples, one triple after the other.
use Prim.Native.Nat.{ℕ, ◌+◌, ◌/◌, ◌≤◌, ◌<◌}
use native.Mathlib.Numerals.{add-one}
use mathlib.Core.List.{List, ◌++◌}
use mathlib.Core.Path.{◌≡◌, refl, sym, subst, ap, ◌∙◌}
use lib.Dec.{T}
use lib.ListN.{length}
use Rattle.std.specs.Prelude.{Result, Ok, Err}
use Rattle.definitions.specs.Answers.{Reply, accepted, is_accepted, number_of, answer_reply, answered, passes_all}
use Rattle.definitions.specs.Moves.{number_tests}
use Rattle.definitions.specs.Scripts.{triples_tests}
use Rattle.definitions.specs.declared.Move.{Move}
use Rattle.definitions.specs.declared.Refusal.{Refusal}
use Rattle.definitions.specs.declared.Refused.{Refused}
use Rattle.definitions.specs.declared.Request.{Request}
use Rattle.requests.specs.RequestTests.{tested_at}
use Rattle.basics.proofs.Replies.{accepted_is, behind, in_front_lem}
use Rattle.theory.proofs.Triples.{triple_at, triples_from, triples_next, triples_end}

module _ (n : ℕ) (triples : List ℕ) where
  -- what is answered where the triples before index k have passed
  abbrev from : ℕ → Reply ℕ
  from k = answered (triples_tests k n (triples_from triples k)) (length triples / 3)

  -- they have
  pub record Tried (k : ℕ) : Type 0 where
    pub left : from 0 ≡ from k

  pub tried_none : Tried 0
  tried_none = record { left = refl }

  pub tried_all : (k : ℕ) → length triples / 3 ≤ k → Tried k → accepted (length triples / 3) ≡ from 0
  unfolding triples_tests answered
  tried_all k l t = sym (t.left ∙ ap (λ (rs : List Request). answered (triples_tests k n rs) (length triples / 3)) (triples_end triples k l))

  module _ {k : ℕ} (l : k < length triples / 3) (t : Tried k) where
    -- the triple's own tests, and those behind them
    split : from k ≡ answered (number_tests k n (triple_at triples k) ++ triples_tests (k + 1) n (triples_from triples (k + 1))) (length triples / 3)
    unfolding triples_tests
    split =
        ap (λ (rs : List Request). answered (triples_tests k n rs) (length triples / 3)) (triples_next triples k l)
        ∙ ap (λ (j : ℕ). answered (number_tests k n (triple_at triples k) ++ triples_tests j n (triples_from triples (k + 1))) (length triples / 3)) (sym (add-one k))

    module _ {q : Request} (same : q ≡ triple_at triples k) (tested : Result Move Refusal) (e : (place : ℕ) → tested_at place tested ≡ answered (number_tests place n q) q.mv) where
      says : tested_at k tested ≡ answered (number_tests k n (triple_at triples k)) (triple_at triples k).mv
      says = e k ∙ ap (λ (x : Request). answered (number_tests k n x) x.mv) same

      pub tried_refused : (out : Result ℕ Refused) → (x : Refusal) × (tested ≡ Err x) × (out ≡ Err (record { refusal = x; place = k })) → answer_reply out ≡ from 0
      tried_refused out (x, d, o) =
          ap answer_reply o
          ∙ sym (t.left ∙ (split ∙ in_front_lem _ (triple_at triples k).mv _ _ (number_of x) k (sym says ∙ ap (tested_at k) d)))

      pub tried_passed : (mv : Move) → tested ≡ Ok mv → Tried (k + 1)
      tried_passed mv d =
          let passes : T (passes_all (number_tests k n (triple_at triples k))) = subst T (ap is_accepted (sym (ap (tested_at k) d) ∙ says) ∙ accepted_is (triple_at triples k).mv _) tt in
          record { left = t.left ∙ (split ∙ behind _ _ _ passes) }
