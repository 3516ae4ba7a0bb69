-- What the test of a request's numbers says of its triple.
use Prim.Native.Nat.{ℕ, ◌≤◌, ◌<◌}
use native.Mathlib.Omega.{arith}
use mathlib.Core.List.{[], ◌∷◌}
use mathlib.Core.Path.{◌≡◌, refl, sym, subst, ap, ◌∙◌}
use lib.Dec.{T}
use Rattle.std.specs.Prelude.{Result, Ok, Err}
use Rattle.definitions.specs.Answers.{accepted, is_accepted, number_of, number_of_move, answered, passes_all}
use Rattle.definitions.specs.Moves.{number_tests}
use Rattle.definitions.specs.Plan.{bytes_of}
use Rattle.definitions.specs.declared.Move.{Move}
use Rattle.definitions.specs.declared.Refusal.{Refusal}
use Rattle.definitions.specs.declared.Request.{Request}
use Rattle.requests.specs.RequestTests.{tested_at}
use Rattle.basics.proofs.Replies.{accepted_is, all-passed}
use Rattle.basics.proofs.TestLists.{other_answer}
use Rattle.theory.proofs.RequestNumbers.{NumbersFit, numbers_e, target_below}
use Rattle.line_moves.specs.Moves.{TurnedDown, Stated}

module _ (n : ℕ) (r : Request) (tested : Result Move Refusal) (e : (place : ℕ) → tested_at place tested ≡ answered (number_tests place n r) r.mv) where
  pub numbers-refused : (x : Refusal) → tested ≡ Err x → (place : ℕ) → TurnedDown (number_tests place n r) (number_of x) place
  numbers-refused x d place = record { refusal = other_answer tt _ r.mv (number_of x) place (sym (e place) ∙ ap (tested_at place) d) }

  module _ (mv : Move) (d : tested ≡ Ok mv) where
    passes : (place : ℕ) → T (passes_all (number_tests place n r))
    passes place = subst T (ap is_accepted (sym (ap (tested_at place) d) ∙ e place) ∙ accepted_is r.mv (number_tests place n r)) tt

    fit : NumbersFit n r
    fit = numbers_e 0 n r (passes 0)

    pub thread_small : n ≤ 256 → r.thread < 256
    thread_small h = omega (arith, fit.thread-fits)

    pub target_small : n ≤ 256 → r.target < 256
    target_small h = target_below n 256 r.mv r.target h (omega arith) fit.target_fits_lem

    move_is : number_of_move mv ≡ r.mv
    move_is =
        let same : accepted (number_of_move mv) ≡ accepted r.mv = sym (ap (tested_at 0) d) ∙ (e 0 ∙ all-passed r.mv (number_tests 0 n r) (passes 0)) in
        cc

    pub stated : (m : ℕ) → m ≡ number_of_move mv → Stated (λ place. number_tests place n r) (r ∷ []) (r.thread ∷ m ∷ r.target ∷ [])
    unfolding bytes_of
    stated m q = record { passed = passes; triples_are = rw (q, move_is) refl }
