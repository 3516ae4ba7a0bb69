-- The choice from what the search answers: none where no thread is ready, and else the request of the lowest that is.
use Prim.Native.Nat.{ℕ, ◌≤◌}
use native.Mathlib.Omega.{arith}
use mathlib.Core.Bool.{not}
use mathlib.Core.Logic.{⊎_elim}
use mathlib.Core.Path.{◌≡◌, sym, subst, ap, ◌∙◌}
use lib.Dec.{T, eqb}
use Rattle.std.specs.Prelude.{Some, None}
use Rattle.definitions.specs.Answers.{number_of_move}
use Rattle.definitions.specs.Dispatch.{mover_in, target_for, chosen, is_waiting}
use Rattle.definitions.specs.Moves.{ask}
use Rattle.definitions.specs.Sound.{sound}
use Rattle.definitions.specs.Table.{Table}
use Rattle.definitions.specs.Threads.{lowest}
use Rattle.definitions.specs.declared.Move.{Move}
use Rattle.dispatching.specs.Ready.{ready, move_by}
use Rattle.basics.proofs.Lowest.{lowest_none, lowest-most}
use Rattle.basics.proofs.Quantifiers.{none_i}
use Rattle.basics.proofs.Tests.{decided, cond_either}
use Rattle.dispatching.proofs.Choice.{mover-fits, mover_is, chosen-move, waiting_none}
use Rattle.theory.proofs.Soundness.{Sound, sound_e}
use Rattle.choice.specs.Choosing.{IsLowest}

module _ (s : Table) where
  -- a target is a thread, or N
  pub target_most : (i target : ℕ) → target ≡ target_for s i → target ≤ s.threads
  unfolding target_for
  target_most i target e =
      subst (λ (t : ℕ). t ≤ s.threads) (sym e)
      (cond_either (λ (t : ℕ). t ≤ s.threads) (eqb (s.phase i) 10) _ _ (λ t. lowest-most _ s.threads)
      (λ t. cond_either (λ (t : ℕ). t ≤ s.threads) (eqb (s.phase i) 15) _ _ (λ u. lowest-most _ s.threads) (λ u. omega arith)))

  -- what the search over all threads answers
  module _ (is_sound : T (sound s)) (n : ℕ) (count : n ≡ s.threads) where
    z : Sound s
    z = sound_e s is_sound

    its_lowest : mover_in s ≡ lowest n (ready s)
    its_lowest = mover_is s z ∙ ap (λ (k : ℕ). lowest k (ready s)) (sym count)

    pub nobody : IsLowest n (ready s) None → T (is_waiting s)
    nobody none = ⊎_elim (λ t. t) (λ t. absurd (omega (arith, its_lowest, none, count, mover-fits s z t))) (decided (is_waiting s))

    pub somebody : (i : ℕ) → IsLowest n (ready s) (Some i) → T (not (is_waiting s))
    somebody i found =
        let none : T (is_waiting s) → lowest n (ready s) ≡ n =
        λ t. lowest_none (ready s) n (none_i (ready s) n (λ k l. waiting_none s z t k (omega (arith, count, l)))) in
        ⊎_elim (λ t. absurd (omega (arith, none t, found.0, found.1))) (λ t. t) (decided (is_waiting s))

    pub makes : (i : ℕ) (mv : Move) (t : ℕ) → IsLowest n (ready s) (Some i) → number_of_move mv ≡ move_by (s.phase i) → t ≡ target_for s i
        → T (not (is_waiting s)) × (ask i (number_of_move mv) t ≡ chosen s)
    makes i mv t found its_move aimed =
        let here : i ≡ mover_in s = sym found.1 ∙ sym its_lowest in
        let turn = somebody i found in
        (turn, rw (its_move, aimed, here, ← chosen-move s z turn))
