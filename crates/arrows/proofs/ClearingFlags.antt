-- LE to OE: a thread in LE can clear every flag that is set, and stays in LE until none is. By induction on how many are set, which is also how many moves it makes.
use Prim.Native.Nat.{ℕ, zero, suc, ◌≤◌, ◌<◌}
use native.Mathlib.Omega.{arith}
use mathlib.Core.Bool.{not}
use mathlib.Core.List.{List, [], ◌∷◌}
use mathlib.Core.Logic.{◌⊎◌, inl, inr}
use mathlib.Core.Path.{◌≡◌, refl}
use lib.Dec.{T, eqb, lt→ltb}
use Rattle.definitions.specs.Codes.{clear_move}
use Rattle.definitions.specs.Moves.{ask, quietly, none_forbidden_but, clear_effect, effect}
use Rattle.definitions.specs.Nodes.{nodes_of, arrows}
use Rattle.definitions.specs.Phases.{rows}
use Rattle.definitions.specs.Sound.{sound}
use Rattle.definitions.specs.Table.{Table, Write, phase≔, forbidden≔, update, applied}
use Rattle.definitions.specs.Threads.{every, among}
use Rattle.basics.proofs.Quantifiers.{how_many_pos, how_many-most}
use Rattle.basics.proofs.Tests.{eq_T, decided, T_true, T_false}
use Rattle.basics.proofs.FlagCounts.{flags_set, one_fewer}
use Rattle.theory.proofs.Figure1.{arrow_at}
use Rattle.theory.proofs.Soundness.{Some, sound_e}
use Rattle.arrows.specs.Arrows.{Enabled}
use Rattle.arrows.proofs.Taking.{Can, CanAt, at_most}
use Rattle.arrows.proofs.OneRequest.{Makes, makes, stands, along, first, same_nodes, nodes-changed, enabled_at}

module _ (s : Table) (g : T (sound s)) (i : ℕ) (enabled : Enabled (nodes_of s) (arrow_at 10) i) where
  abbrev l : i < s.threads
  l = stands s (arrow_at 10) i enabled

  -- the phase of LE
  in_15 : s.phase i ≡ 15
  unfolding rows among arrows every
  in_15 = enabled_at s g (arrow_at 10) i enabled 15 tt

  -- some flag is set
  one_set : Some s (λ t. s.forbidden t ≡ 1)
  one_set = (sound_e s g).some-forbidden i l (rw in_15 tt)

  module _ (t : ℕ) (k : t < s.threads) where
    -- clearing thread t's, by what it writes
    clears : (ws : List Write) → clear_effect s i t ≡ quietly ws → Makes s (ask i clear_move t) (quietly ws)
    unfolding effect rows among
    clears ws to = makes s g i l clear_move t 15 (quietly ws) (omega arith) (lt→ltb t s.threads k) in_15 tt tt to

    -- it is the last one: that is the arrow
    last_cleared : T (none_forbidden_but t s) → Can 1 s (arrow_at 10) i
    unfolding clear_effect rows arrows
    last_cleared none =
        let ws : List Write = forbidden≔ t 0 ∷ phase≔ i 16 ∷ [] in
        along s (arrow_at 10) i clear_move t (quietly ws) enabled (clears ws (rw (T_true (none_forbidden_but t s) none))) refl (nodes-changed s ws g i l 16 refl)

    -- it isn't: the thread stays in LE
    cleared : {b : ℕ} → T (not (none_forbidden_but t s)) → (T (sound (applied s (forbidden≔ t 0 ∷ []))) → CanAt b (applied s (forbidden≔ t 0 ∷ [])) i 10) → Can (suc b) s (arrow_at 10) i
    unfolding clear_effect
    cleared more rest =
        let ws : List Write = forbidden≔ t 0 ∷ [] in
        first s (arrow_at 10) i (ask i clear_move t) (quietly ws) enabled (clears ws (rw (T_false (none_forbidden_but t s) more))) (same_nodes s ws refl) rest

-- at most n flags are set, which is n moves
clear_up_to : (n : ℕ) (s : Table) → T (sound s) → (i : ℕ) → flags_set s.threads s.forbidden ≤ n → CanAt n s i 10
clear_up_to zero s g i few enabled =
    let (t, k, f) = one_set s g i enabled in
    absurd (omega (arith, how_many_pos (λ j. eqb (s.forbidden j) 1) s.threads t k (eq_T (s.forbidden t) 1 f)))
clear_up_to (suc n) s g i few enabled =
    let (t, k, f) = one_set s g i enabled in
    by t k f (λ g' fewer. clear_up_to n (applied s (forbidden≔ t 0 ∷ [])) g' i fewer) (decided (none_forbidden_but t s))
  where
    by : (t : ℕ) → t < s.threads → s.forbidden t ≡ 1
        → (T (sound (applied s (forbidden≔ t 0 ∷ []))) → flags_set s.threads (update s.forbidden t 0) ≤ n → CanAt n (applied s (forbidden≔ t 0 ∷ [])) i 10)
        → T (none_forbidden_but t s) ⊎ T (not (none_forbidden_but t s)) → Can (suc n) s (arrow_at 10) i
    by t k f rest (inl none) = at_most (omega arith) (last_cleared s g i enabled t k none)
    by t k f rest (inr more) = cleared s g i enabled t k more (λ g'. rest g' (omega (arith, one_fewer s.threads s.forbidden t k f)))

-- LE to OE
pub clear_flags : (s : Table) → T (sound s) → (i : ℕ) → CanAt s.threads s i 10
clear_flags s g i = clear_up_to s.threads s g i (how_many-most (λ j. eqb (s.forbidden j) 1) s.threads)
