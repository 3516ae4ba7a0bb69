-- EE to SAF: where nobody is in SAF, LOS, Exclusive or LE, a thread in EE can take the mutex.
-- A holder, if there is one, is in 16 or 18, and its own go, which keeps its node, gives the mutex back.
use Prim.Native.Nat.{ℕ, ◌<◌}
use native.Mathlib.Omega.{arith}
use mathlib.Core.Bool.{not, ◌&&◌}
use mathlib.Core.List.{[], ◌∷◌}
use mathlib.Core.Logic.{◌⊎◌, inl, inr, ⊎_elim}
use mathlib.Core.Path.{◌≡◌, refl}
use lib.Dec.{T, eqb, eqb→eq}
use Rattle.definitions.specs.Codes.{go}
use Rattle.definitions.specs.Moves.{quietly, go_effect, must_wait}
use Rattle.definitions.specs.Nodes.{nodes_of, arrows}
use Rattle.definitions.specs.Phases.{rows, node_of, holds, has_move}
use Rattle.definitions.specs.Sound.{sound, any_holder, opened}
use Rattle.definitions.specs.Table.{Table, mutex≔, phase≔, applied}
use Rattle.definitions.specs.Threads.{every, among}
use Rattle.basics.proofs.Tests.{and_i, or_e, decided}
use Rattle.theory.proofs.Figure1.{arrow_at}
use Rattle.theory.proofs.Soundness.{Holds, some_in, none_in, sound_e}
use Rattle.arrows.specs.Arrows.{Enabled}
use Rattle.arrows.proofs.Taking.{Can, CanAt, at_most}
use Rattle.arrows.proofs.OneRequest.{go_first, go_along, enabled_at, nobody_in_lem}

-- the mutex is free
from_free : (s : Table) → T (sound s) → (i : ℕ) → s.mutex ≡ 0 → CanAt 1 s i 6
unfolding go_effect rows among arrows every
from_free s g i free enabled =
    let at = enabled_at s g (arrow_at 6) i enabled 9 tt in
    go_along s g (arrow_at 6) i enabled 9 10 (phase≔ i 10 ∷ mutex≔ 1 ∷ []) at tt (rw free tt) (rw at) refl refl

module _ (s : Table) (g : T (sound s)) (i : ℕ) (enabled : Enabled (nodes_of s) (arrow_at 6) i) where
  -- a holder h in phase p gives it back by going to v, of the same node
  given_back : (h p v : ℕ) → h < s.threads → s.phase h ≡ p → T (has_move go p) → T (not (must_wait p s.mutex go)) → go_effect s h ≡ quietly (phase≔ h v ∷ mutex≔ 0 ∷ [])
      → node_of p ≡ node_of v → Can 2 s (arrow_at 6) i
  given_back h p v k at has free effect_is same =
      go_first s g (arrow_at 6) i enabled h p v (phase≔ h v ∷ mutex≔ 0 ∷ []) k at has free effect_is refl same
      (λ g'. from_free (applied s (phase≔ h v ∷ mutex≔ 0 ∷ [])) g' i refl)

  -- it is in 16 or 18, the other phases of a holder being barred
  from-held : (h : ℕ) → h < s.threads → Holds s h → Can 2 s (arrow_at 6) i
  unfolding go_effect rows among arrows every
  from-held h k t = by (decided (opened (s.phase h)))
    where
      by : T (opened (s.phase h)) ⊎ T (not (opened (s.phase h))) → Can 2 s (arrow_at 6) i
      by (inl u) =
          ⊎_elim (λ v. let e = eqb→eq (s.phase h) 16 v in given_back h 16 17 k e tt tt (rw e) refl)
          (λ v. let e = eqb→eq (s.phase h) 18 v in given_back h 18 1 k e tt tt (rw e) refl)
          (or_e (eqb (s.phase h) 16) (eqb (s.phase h) 18) u)
      by (inr u) = absurd (nobody_in_lem s g (arrow_at 6) i enabled (λ q. holds q && not (opened q)) tt h k (and_i (holds (s.phase h)) _ t u))

-- EE to SAF
pub take-mutex : (s : Table) → T (sound s) → (i : ℕ) → CanAt 2 s i 6
take-mutex s g i enabled = by (decided (any_holder s))
  where
    by : T (any_holder s) ⊎ T (not (any_holder s)) → Can 2 s (arrow_at 6) i
    by (inl t) = let (h, k, u) = some_in s holds t in from-held s g i enabled h k u
    by (inr t) = at_most (omega arith) (from_free s g i ((sound_e s g).free (none_in s holds t)) enabled)
