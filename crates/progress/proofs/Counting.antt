-- The number of Measure counts the moves of a list, whatever stores the table: a list without calls and retries is no longer than the number (`bounded`);
-- an accepted list is at least as long as the number falls (`falls_most`), and if it is no longer than that, no move of it is a call or a retry (`all_advance`).
use Prim.Native.Nat.{ℕ, ◌+◌, ◌≤◌}
use native.Mathlib.Omega.{arith}
use mathlib.Core.Bool.{Bool, not, ◌&&◌}
use mathlib.Core.List.{List, [], ◌∷◌}
use lib.Dec.{T}
use lib.ListN.{length}
use Rattle.definitions.specs.Chains.{after_in, accepts_all_in}
use Rattle.definitions.specs.Moves.{is_retry, is_call, step_in, accepts_in}
use Rattle.definitions.specs.Table.{Storage}
use Rattle.definitions.specs.declared.Request.{Request}
use Rattle.theory.specs.Tables.{Keeps}
use Rattle.basics.proofs.Tests.{and_l, and_r, and_i}
use Rattle.progress.specs.Progress.{progresses_in}
use Rattle.progress.proofs.Lowering.{Judged, lowers, keeps, judged_in}
use Rattle.progress.proofs.Measure.{measure}
use Rattle.progress.proofs.MoveKinds.{Advances}

module _ {B : Type 0} (S : Storage B) (kept : Keeps S) where
  -- the number of what is stored
  abbrev number : B → ℕ
  number b = measure (S.table b)

  -- ---- a list that makes progress: its first request and the rest

  module _ (b : B) (r : Request) (rs : List Request) where
    abbrev no_retry : Bool
    no_retry = not (is_retry (S.table b) r)

    abbrev rest : Bool
    rest = progresses_in S (step_in S b r) rs

    pub parts : T (progresses_in S b (r ∷ rs)) → T (accepts_in S b r) × Advances (S.table b) r × T rest
    unfolding progresses_in
    parts t =
        let more = and_r (accepts_in S b r) (not (is_call r) && (no_retry && rest)) t in
        let behind = and_r (not (is_call r)) (no_retry && rest) more in
        (and_l (accepts_in S b r) (not (is_call r) && (no_retry && rest)) t, (and_l (not (is_call r)) (no_retry && rest) more, and_l no_retry rest behind), and_r no_retry rest behind)

    whole : T (accepts_in S b r) → Advances (S.table b) r → T rest → T (progresses_in S b (r ∷ rs))
    unfolding progresses_in
    whole t a u = and_i (accepts_in S b r) (not (is_call r) && (no_retry && rest)) t (and_i (not (is_call r)) (no_retry && rest) a.0 (and_i no_retry rest a.1 u))

  -- ---- lists

  -- one without calls and retries
  pub bounded : (b : B) (rs : List Request) → T (progresses_in S b rs) → length rs ≤ number b
  bounded b [] t = omega arith
  bounded b (r ∷ rs) t = let (ok, ahead, more) = parts b r rs t in by ahead (bounded (step_in S b r) rs more) (judged_in S kept b r ok)
    where
      by : Advances (S.table b) r → length rs ≤ number (step_in S b r) → Judged (S.table b) r (number (step_in S b r)) → length (r ∷ rs) ≤ number b
      by ahead more (lowers a e) = omega arith
      by ahead more (keeps other e) = absurd (other ahead)

  -- an accepted one
  pub falls_most : (b : B) (rs : List Request) → T (accepts_all_in S b rs) → number b ≤ number (after_in S b rs) + length rs
  unfolding accepts_all_in after_in
  falls_most b [] t = omega arith
  falls_most b (r ∷ rs) t =
      by (falls_most (step_in S b r) rs (and_r (accepts_in S b r) (accepts_all_in S (step_in S b r) rs) t)) (judged_in S kept b r (and_l (accepts_in S b r) (accepts_all_in S (step_in S b r) rs) t))
    where
      by : number (step_in S b r) ≤ number (after_in S (step_in S b r) rs) + length rs → Judged (S.table b) r (number (step_in S b r)) → number b ≤ number (after_in S (step_in S b r) rs) + length (r ∷ rs)
      by more (lowers a e) = omega arith
      by more (keeps other e) = omega arith

  -- one that is as long as the number falls
  pub all_advance : (b : B) (rs : List Request) → T (accepts_all_in S b rs) → number (after_in S b rs) + length rs ≤ number b → T (progresses_in S b rs)
  unfolding accepts_all_in after_in progresses_in
  all_advance b [] t l = tt
  all_advance b (r ∷ rs) t l = by (all_advance (step_in S b r) rs next) (judged_in S kept b r ok)
    where
      ok : T (accepts_in S b r)
      ok = and_l (accepts_in S b r) (accepts_all_in S (step_in S b r) rs) t

      next : T (accepts_all_in S (step_in S b r) rs)
      next = and_r (accepts_in S b r) (accepts_all_in S (step_in S b r) rs) t

      by : (number (after_in S (step_in S b r) rs) + length rs ≤ number (step_in S b r) → T (progresses_in S (step_in S b r) rs)) → Judged (S.table b) r (number (step_in S b r))
          → T (progresses_in S b (r ∷ rs))
      by rec (lowers a e) = whole b r rs ok a (rec (omega arith))
      by rec (keeps other e) = absurd (omega (arith, falls_most (step_in S b r) rs next))
