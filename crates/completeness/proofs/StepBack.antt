-- Every sound table but the fresh one has a step back (`step_or_fresh`): by a thread whose own last move can be undone, else by the holder, else by a thread in 17, else by one in 0.
use Prim.Native.Nat.{ℕ, ◌<◌}
use mathlib.Core.Bool.{Bool, not, ◌&&◌, ◌||◌}
use mathlib.Core.Logic.{◌⊎◌, inl, inr, ⊎_elim}
use mathlib.Core.Path.{◌≡◌}
use lib.Dec.{T, eqb, eqb→eq}
use Rattle.definitions.specs.Phases.{rows, holds, reading}
use Rattle.definitions.specs.Sound.{backed_off}
use Rattle.definitions.specs.Table.{Table}
use Rattle.definitions.specs.Threads.{every, some, among}
use Rattle.basics.proofs.Cases.{or_at, none_of}
use Rattle.basics.proofs.Quantifiers.{some_e, none_at}
use Rattle.basics.proofs.Tests.{and_i, decided, or_e, eq_T, ne_T, T_ne, no_both, not_i}
use Rattle.theory.proofs.PhaseCases.{is_holder}
use Rattle.theory.proofs.SoundChanges.{bit_0, bit_1}
use Rattle.theory.proofs.Soundness.{All, Some, Holds, Reads, Sound}
use Rattle.completeness.proofs.Before.{Before, undoable, undone}
use Rattle.completeness.proofs.BeforeHolder.{Rest, at_rest, back_10, back_10_next, back_10_given_up, back_11, back_12, back_13, back_14}
use Rattle.completeness.proofs.BeforeHolder.{back_15, back_15_set, back_15_clear, back_16, back_17, back_18, back_0}

-- f holds of some thread, or of none
some_or_none : (s : Table) (f : ℕ → Bool) → Some s (λ j. T (f j)) ⊎ All s (λ j. T (not (f j)))
some_or_none s f = ⊎_elim (λ t. inl (some_e f s.threads t)) (λ t. inr (none_at f s.threads t)) (decided (some s.threads f))

module _ (s : Table) (z : Sound s) (rest : Rest s) where
  module _ (h : ℕ) (l : h < s.threads) where
    from_10 : s.phase h ≡ 10 → Before s
    from_10 e = by (some_or_none s (λ j. eqb (s.forbidden j) 1)) (some_or_none s (λ j. eqb (s.phase j) 3))
      where
        all_clear : All s (λ j. T (not (eqb (s.forbidden j) 1))) → All s (λ j. s.forbidden j ≡ 0)
        all_clear down j m = bit_0 (s.forbidden j) (z.flags j m) (T_ne (s.forbidden j) 1 (down j m))

        by : Some s (λ j. T (eqb (s.forbidden j) 1)) ⊎ All s (λ j. T (not (eqb (s.forbidden j) 1))) → Some s (λ j. T (eqb (s.phase j) 3)) ⊎ All s (λ j. T (not (eqb (s.phase j) 3))) → Before s
        by (inl (t, k, u)) x = back_10_next s z h l rest e t k (eqb→eq (s.forbidden t) 1 u)
        by (inr down) (inl (t, k, u)) = back_10_given_up s z h l rest e (all_clear down) t k (eqb→eq (s.phase t) 3 u)
        by (inr down) (inr no-3) = back_10 s z h l rest e (all_clear down) (λ j m. T_ne (s.phase j) 3 (no-3 j m))

    from_15 : s.phase h ≡ 15 → Before s
    unfolding rows among every
    from_15 e = by (some_or_none s (λ j. eqb (s.forbidden j) 0)) (some_or_none s (λ j. eqb (s.phase j) 5))
      where
        all_set : All s (λ j. T (not (eqb (s.forbidden j) 0))) → All s (λ j. s.forbidden j ≡ 1)
        all_set up j m = bit_1 (s.forbidden j) (z.flags j m) (T_ne (s.forbidden j) 0 (up j m))

        by : Some s (λ j. T (eqb (s.forbidden j) 0)) ⊎ All s (λ j. T (not (eqb (s.forbidden j) 0))) → Some s (λ j. T (eqb (s.phase j) 5)) ⊎ All s (λ j. T (not (eqb (s.phase j) 5))) → Before s
        by (inl (u, k, d)) x = back_15_clear s z h l rest e u k (eqb→eq (s.forbidden u) 0 d)
        by (inr up) (inl (t, k, u)) = back_15_set s z h l rest e (all_set up) t k (eqb→eq (s.phase t) 5 u)
        by (inr up) (inr no-5) = back_15 s z h l rest e (all_set up) none
          where
            none : All s (λ j. Reads s j → ⊥)
            none j m r =
                let at_5 =
                at_rest s z rest (λ p f. eqb f 1 && reading p) (λ p f. eqb p 5) tt j m (and_i (eqb (s.forbidden j) 1) _ (eq_T (s.forbidden j) 1 (all_set up j m)) r) in
                no_both (eqb (s.phase j) 5) at_5 (no-5 j m)

    held_back : Holds s h → Before s
    held_back t =
        or_at q 10 _ from_10 (or_at q 11 _ (back_11 s z h l rest) (or_at q 12 _ (back_12 s z h l rest) (or_at q 13 _ (back_13 s z h l rest)
        (or_at q 14 _ (back_14 s z h l rest) (or_at q 15 _ from_15 (or_at q 16 _ (back_16 s z h l rest) (or_at q 18 _ (back_18 s z h l rest) (none_of q))))))))
        (is_holder q t)
      where
        q : ℕ
        q = s.phase h

  module _ (none : All s (λ j. Holds s j → ⊥)) where
    -- only 0 and 3 are left beside 17
    left : All s (λ j. s.phase j ≡ 17 → ⊥) → All s (λ j. T (eqb (s.phase j) 0 || eqb (s.phase j) 3))
    unfolding rows among every
    left no-17 j m =
        at_rest s z rest (λ p f. eqb f 0 && (not (holds p) && not (eqb p 17))) (λ p f. eqb p 0 || eqb p 3) tt j m
        (and_i (eqb (s.forbidden j) 0) _ (eq_T (s.forbidden j) 0 (z.open_free none j m))
        (and_i (not (holds (s.phase j))) _ (not_i (holds (s.phase j)) (none j m)) (ne_T (s.phase j) 17 (no-17 j m))))

    free_back : Before s ⊎ All s (λ j. s.phase j ≡ 0)
    unfolding rows
    free_back = by (some_or_none s (λ j. eqb (s.phase j) 17)) (some_or_none s (λ j. eqb (s.phase j) 3))
      where
        by : Some s (λ j. T (eqb (s.phase j) 17)) ⊎ All s (λ j. T (not (eqb (s.phase j) 17))) → Some s (λ j. T (eqb (s.phase j) 3)) ⊎ All s (λ j. T (not (eqb (s.phase j) 3)))
            → Before s ⊎ All s (λ j. s.phase j ≡ 0)
        by (inl (t, k, u)) x = inl (back_17 s z none t k (eqb→eq (s.phase t) 17 u))
        by (inr no-17) (inl (t, k, u)) =
            let (w, m, out) = z.elsewhere in
            let gone : All s (λ j. s.phase j ≡ 17 → ⊥) = λ j b. T_ne (s.phase j) 17 (no-17 j b) in
            ⊎_elim (λ a. inl (back_0 s z none w m (eqb→eq (s.phase w) 0 a) t k (eqb→eq (s.phase t) 3 u) gone))
            (λ a. absurd (no_both (backed_off (s.phase w)) (rw (eqb→eq (s.phase w) 3 a) tt) out))
            (or_e (eqb (s.phase w) 0) (eqb (s.phase w) 3) (left gone w m))
        by (inr no-17) (inr no-3) =
            inr (λ j m.
            ⊎_elim (λ a. eqb→eq (s.phase j) 0 a) (λ a. absurd (no_both (eqb (s.phase j) 3) a (no-3 j m)))
            (or_e (eqb (s.phase j) 0) (eqb (s.phase j) 3) (left (λ j b. T_ne (s.phase j) 17 (no-17 j b)) j m)))

-- the fresh table, but for what stands beyond its threads
pub record Fresh (s : Table) : Type 0 where
  pub nobody : All s (λ j. Holds s j → ⊥)
  pub phases : All s (λ j. s.phase j ≡ 0)

pub step_or_fresh : (s : Table) → Sound s → Before s ⊎ Fresh s
step_or_fresh s z = by (some_or_none s (λ j. undoable (s.phase j) (s.forbidden j))) (some_or_none s (λ j. holds (s.phase j)))
  where
    by : Some s (λ j. T (undoable (s.phase j) (s.forbidden j))) ⊎ Rest s → Some s (Holds s) ⊎ All s (λ j. T (not (holds (s.phase j)))) → Before s ⊎ Fresh s
    by (inl (i, l, t)) x = inl (undone s z i l t)
    by (inr rest) (inl (h, l, t)) = inl (held_back s z rest h l t)
    by (inr rest) (inr free) =
        let nobody : All s (λ j. Holds s j → ⊥) = λ j m u. no_both (holds (s.phase j)) u (free j m) in
        ⊎_elim inl (λ p. inr (record { nobody = nobody; phases = p })) (free_back s z rest nobody)
