-- SAF to LOS: where thread h is in SAF and nobody in LOE or Shared, h can take the arrow to LOS after moves that keep all nodes (`to-exclusive`).
-- One move is repeated. In 12 the writer gives the flag up; in 10 it sets a flag that is 0; in 11 it reads the target's busy, and where this is 1 the target, which is in 2, 3 or 7, goes first.
-- Each keeps all nodes and lowers the number of moves that are left (`left`), until every flag is set and the go of 11 leads to 13. The number is at most 4N - 1 (`left-most`).
use Prim.Native.Nat.{ℕ, zero, suc, ◌+◌, ◌*◌, ◌-◌, ◌≤◌, ◌<◌}
use native.Mathlib.Nat.{not-suc-le-zero}
use native.Mathlib.Omega.{arith}
use mathlib.Core.Bool.{Bool, not, ◌&&◌}
use mathlib.Core.List.{[], ◌∷◌}
use mathlib.Core.Logic.{◌⊎◌, inl, inr}
use mathlib.Core.Path.{◌≡◌, refl, sym, ap, ◌∙◌}
use lib.Dec.{T, eqb, leb, lt→ltb, leb→le, eqb→eq}
use lib.ListN.{get_or}
use Rattle.definitions.specs.Bounds.{last_phase, no_target}
use Rattle.definitions.specs.Codes.{go, set_move}
use Rattle.definitions.specs.Moves.{ask, quietly, all_forbidden, go_effect, set_effect, effect, must_wait}
use Rattle.definitions.specs.Nodes.{nodes_of, Arrow, arrows}
use Rattle.definitions.specs.Phases.{rows, node_of, busy_in, holds, has_move}
use Rattle.definitions.specs.Sound.{sound}
use Rattle.definitions.specs.Table.{Table, target≔, phase≔, busy≔, forbidden≔, update}
use Rattle.definitions.specs.Threads.{every, among, implies, sum_of}
use Rattle.basics.proofs.Cases.{or_at, none_of}
use Rattle.basics.proofs.Quantifiers.{every_at, how_many_pos, how_many-most}
use Rattle.basics.proofs.Sums.{sum_update, sum_most}
use Rattle.basics.proofs.Tests.{same?, and_i, not_i, decided, T_true, T_false, eq_T, implies_e}
use Rattle.basics.proofs.FlagCounts.{flags_set, one_more, one_fewer}
use Rattle.basics.proofs.Columns.{update_same, update_other}
use Rattle.theory.proofs.Figure1.{arrow_at}
use Rattle.theory.proofs.SoundChanges.{in_phase_lem}
use Rattle.theory.proofs.Soundness.{Sound, Holds, sound_e}
use Rattle.arrows.specs.Arrows.{Enabled}
use Rattle.arrows.proofs.OneRequest.{makes, stands, first, nodes-kept, go_first, go_along, enabled_in, nobody_in_lem}
use Rattle.arrows.proofs.Taking.{Can, CanAt, at_most}

-- ---- what is left to do

-- the moves of a thread, by its phase: of a reader that is to lower its busy (2, 3, 7), and of the writer (11, 12)
unfoldable work : ℕ → ℕ
work phase = get_or (0 ∷ 0 ∷ 2 ∷ 1 ∷ 0 ∷ 0 ∷ 0 ∷ 1 ∷ 0 ∷ 0 ∷ 0 ∷ 1 ∷ 3 ∷ []) phase 0

-- with two moves for each flag that isn't set
unfoldable left : ℕ → (ℕ → ℕ) → (ℕ → ℕ) → ℕ
left n phase forbidden = sum_of n (λ j. work (phase j)) + 2 * (n - flags_set n forbidden)

-- in a table
abbrev left_in : Table → ℕ
left_in s = left s.threads s.phase s.forbidden

-- thread i goes from phase p to v, and the flags F become G
falls : (n : ℕ) (φ F G : ℕ → ℕ) (i p v : ℕ) → i < n → φ i ≡ p → work v + 2 * (n - flags_set n G) < work p + 2 * (n - flags_set n F) → left n (update φ i v) G < left n φ F
unfolding left
falls n φ F G i p v l e less = let sum = sum_update n work φ i v l in let before = ap work e in omega arith

-- ---- one move

-- "SAF to LOS nobody in LOE or Shared"
abbrev arrow : Arrow
arrow = arrow_at 7

-- thread h stands there, and what is left to do after a move is done by `again`, in as many moves
module _ (s : Table) (g : T (sound s)) (z : Sound s) (h : ℕ) (enabled : Enabled (nodes_of s) arrow h)
    (again : (t : Table) → T (sound t) → Enabled (nodes_of t) arrow h → left_in t < left_in s → Can (left_in t) t arrow h) where
  abbrev l : h < s.threads
  l = stands s arrow h enabled

  abbrev n : ℕ
  n = s.threads

  abbrev F : ℕ → ℕ
  F = s.forbidden

  -- the flag of the target is given up
  from_12 : s.phase h ≡ 12 → Can (left_in s) s arrow h
  unfolding rows among go_effect work
  from_12 e =
      let r = z.has_target h l (in_phase_lem s z h l 12 e tt 11 12 tt) in
      let fewer = one_fewer n F s.target r.0 r.1 in
      let less = falls n s.phase F (update F s.target 0) h 12 10 l e (omega arith) in
      at_most less
      (go_first s g arrow h enabled h 12 10 (phase≔ h 10 ∷ forbidden≔ s.target 0 ∷ target≔ no_target ∷ []) l e tt tt (rw e) refl refl (λ after there. again _ after there less))

  -- a flag is set
  from_10 : s.phase h ≡ 10 → Can (left_in s) s arrow h
  unfolding rows among effect set_effect work
  from_10 e =
      let (t, k, f) = z.some_clear h l (in_phase_lem s z h l 10 e tt 10 10 tt) in
      let ws = phase≔ h 11 ∷ forbidden≔ t 1 ∷ target≔ t ∷ [] in
      let more = one_more n F t k f in
      let most = how_many-most (λ j. eqb (update F t 1 j) 1) n in
      let less = falls n s.phase F (update F t 1) h 10 11 l e (omega arith) in
      at_most less
      (first s arrow h (ask h set_move t) (quietly ws) enabled (makes s g h l set_move t 10 (quietly ws) (omega arith) (lt→ltb t n k) e tt tt (rw e))
      (nodes-kept s ws g h l 11 refl 10 e refl) (λ after there. again _ after there less))

  -- the target, whose forbidden is 1
  module _ (k : s.target < s.threads) (up : F s.target ≡ 1) where
    abbrev q : ℕ
    q = s.target

    -- where its busy is 1 it is in 2, 3 or 7, since nobody is in 5 and 6
    target-phase : s.busy q ≡ 1 → T (among (s.phase q) (2 ∷ 3 ∷ 7 ∷ []))
    unfolding rows every among arrows
    target-phase busy =
        let late : ℕ → Bool = λ p. among p (5 ∷ 6 ∷ []) in
        implies_e (eqb (busy_in (s.phase q)) 1 && not (late (s.phase q))) (among (s.phase q) (2 ∷ 3 ∷ 7 ∷ []))
        (every_at (λ p. implies (eqb (busy_in p) 1 && not (late p)) (among p (2 ∷ 3 ∷ 7 ∷ []))) (suc last_phase) tt (s.phase q) (omega (arith, z.phases q k)))
        (and_i (eqb (busy_in (s.phase q)) 1) (not (late (s.phase q))) (eq_T (busy_in (s.phase q)) 1 (sym (z.busies q k) ∙ busy))
        (not_i (late (s.phase q)) (nobody_in_lem s g arrow h enabled late tt q k)))

    -- from 2 it goes to 3
    target_2 : s.phase q ≡ 2 → Can (left_in s) s arrow h
    unfolding rows among go_effect work
    target_2 e =
        let less = falls n s.phase F F q 2 3 k e (omega arith) in
        at_most less (go_first s g arrow h enabled q 2 3 (phase≔ q 3 ∷ []) k e tt tt (rw (e, up)) refl refl (λ after there. again _ after there less))

    -- from 3 and 7 it lowers its busy
    target_lowers : (p v : ℕ) → T (has_move go p) → T (not (must_wait p s.mutex go)) → (s.phase q ≡ p → go_effect s q ≡ quietly (phase≔ q v ∷ busy≔ q 0 ∷ [])) → node_of p ≡ node_of v → work v < work p
        → s.phase q ≡ p → Can (left_in s) s arrow h
    target_lowers p v has free to same lower e =
        let less = falls n s.phase F F q p v k e (omega arith) in
        at_most less (go_first s g arrow h enabled q p v (phase≔ q v ∷ busy≔ q 0 ∷ []) k e has free (to e) refl same (λ after there. again _ after there less))

    -- so it goes
    target_goes : s.busy q ≡ 1 → Can (left_in s) s arrow h
    unfolding rows among go_effect work
    target_goes busy =
        or_at (s.phase q) 2 (3 ∷ 7 ∷ []) target_2
        (or_at (s.phase q) 3 (7 ∷ []) (target_lowers 3 4 tt tt (λ e. rw e) refl (omega arith))
        (or_at (s.phase q) 7 [] (target_lowers 7 8 tt tt (λ e. rw e) refl (omega arith)) (none_of (s.phase q))))
        (target-phase busy)

  -- the target's busy is read: it goes first where this is 1, else every flag is set or another is next
  from_11 : s.phase h ≡ 11 → Can (left_in s) s arrow h
  unfolding rows among arrows go_effect work
  from_11 e = by (decided busy) (decided (all_forbidden s))
    where
      busy : Bool
      busy = eqb (s.busy s.target) 1

      less : (v : ℕ) → work v < 1 → left n (update s.phase h v) F < left_in s
      less v none = falls n s.phase F F h 11 v l e (omega arith)

      by : T busy ⊎ T (not busy) → T (all_forbidden s) ⊎ T (not (all_forbidden s)) → Can (left_in s) s arrow h
      by (inl u) x = let r = z.has_target h l (in_phase_lem s z h l 11 e tt 11 12 tt) in target_goes r.0 r.1 (eqb→eq (s.busy s.target) 1 u)
      by (inr u) (inl a) =
          at_most (omega (arith, less 13 (omega arith)))
          (go_along s g arrow h enabled 11 13 (phase≔ h 13 ∷ target≔ no_target ∷ []) e tt tt (rw (e, T_false busy u, T_true (all_forbidden s) a)) refl refl)
      by (inr u) (inr a) =
          at_most (less 10 (omega arith))
          (go_first s g arrow h enabled h 11 10 (phase≔ h 10 ∷ target≔ no_target ∷ []) l e tt tt (rw (e, T_false busy u, T_false (all_forbidden s) a)) refl refl
          (λ after there. again _ after there (less 10 (omega arith))))

  -- a thread in SAF is in 10, 11 or 12
  one_move : Can (left_in s) s arrow h
  unfolding rows every among arrows
  one_move =
      or_at (s.phase h) 10 (11 ∷ 12 ∷ []) from_10 (or_at (s.phase h) 11 (12 ∷ []) from_11 (or_at (s.phase h) 12 [] from_12 (none_of (s.phase h))))
      (enabled_in s g arrow h enabled (10 ∷ 11 ∷ 12 ∷ []) tt)

-- while less than b is left to do
within : (b : ℕ) (s : Table) → T (sound s) → (h : ℕ) → Enabled (nodes_of s) arrow h → left_in s < b → Can (left_in s) s arrow h
within zero s g h enabled less = absurd (not-suc-le-zero less)
within (suc b) s g h enabled less = one_move s g (sound_e s g) h enabled (λ t after there fewer. within b t after h there (omega arith))

-- ---- how much is left at most

module _ (s : Table) (z : Sound s) (h : ℕ) (l : h < s.threads) (holder : Holds s h) where
  -- 2 for each other thread, none of which is a holder
  others : (j : ℕ) → j < s.threads → work (update s.phase h 2 j) ≤ 2
  unfolding rows every work
  others j k = by (same? j h)
    where
      test : ℕ → Bool
      test q = implies (not (holds q)) (leb (work q) 2)

      by : (j ≡ h) ⊎ (j ≡ h → ⊥) → work (update s.phase h 2 j) ≤ 2
      by (inl e) = rw (update_same s.phase h 2 j e) (omega arith)
      by (inr other) =
          rw (update_other s.phase h 2 j other)
          (leb→le (work (s.phase j)) 2
          (implies_e (not (holds (s.phase j))) (leb (work (s.phase j)) 2) (every_at test (suc last_phase) tt (s.phase j) (omega (arith, z.phases j k)))
          (not_i (holds (s.phase j)) (λ u. other (z.one_holder j k h l u holder)))))

  -- the writer's own by its phase
  most_at : (p : ℕ) → s.phase h ≡ p → work p + 2 * (s.threads - flags_set s.threads s.forbidden) ≤ 2 * s.threads + 1 → left_in s ≤ 4 * s.threads - 1
  unfolding left work
  most_at p e own =
      let sum = sum_update s.threads work s.phase h 2 l in
      let most = sum_most (λ j. work (update s.phase h 2 j)) 2 s.threads others in
      let before = ap work e in
      omega arith

-- a thread in SAF is in 10, 11 or 12, and in 12 some flag is set
left-most : (s : Table) → T (sound s) → (h : ℕ) → Enabled (nodes_of s) arrow h → left_in s ≤ 4 * s.threads - 1
unfolding rows every among arrows work
left-most s g h enabled =
    or_at (s.phase h) 10 (11 ∷ 12 ∷ []) (λ e. most_at s z h l (rw e tt) 10 e (omega arith))
    (or_at (s.phase h) 11 (12 ∷ []) (λ e. most_at s z h l (rw e tt) 11 e (omega arith))
    (or_at (s.phase h) 12 [] (λ e. most_at s z h l (rw e tt) 12 e (in_12 e)) (none_of (s.phase h))))
    (enabled_in s g arrow h enabled (10 ∷ 11 ∷ 12 ∷ []) tt)
  where
    z : Sound s
    z = sound_e s g

    l : h < s.threads
    l = stands s arrow h enabled

    in_12 : s.phase h ≡ 12 → 3 + 2 * (s.threads - flags_set s.threads s.forbidden) ≤ 2 * s.threads + 1
    in_12 e =
        let r = z.has_target h l (in_phase_lem s z h l 12 e tt 11 12 tt) in
        let one = how_many_pos (λ j. eqb (s.forbidden j) 1) s.threads s.target r.0 (eq_T (s.forbidden s.target) 1 r.1) in
        omega (arith, how_many-most (λ j. eqb (s.forbidden j) 1) s.threads)

-- ---- the theorem

pub to-exclusive : (s : Table) → T (sound s) → (h : ℕ) → CanAt (4 * s.threads - 1) s h 7
to-exclusive s g h enabled = at_most (left-most s g h enabled) (within (suc (left_in s)) s g h enabled (omega arith))
