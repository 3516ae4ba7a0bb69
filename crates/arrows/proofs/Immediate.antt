-- The arrows that a thread takes by its own requests alone: Free to ES and to EE by a call; LOE to Shared, Shared to LS, LOS to Exclusive and Exclusive to LE by one go;
-- LS to Free and OE to Free by one go, or by two from the first of the node's two phases.
use Prim.Native.Nat.{ℕ, ◌≤◌}
use native.Mathlib.Omega.{arith}
use mathlib.Core.Bool.{not}
use mathlib.Core.List.{List, [], ◌∷◌}
use mathlib.Core.Path.{◌≡◌, refl, ap, ◌∙◌}
use lib.Dec.{T}
use lib.ListN.{set}
use Rattle.definitions.specs.Bounds.{last_move}
use Rattle.definitions.specs.Codes.{go, call_shared, call_exclusive}
use Rattle.definitions.specs.Moves.{ask, Effect, quietly, go_effect, effect, target_fits, must_wait}
use Rattle.definitions.specs.Nodes.{nodes_of, arrows}
use Rattle.definitions.specs.Phases.{rows, node_of, has_move}
use Rattle.definitions.specs.Sound.{sound}
use Rattle.definitions.specs.Table.{Table, Write, mutex≔, phase≔, busy≔, update, applied}
use Rattle.definitions.specs.Threads.{every, among}
use Rattle.basics.proofs.Cases.{or_at, none_of}
use Rattle.basics.proofs.Columns.{update_same}
use Rattle.theory.proofs.Figure1.{arrow_at}
use Rattle.arrows.proofs.Taking.{CanAt, at_most}
use Rattle.arrows.proofs.OneRequest.{makes, stands, along, nodes-changed, go_first, go_along, BeginsIn, enabled_in, enabled_at}

module _ (s : Table) (g : T (sound s)) (i : ℕ) where
  -- a call, from phase 0
  called : (k mv v : ℕ) → mv ≤ last_move → T (target_fits s.threads mv 0) → T (has_move mv 0) → T (not (must_wait 0 s.mutex mv))
      → effect s (ask i mv 0) ≡ record { writes = phase≔ i v ∷ []; shows = (arrow_at k).shows } → node_of v ≡ (arrow_at k).to
      → BeginsIn (arrow_at k) (0 ∷ []) → CanAt 1 s i k
  called k mv v fits names has free effect_is ends only enabled =
      let l = stands s (arrow_at k) i enabled in
      let ws : List Write = phase≔ i v ∷ [] in
      let e : Effect = record { writes = ws; shows = (arrow_at k).shows } in
      along s (arrow_at k) i mv 0 e enabled (makes s g i l mv 0 0 e fits names (enabled_at s g (arrow_at k) i enabled 0 only) has free effect_is) refl
      (nodes-changed s ws g i l v refl ∙ ap (set (nodes_of s) i) ends)

  -- Free to ES
  pub call_shared_lem : CanAt 1 s i 0
  unfolding effect rows among arrows every
  call_shared_lem = called 0 call_shared 1 (omega arith) tt tt tt refl refl tt

  -- Free to EE
  pub call_exclusive_lem : CanAt 1 s i 5
  unfolding effect rows among arrows every
  call_exclusive_lem = called 5 call_exclusive 9 (omega arith) tt tt tt refl refl tt

  -- one go from the only phase of a node
  gone : (k p v : ℕ) → T (has_move go p) → T (not (must_wait p s.mutex go)) → (s.phase i ≡ p → go_effect s i ≡ record { writes = phase≔ i v ∷ []; shows = (arrow_at k).shows })
      → node_of v ≡ (arrow_at k).to → BeginsIn (arrow_at k) (p ∷ []) → CanAt 1 s i k
  gone k p v has free effect_is ends only enabled =
      let at = enabled_at s g (arrow_at k) i enabled p only in
      go_along s g (arrow_at k) i enabled p v (phase≔ i v ∷ []) at has free (effect_is at) refl ends

  -- LOE to Shared
  pub enter-shared : CanAt 1 s i 2
  unfolding go_effect rows among arrows every
  enter-shared = gone 2 5 6 tt tt (λ e. rw e) refl tt

  -- Shared to LS
  pub leave_shared : CanAt 1 s i 3
  unfolding go_effect rows among arrows every
  leave_shared = gone 3 6 7 tt tt (λ e. rw e) refl tt

  -- LOS to Exclusive
  pub enter-exclusive : CanAt 1 s i 8
  unfolding go_effect rows among arrows every
  enter-exclusive = gone 8 13 14 tt tt (λ e. rw e) refl tt

  -- Exclusive to LE
  pub leave_exclusive : CanAt 1 s i 9
  unfolding go_effect rows among arrows every
  leave_exclusive = gone 9 14 15 tt tt (λ e. rw e) refl tt

  -- a node of two phases: one go from the second, which leads to Free, or two from the first
  gone_by_two : (k p q : ℕ) (w : Write) → T (has_move go p) → T (has_move go q) → ((m : ℕ) → T (not (must_wait p m go)) × T (not (must_wait q m go)))
      → (s.phase i ≡ p → go_effect s i ≡ quietly (phase≔ i q ∷ w ∷ [])) → (applied s (phase≔ i q ∷ w ∷ [])).phase ≡ update s.phase i q
      → ((t : Table) → t.phase i ≡ q → go_effect t i ≡ record { writes = phase≔ i 0 ∷ []; shows = (arrow_at k).shows })
      → node_of p ≡ node_of q → node_of 0 ≡ (arrow_at k).to → BeginsIn (arrow_at k) (p ∷ q ∷ []) → CanAt 2 s i k
  gone_by_two k p q w has_p has-q free effect-p written effect-q same ends only enabled =
      or_at (s.phase i) p (q ∷ [])
      (λ e. go_first s g (arrow_at k) i enabled i p q ws (stands s (arrow_at k) i enabled) e has_p (free s.mutex).0 (effect-p e) written same
      (λ g'. second (applied s ws) g' (ap (λ (φ : ℕ → ℕ). φ i) written ∙ update_same s.phase i q i refl)))
      (or_at (s.phase i) q [] (λ e. at_most (omega arith) (second s g e enabled)) (none_of (s.phase i)))
      (enabled_in s g (arrow_at k) i enabled (p ∷ q ∷ []) only)
    where
      ws : List Write
      ws = phase≔ i q ∷ w ∷ []

      second : (t : Table) → T (sound t) → t.phase i ≡ q → CanAt 1 t i k
      second t g' at enabled' = go_along t g' (arrow_at k) i enabled' q 0 (phase≔ i 0 ∷ []) at has-q (free t.mutex).1 (effect-q t at) refl ends

  -- LS to Free
  pub return_shared : CanAt 2 s i 4
  unfolding go_effect rows among arrows every
  return_shared = gone_by_two 4 7 8 (busy≔ i 0) tt tt (λ m. (tt, tt)) (λ e. rw e) refl (λ t e. rw e) refl refl tt

  -- OE to Free
  pub return_exclusive : CanAt 2 s i 11
  unfolding go_effect rows among arrows every
  return_exclusive = gone_by_two 11 16 17 (mutex≔ 0) tt tt (λ m. (tt, tt)) (λ e. rw e) refl (λ t e. rw e) refl refl tt
