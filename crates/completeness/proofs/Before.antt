-- A step back from a sound table: the table before it, and the request that leads from there to it (`Before`). Here for a thread whose own last move can be undone without a look at the
-- others (`outside_back`): 4 from 3, 3 from 2 where its forbidden is 1, 2 from 1, 1 from 0, 9 from 0, 7 from 6, 6 from 5, 5 from 2 and 8 from 7 where its forbidden is 0.
use Prim.Native.Nat.{ℕ, suc, ◌≤◌, ◌<◌}
use native.Mathlib.Omega.{arith}
use mathlib.Core.Bool.{Bool, true, false, cond, not, ◌&&◌, ◌||◌}
use mathlib.Core.List.{List, [], ◌∷◌}
use mathlib.Core.Logic.{◌⊎◌, inl, inr, ⊎_elim}
use mathlib.Core.Path.{◌≡◌, refl, sym, subst, ◌∙◌}
use lib.Dec.{T, eqb, eqb→eq}
use Rattle.definitions.specs.Bounds.{last_phase, last_move}
use Rattle.definitions.specs.Chains.{pair_seen}
use Rattle.definitions.specs.Codes.{go, call_shared, call_exclusive}
use Rattle.definitions.specs.Moves.{ask, Effect, quietly, showing, go_effect, effect, target_fits, must_wait}
use Rattle.definitions.specs.Phases.{rows, busy_in, holds, reading, has_move}
use Rattle.definitions.specs.PlainLock.{Pair}
use Rattle.definitions.specs.Sound.{sound, backed_off}
use Rattle.definitions.specs.Table.{Table, Write, phase≔, busy≔, applied}
use Rattle.definitions.specs.Threads.{among, between}
use Rattle.definitions.specs.declared.Request.{Request}
use Rattle.theory.specs.Tables.{WritesFit}
use Rattle.basics.proofs.Cases.{or_at, none_of}
use Rattle.basics.proofs.Columns.{update-kept, update_twice, update_same}
use Rattle.basics.proofs.Tests.{and_l, and_r, or_e}
use Rattle.theory.proofs.Chains.{Leads, arrives, makes}
use Rattle.theory.proofs.SoundChanges.{busy-moves, busy_at_lem, other_elsewhere}
use Rattle.theory.proofs.Soundness.{Sound}
use Rattle.theory.proofs.Writes.{same-table}
use Rattle.completeness.proofs.Rank.{base, weight, Below, falls_outside}

-- from the table with the writes, which is sound and of a lower number, the request leads to s
pub record Before (s : Table) : Type 0 where
  pub undo : List Write
  pub request : Request
  pub shown : List Pair
  pub fits : WritesFit s.threads undo
  pub is_sound : T (sound (applied s undo))
  pub leads : Leads (applied s undo) (request ∷ []) shown s
  pub falls : (b : ℕ) → Below s (suc b) → Below (applied s undo) b

-- the request of thread i that leads there, by its move and effect
pub step_back : (s : Table) (undo : List Write) (i mv t v : ℕ) (x : Effect) → WritesFit s.threads undo → T (sound (applied s undo))
    → i < (applied s undo).threads → (applied s undo).phase i ≡ v → mv ≤ last_move → T (target_fits (applied s undo).threads mv t) → T (has_move mv v) → T (not (must_wait v (applied s undo).mutex mv))
    → effect (applied s undo) (ask i mv t) ≡ x → applied (applied s undo) x.writes ≡ s → ((b : ℕ) → Below s (suc b) → Below (applied s undo) b) → Before s
step_back s undo i mv t v x fits g l at known target has free to again falls =
    record {
      undo = undo;
      request = ask i mv t;
      shown = pair_seen i x.shows;
      fits = fits;
      is_sound = g;
      leads = arrives
          (makes (applied s undo) i g l mv t x known target (subst (λ (q : ℕ). T (has_move mv q)) (sym at) has)
          (subst (λ (q : ℕ). T (not (must_wait q (applied s undo).mutex mv))) (sym at) free) to)
          again;
      falls = falls;
    }

-- a thread in such a phase, by its forbidden
abbrev pub undoable : ℕ → ℕ → Bool
undoable phase forbidden =
    among phase (1 ∷ 2 ∷ 4 ∷ 6 ∷ 7 ∷ 9 ∷ []) || (eqb phase 3 && eqb forbidden 1 || (eqb phase 5 && eqb forbidden 0 || eqb phase 8 && eqb forbidden 0))

module _ (s : Table) (z : Sound s) (i : ℕ) (l : i < s.threads) where
  -- thread i, in phase p, was in phase v
  module _ (p v : ℕ) (e : s.phase i ≡ p) where
    abbrev earlier : Table
    earlier = applied s (phase≔ i v ∷ busy≔ i (busy_in v) ∷ [])

    -- the move back to p writes its phase, or its busy too
    again_phase : busy_in p ≡ busy_in v → applied earlier (phase≔ i p ∷ []) ≡ s
    again_phase same =
        same-table _ s refl refl refl (update_twice s.phase i v p ∙ update-kept s.phase i p e) (update-kept s.busy i (busy_in v) (busy_at_lem s z i l p e ∙ same)) refl

    again_busy : (b : ℕ) → busy_in p ≡ b → applied earlier (phase≔ i p ∷ busy≔ i b ∷ []) ≡ s
    again_busy b same =
        same-table _ s refl refl refl
        (update_twice s.phase i v p ∙ update-kept s.phase i p e)
        (update_twice s.busy i (busy_in v) b ∙ update-kept s.busy i b (busy_at_lem s z i l p e ∙ same))
        refl

    outside_back : (mv : ℕ) (x : Effect) → mv ≤ last_move → T (target_fits s.threads mv 0) → T (has_move mv v) → T (not (must_wait v s.mutex mv))
        → (earlier.phase i ≡ v → effect earlier (ask i mv 0) ≡ x) → applied earlier x.writes ≡ s
        → T (not (holds p)) → T (not (holds v)) → (T (reading v) → T (reading p) ⊎ (s.forbidden i ≡ 0)) → (T (backed_off v) → T (backed_off p)) → T (not (between 10 17 p)) → v ≤ last_phase
        → weight s.threads v (s.forbidden i) < weight s.threads p (s.forbidden i) → Before s
    outside_back mv x known target has free to again np nv reads back out fit less =
        let at : earlier.phase i ≡ v = update_same s.phase i v i refl in
        step_back s (phase≔ i v ∷ busy≔ i (busy_in v) ∷ []) i mv 0 v x (l, (l, tt))
        (busy-moves s z i l p v (busy_in v) e np nv reads (λ b. other_elsewhere s z i l p e (back b)) fit refl)
        l at known target has free (to at) again (falls_outside s i p v earlier.busy l e nv out back less)

  -- ---- the moves

  abbrev f : ℕ
  f = s.forbidden i

  -- less whichever the forbidden is
  less : (b : Bool) (v w x y : ℕ) → v < x → w < y → cond b v w < cond b x y
  less true v w x y set clear = set
  less false v w x y set clear = clear

  from_3 : s.phase i ≡ 4 → Before s
  unfolding rows among effect go_effect base weight
  from_3 e =
      outside_back 4 3 e go (quietly (phase≔ i 4 ∷ busy≔ i 0 ∷ [])) (omega arith) tt tt tt (λ at. rw at) (again_busy 4 3 e 0 refl)
      tt tt (λ r. absurd r) (λ b. tt) tt (omega arith) (less (eqb f 1) 3 6 4 7 (omega arith) (omega arith))

  from_2 : s.phase i ≡ 3 → f ≡ 1 → Before s
  unfolding rows among effect go_effect base weight
  from_2 e up =
      outside_back 3 2 e go (quietly (phase≔ i 3 ∷ [])) (omega arith) tt tt tt (λ at. rw (at, up)) (again_phase 3 2 e refl)
      tt tt (λ r. absurd r) (λ b. tt) tt (omega arith) (rw up (omega arith))

  from_1 : s.phase i ≡ 2 → Before s
  unfolding rows among effect go_effect base weight
  from_1 e =
      outside_back 2 1 e go (quietly (phase≔ i 2 ∷ busy≔ i 1 ∷ [])) (omega arith) tt tt tt (λ at. rw at) (again_busy 2 1 e 1 refl)
      tt tt (λ r. absurd r) (λ b. absurd b) tt (omega arith) (omega arith)

  from_call : s.phase i ≡ 1 → Before s
  unfolding rows among effect go_effect base weight
  from_call e =
      outside_back 1 0 e call_shared (showing 1 (phase≔ i 1 ∷ [])) (omega arith) tt tt tt (λ at. refl) (again_phase 1 0 e refl)
      tt tt (λ r. absurd r) (λ b. absurd b) tt (omega arith) (omega arith)

  from_call_exclusive : s.phase i ≡ 9 → Before s
  unfolding rows among effect go_effect base weight
  from_call_exclusive e =
      outside_back 9 0 e call_exclusive (showing 5 (phase≔ i 9 ∷ [])) (omega arith) tt tt tt (λ at. refl) (again_phase 9 0 e refl)
      tt tt (λ r. absurd r) (λ b. absurd b) tt (omega arith) (omega arith)

  from_6 : s.phase i ≡ 7 → Before s
  unfolding rows among effect go_effect base weight
  from_6 e =
      outside_back 7 6 e go (showing 3 (phase≔ i 7 ∷ [])) (omega arith) tt tt tt (λ at. rw at) (again_phase 7 6 e refl)
      tt tt (λ r. inl tt) (λ b. absurd b) tt (omega arith) (less (eqb f 1) 7 5 8 6 (omega arith) (omega arith))

  from_5 : s.phase i ≡ 6 → Before s
  unfolding rows among effect go_effect base weight
  from_5 e =
      outside_back 6 5 e go (showing 2 (phase≔ i 6 ∷ [])) (omega arith) tt tt tt (λ at. rw at) (again_phase 6 5 e refl)
      tt tt (λ r. inl tt) (λ b. absurd b) tt (omega arith) (less (eqb f 1) 6 4 7 5 (omega arith) (omega arith))

  from_2_open : s.phase i ≡ 5 → f ≡ 0 → Before s
  unfolding rows among effect go_effect base weight
  from_2_open e down =
      outside_back 5 2 e go (quietly (phase≔ i 5 ∷ [])) (omega arith) tt tt tt (λ at. rw (at, down)) (again_phase 5 2 e refl)
      tt tt (λ r. absurd r) (λ b. absurd b) tt (omega arith) (rw down (omega arith))

  from_7 : s.phase i ≡ 8 → f ≡ 0 → Before s
  unfolding rows among effect go_effect base weight
  from_7 e down =
      outside_back 8 7 e go (quietly (phase≔ i 8 ∷ busy≔ i 0 ∷ [])) (omega arith) tt tt tt (λ at. rw at) (again_busy 8 7 e 0 refl)
      tt tt (λ r. inr down) (λ b. absurd b) tt (omega arith) (rw down (omega arith))

  pub undone : T (undoable (s.phase i) (s.forbidden i)) → Before s
  undone t =
      ⊎_elim own (λ u. ⊎_elim (with_flag 3 1 from_2) (λ v. ⊎_elim (with_flag 5 0 from_2_open) (with_flag 8 0 from_7) (or_e (in_with 5 0) (in_with 8 0) v)) (or_e (in_with 3 1) _ u))
      (or_e (among q (1 ∷ 2 ∷ 4 ∷ 6 ∷ 7 ∷ 9 ∷ [])) _ t)
    where
      q : ℕ
      q = s.phase i

      own : T (among q (1 ∷ 2 ∷ 4 ∷ 6 ∷ 7 ∷ 9 ∷ [])) → Before s
      own = or_at q 1 _ from_call (or_at q 2 _ from_1 (or_at q 4 _ from_3 (or_at q 6 _ from_5 (or_at q 7 _ from_6 (or_at q 9 _ from_call_exclusive (none_of q))))))

      in_with : ℕ → ℕ → Bool
      in_with p v = eqb q p && eqb f v

      with_flag : (p v : ℕ) → (q ≡ p → f ≡ v → Before s) → T (in_with p v) → Before s
      with_flag p v back u = back (eqb→eq q p (and_l (eqb q p) (eqb f v) u)) (eqb→eq f v (and_r (eqb q p) (eqb f v) u))
