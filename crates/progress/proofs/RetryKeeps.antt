-- A retry gets its thread no further: it is quiet, and it keeps every thread in its node (`retry-keeps`). For every table and every request with any numbers. One line for each way.
use Prim.Native.Nat.{ℕ}
use native.Mathlib.Omega.{arith}
use mathlib.Core.Bool.{true, not, ◌||◌}
use mathlib.Core.List.{List, [], ◌∷◌}
use mathlib.Core.Logic.{⊎_elim}
use mathlib.Core.Path.{◌≡◌, refl, sym, subst, ◌∙◌}
use lib.Dec.{T, eqb, eqb→eq}
use Rattle.definitions.specs.Answers.{accepted, quiet, moved}
use Rattle.definitions.specs.Codes.{go}
use Rattle.definitions.specs.Moves.{Effect, none_forbidden_but, effect, is_retry, accepts_in, move_reply, move_table}
use Rattle.definitions.specs.Nodes.{nodes_of}
use Rattle.definitions.specs.Phases.{rows, has_move}
use Rattle.definitions.specs.Table.{Table, applied, table_of, byte_table}
use Rattle.definitions.specs.Threads.{among}
use Rattle.definitions.specs.declared.Request.{Request}
use Rattle.basics.proofs.Cases.{or_at, none_of}
use Rattle.basics.proofs.Quantifiers.{every_at}
use Rattle.basics.proofs.Tests.{T_true, no_both, or_e}
use Rattle.theory.proofs.Bytes.{byte_keeps}
use Rattle.theory.proofs.Figure1.{stays}
use Rattle.theory.proofs.SoundChanges.{in_phase_lem}
use Rattle.theory.proofs.Soundness.{Sound, sound_e}
use Rattle.theory.proofs.Storages.{accepts_e, accepted-reply, accepted-table}
use Rattle.theory.proofs.Ways.{Accepted, accepted_e, Way, way}
use Rattle.theory.proofs.Ways.{call_shared_lem, raise_busy, find_open, find-forbidden, back_off, try_again, hold-mutex, give_back, enter-shared, leave_shared, lower_busy, return_shared}
use Rattle.theory.proofs.Ways.{call_exclusive_lem, take-mutex, set-flag, find-busy, last-flag, next-flag, relents, give_up, enter-exclusive, leave_exclusive}
use Rattle.theory.proofs.Ways.{set_again, clear_flag, clear_last, release_mutex, return_exclusive}
use Rattle.progress.proofs.MoveKinds.{Advances, by-go, in_11, in_15}

-- it is quiet and keeps all nodes
abbrev Keeps : Table → Effect → Type 0
Keeps s x = (nodes_of (applied s x.writes) ≡ nodes_of s) × (x.shows ≡ quiet)

-- a retry of thread i, accepted by a sound table
module _ (s : Table) (z : Sound s) (r : Request) (a : Accepted s r) (again : T (is_retry s r)) where
  abbrev i : ℕ
  i = r.thread

  -- it isn't a request that is no retry
  not_one : {A : Type 0} → Advances s r → A
  not_one b = absurd (no_both (is_retry s r) again b.1)

  other : {A : Type 0} (p : ℕ) → s.phase i ≡ p → (T (has_move r.mv p) → T (among r.mv (go ∷ []))) → T (not (eqb p 4)) → T (not (eqb p 11)) → A
  other p e only not_4 not-11 = not_one (by-go s r a.has_move_lem p e only not_4 not-11)

  -- a call isn't one
  no_call : s.phase i ≡ 0 → ⊥
  unfolding rows is_retry
  no_call e = or_at r.mv 1 _ called (or_at r.mv 2 _ called' (none_of r.mv)) (subst (λ (p : ℕ). T (has_move r.mv p)) e a.has_move_lem)
    where
      called : r.mv ≡ 1 → ⊥
      called m = rw m at again

      called' : r.mv ≡ 2 → ⊥
      called' m = rw m at again

  -- the last clear finds the flag 1
  last_clear : {A : Type 0} → s.phase i ≡ 15 → T (none_forbidden_but r.target s) → (s.forbidden r.target ≡ 1 → Advances s r) → A
  unfolding rows
  last_clear e none advances =
      let (j, k, f) = z.some-forbidden i a.thread-fits (in_phase_lem s z i a.thread-fits 15 e tt 15 15 tt) in
      ⊎_elim
      (λ u. not_one (advances (subst (λ (x : ℕ). s.forbidden x ≡ 1) (eqb→eq j r.target u) f)))
      (λ u. let c = eqb→eq (s.forbidden j) 0 u in absurd (omega arith))
      (or_e (eqb j r.target) (eqb (s.forbidden j) 0) (every_at (λ x. eqb x r.target || eqb (s.forbidden x) 0) s.threads none j k))

  kept : {x : Effect} → Way s i r.mv r.target x → x ≡ effect s r → Keeps s x
  unfolding rows nodes_of
  kept (call_shared_lem e) q = absurd (no_call e)
  kept (call_exclusive_lem e) q = absurd (no_call e)
  kept (raise_busy e) q = other 1 e (λ u. u) tt tt
  kept (find_open e f) q = other 2 e (λ u. u) tt tt
  kept (find-forbidden e f) q = other 2 e (λ u. u) tt tt
  kept (back_off e) q = other 3 e (λ u. u) tt tt
  kept (try_again e) q = (stays s z i a.thread-fits 4 1 e refl, refl)
  kept (hold-mutex m e f) q = (stays s z i a.thread-fits 4 18 e refl, refl)
  kept (give_back m e) q = other 18 e (λ u. u) tt tt
  kept (enter-shared e) q = other 5 e (λ u. u) tt tt
  kept (leave_shared e) q = other 6 e (λ u. u) tt tt
  kept (lower_busy e) q = other 7 e (λ u. u) tt tt
  kept (return_shared e) q = other 8 e (λ u. u) tt tt
  kept (take-mutex m e f) q = other 9 e (λ u. u) tt tt
  kept (find-busy e f) q = (stays s z i a.thread-fits 11 12 e refl, refl)
  kept (relents e) q = (stays s z i a.thread-fits 11 12 e refl, refl)
  kept (last-flag e f all) q = ⊎_elim (λ b. not_one b.0) (λ b. absurd (omega (arith, b.1))) (in_11 s r a.has_move_lem e _ q)
  kept (next-flag e f some) q = ⊎_elim (λ b. not_one b.0) (λ b. absurd (omega (arith, b.1))) (in_11 s r a.has_move_lem e _ q)
  kept (give_up e) q = other 12 e (λ u. u) tt tt
  kept (enter-exclusive e) q = other 13 e (λ u. u) tt tt
  kept (leave_exclusive e) q = other 14 e (λ u. u) tt tt
  kept (release_mutex m e) q = other 16 e (λ u. u) tt tt
  kept (return_exclusive e) q = other 17 e (λ u. u) tt tt
  kept (set-flag e l) q = (stays s z i a.thread-fits 10 11 e refl, refl)
  kept (set_again e l) q = (refl, refl)
  kept (clear_last e l none) q = ⊎_elim (λ b. last_clear e none b.1) (λ b. absurd (omega (arith, b.0))) (in_15 s r a.has_move_lem e 0 _ q)
  kept (clear_flag e l some) q = (refl, refl)

-- on bytes: it answers quiet, and that it was a retry
pub retry-keeps : (table : List ℕ) (r : Request) → T (accepts_in byte_table table r) → T (is_retry (table_of table) r)
    → (move_reply table r ≡ accepted (moved quiet true)) × (nodes_of (table_of (move_table table r)) ≡ nodes_of (table_of table))
retry-keeps table r t again =
    let s = table_of table in
    let a = accepted_e s r (accepts_e byte_table table r t).1 in
    let k = kept s (sound_e s a.is_sound) r a again (way s r a) refl in (
      accepted-reply byte_table table r t ∙ (λ j. accepted (moved (k.1 j) (T_true (is_retry s r) again j))),
      subst (λ (x : Table). nodes_of x ≡ nodes_of s) (sym (accepted-table byte_table byte_keeps table r t)) k.0,
    )
