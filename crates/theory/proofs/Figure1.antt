-- The theorem on Figure 1, on bytes and with the nodes that the `nodes` entry writes.
-- Every accepted move keeps all nodes and is quiet, or takes the mover along one of the twelve arrows, its guard met on the nodes before, and answers the arrow's event.
-- For every table and every request with any numbers.
use Prim.Native.Nat.{ℕ, zero, suc, ◌<◌}
use native.Mathlib.Nat.{not-suc-le-zero}
use native.Mathlib.Omega.{arith}
use mathlib.Core.Bool.{Bool, not}
use mathlib.Core.List.{List, [], ◌∷◌, Memᴰ}
use mathlib.Core.Logic.{◌⊎◌, inl, inr}
use mathlib.Core.Path.{◌≡◌, refl, sym, subst, ap, ◌∙◌}
use lib.Dec.{T, eqb, eqb→eq}
use lib.ListN.{length, get_or, set}
use Rattle.definitions.specs.Answers.{quiet}
use Rattle.definitions.specs.Bounds.{last_phase}
use Rattle.definitions.specs.Codes.{LOE, Shared, SAF, LOS, Exclusive, LE}
use Rattle.definitions.specs.Moves.{Effect, all_forbidden, effect, accepts, accepts_in}
use Rattle.definitions.specs.Nodes.{nodes_of, Arrow, arrows, Figure1}
use Rattle.definitions.specs.Phases.{rows, node_of, holds, reading}
use Rattle.definitions.specs.Table.{Table, update, applied, table_of, byte_table}
use Rattle.definitions.specs.Threads.{every, list_of, among, between, implies}
use Rattle.definitions.specs.declared.Request.{Request}
use Rattle.theory.specs.Statements.{OutsideView}
use Rattle.theory.proofs.Bytes.{byte_keeps}
use Rattle.basics.proofs.Lists.{length-list_of, get_d_list_of, list_of-same, list_of-set}
use Rattle.theory.proofs.AnyNode.{any_in-list_of}
use Rattle.basics.proofs.Quantifiers.{every_at}
use Rattle.theory.proofs.SoundSteps.{settled}
use Rattle.theory.proofs.Soundness.{All, Sound, sound_e}
use Rattle.theory.proofs.Storages.{accepts_e, accepted-reply, accepted-table}
use Rattle.basics.proofs.Tests.{not_i, implies_e, same?}
use Rattle.theory.proofs.Ways.{Way, way, accepted_e}
use Rattle.theory.proofs.Ways.{call_shared_lem, raise_busy, find_open, find-forbidden, back_off, try_again, hold-mutex, give_back, enter-shared, leave_shared, lower_busy, return_shared}
use Rattle.theory.proofs.Ways.{call_exclusive_lem, take-mutex, set-flag, find-busy, last-flag, next-flag, relents, give_up, enter-exclusive, leave_exclusive}
use Rattle.theory.proofs.Ways.{set_again, clear_flag, clear_last, release_mutex, return_exclusive}
use Rattle.basics.proofs.Columns.{update_same, update_other}

-- ---- the arrows by their place in the list

member_at {ℓ} : {A : Type ℓ} (l : List A) (k : ℕ) (d : A) → k < length l → Memᴰ (get_or l k d) l
member_at [] k d h = absurd (not-suc-le-zero h)
member_at (x ∷ xs) zero d h = Memᴰ.head refl
member_at (x ∷ xs) (suc k) d h = Memᴰ.tail (member_at xs k d (omega arith))

abbrev pub arrow_at : ℕ → Arrow
arrow_at k = get_or arrows k (record { from = 0; to = 0; shows = quiet; nobody_in = [] })

module _ (s : Table) (z : Sound s) (i : ℕ) (l : i < s.threads) where
  -- the nodes after thread i went to phase v
  abbrev nodes_with : ℕ → List ℕ
  nodes_with v = list_of s.threads (λ j. node_of (update s.phase i v j))

  pub nodes-set : (v : ℕ) → nodes_with v ≡ set (nodes_of s) i (node_of v)
  unfolding nodes_of
  nodes-set v =
      list_of-set s.threads (λ j. node_of (s.phase j)) (λ j. node_of (update s.phase i v j)) i l (λ j h. ap node_of (update_other s.phase i v j h))
      ∙ ap (λ (x : ℕ). set (list_of s.threads (λ j. node_of (s.phase j))) i (node_of x)) (update_same s.phase i v i refl)

  -- it stays in its node
  pub stays : (p v : ℕ) → s.phase i ≡ p → node_of p ≡ node_of v → nodes_with v ≡ nodes_of s
  unfolding nodes_of
  stays p v e same = list_of-same s.threads (λ j. node_of (update s.phase i v j)) (λ j. node_of (s.phase j)) (λ j k. by j (same? j i))
    where
      by : (j : ℕ) → (j ≡ i) ⊎ (j ≡ i → ⊥) → node_of (update s.phase i v j) ≡ node_of (s.phase j)
      by j (inl q) = ap node_of (update_same s.phase i v j q) ∙ (sym same ∙ ap node_of (sym (ap s.phase q ∙ e)))
      by j (inr h) = ap node_of (update_other s.phase i v j h)

  -- it takes the arrow at place k
  takes : (k p v : ℕ) → k < length arrows → s.phase i ≡ p → node_of p ≡ (arrow_at k).from → node_of v ≡ (arrow_at k).to
      → All s (λ j. T (not (among (node_of (s.phase j)) (arrow_at k).nobody_in)))
      → Figure1 (nodes_of s) i (arrow_at k).shows (nodes_with v)
  unfolding nodes_of
  takes k p v fits e begins ends guard =
      inr (
        arrow_at k,
        member_at arrows k _ fits,
        record {
          there = subst (λ (m : ℕ). i < m) (sym (length-list_of s.threads (λ j. node_of (s.phase j)))) l;
          begins = get_d_list_of s.threads (λ j. node_of (s.phase j)) i 0 l ∙ (ap node_of e ∙ begins);
          guard = any_in-list_of (arrow_at k).nobody_in s.threads (λ j. node_of (s.phase j)) guard;
          ends = nodes-set v ∙ ap (set (nodes_of s) i) ends;
          shows = refl;
        },
      )

  -- ---- the guards

  -- nobody is in the phases of which f holds, and those of a list of nodes are among them, by trying every phase
  nobody : (wanted : List ℕ) (f : ℕ → Bool) → T (every (suc last_phase) (λ q. implies (among (node_of q) wanted) (f q)))
      → All s (λ j. T (f (s.phase j)) → ⊥) → All s (λ j. T (not (among (node_of (s.phase j)) wanted)))
  nobody wanted f t none j k =
      not_i (among (node_of (s.phase j)) wanted)
      (λ u. none j k
      (implies_e (among (node_of (s.phase j)) wanted) (f (s.phase j))
      (every_at (λ q. implies (among (node_of q) wanted) (f q)) (suc last_phase) t (s.phase j) (let h = z.phases j k in omega arith)) u))

  -- ES to LOE: forbidden is 0, so nobody is in 13 or 14
  open_guard : s.forbidden i ≡ 0 → All s (λ j. T (not (among (node_of (s.phase j)) (LOS ∷ Exclusive ∷ []))))
  unfolding every among rows
  open_guard f = nobody (LOS ∷ Exclusive ∷ []) (between 13 14) tt (λ j k u. let o = z.all-forbidden j k u i l in omega arith)

  -- EE to SAF: the mutex is free, so nobody holds it
  mutex-guard : (s.mutex ≡ 1 → ⊥) → All s (λ j. T (not (among (node_of (s.phase j)) (SAF ∷ LOS ∷ Exclusive ∷ LE ∷ []))))
  unfolding every among rows
  mutex-guard f = nobody (SAF ∷ LOS ∷ Exclusive ∷ LE ∷ []) holds tt (λ j k u. f (z.held j k u))

  -- SAF to LOS: every forbidden is 1 and the target isn't busy, so nobody is in 5 to 7
  last-guard : s.phase i ≡ 11 → (s.busy s.target ≡ 1 → ⊥) → T (all_forbidden s) → All s (λ j. T (not (among (node_of (s.phase j)) (LOE ∷ Shared ∷ []))))
  unfolding every among rows
  last-guard e idle a =
      nobody (LOE ∷ Shared ∷ []) reading tt
      (λ j k u. settled s z i l e idle j k (eqb→eq (s.forbidden j) 1 (every_at (λ x. eqb (s.forbidden x) 1) s.threads a j k)) u)

  -- ---- the ways

  figure_way : (mv t : ℕ) {x : Effect} → Way s i mv t x → Figure1 (nodes_of s) i x.shows (nodes_of (applied s x.writes))
  unfolding nodes_of rows arrows among
  figure_way mv t (call_shared_lem e) = takes 0 _ _ (omega arith) e refl refl (λ j k. tt)
  figure_way mv t (call_exclusive_lem e) = takes 5 _ _ (omega arith) e refl refl (λ j k. tt)
  figure_way mv t (raise_busy e) = inl (stays _ _ e refl, refl)
  figure_way mv t (find_open e f) = takes 1 _ _ (omega arith) e refl refl (open_guard f)
  figure_way mv t (find-forbidden e f) = inl (stays _ _ e refl, refl)
  figure_way mv t (back_off e) = inl (stays _ _ e refl, refl)
  figure_way mv t (try_again e) = inl (stays _ _ e refl, refl)
  figure_way mv t (hold-mutex m e f) = inl (stays _ _ e refl, refl)
  figure_way mv t (give_back m e) = inl (stays _ _ e refl, refl)
  figure_way mv t (enter-shared e) = takes 2 _ _ (omega arith) e refl refl (λ j k. tt)
  figure_way mv t (leave_shared e) = takes 3 _ _ (omega arith) e refl refl (λ j k. tt)
  figure_way mv t (lower_busy e) = inl (stays _ _ e refl, refl)
  figure_way mv t (return_shared e) = takes 4 _ _ (omega arith) e refl refl (λ j k. tt)
  figure_way mv t (take-mutex m e f) = takes 6 _ _ (omega arith) e refl refl (mutex-guard f)
  figure_way mv t (find-busy e f) = inl (stays _ _ e refl, refl)
  figure_way mv t (last-flag e f a) = takes 7 _ _ (omega arith) e refl refl (last-guard e f a)
  figure_way mv t (next-flag e f a) = inl (stays _ _ e refl, refl)
  figure_way mv t (give_up e) = inl (stays _ _ e refl, refl)
  figure_way mv t (enter-exclusive e) = takes 8 _ _ (omega arith) e refl refl (λ j k. tt)
  figure_way mv t (leave_exclusive e) = takes 9 _ _ (omega arith) e refl refl (λ j k. tt)
  figure_way mv t (release_mutex m e) = inl (stays _ _ e refl, refl)
  figure_way mv t (return_exclusive e) = takes 11 _ _ (omega arith) e refl refl (λ j k. tt)
  figure_way mv t (set-flag e f) = inl (stays _ _ e refl, refl)
  figure_way mv t (set_again e f) = inl (refl, refl)
  figure_way mv t (clear_last e f a) = takes 10 _ _ (omega arith) e refl refl (λ j k. tt)
  figure_way mv t (clear_flag e f a) = inl (refl, refl)
  figure_way mv t (relents e) = inl (stays _ _ e refl, refl)

-- ---- the theorem

-- on the record
pub figure_on : (s : Table) (r : Request) → T (accepts s r) → Figure1 (nodes_of s) r.thread (effect s r).shows (nodes_of (applied s (effect s r).writes))
figure_on s r t = let a = accepted_e s r t in figure_way s (sound_e s a.is_sound) r.thread a.thread-fits r.mv r.target (way s r a)

pub figure_1 : (bytes : List ℕ) (r : Request) → T (accepts_in byte_table bytes r) → OutsideView bytes r
figure_1 bytes r t =
    let a = accepts_e byte_table bytes r t in
    let s = table_of bytes in
    record {
      seen = (effect s r).shows;
      reply = accepted-reply byte_table bytes r t;
      moves = subst (λ (x : Table). Figure1 (nodes_of s) r.thread (effect s r).shows (nodes_of x)) (sym (accepted-table byte_table byte_keeps bytes r t)) (figure_on s r a.1);
    }
