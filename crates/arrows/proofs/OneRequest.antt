-- One request on the way to an arrow, and the table that it leaves. `makes` and `goes`: a request that passes its tests is accepted and has a given effect.
-- `first`: where a request of any thread keeps all nodes, an arrow can be taken if it can be from the table that is left. `along`: where the thread's own request takes it along, it can.
-- `go_first` and `go_along` are these two for the move go. What the nodes say of the threads and their phases: `stands`, `enabled_in`, `enabled_at`, `nobody_in_lem`.
use Prim.Native.Nat.{ℕ, suc, ◌≤◌, ◌<◌}
use native.Mathlib.Omega.{arith}
use mathlib.Core.Bool.{Bool, not}
use mathlib.Core.List.{List, [], ◌∷◌}
use mathlib.Core.Path.{◌≡◌, refl, sym, subst, ap, ◌∙◌}
use lib.Dec.{T, eqb}
use lib.ListN.{set}
use Rattle.definitions.specs.Bounds.{last_phase, last_move}
use Rattle.definitions.specs.Codes.{go}
use Rattle.definitions.specs.Moves.{ask, Effect, quietly, go_effect, effect, target_fits, must_wait, accepts}
use Rattle.definitions.specs.Nodes.{nodes_of, Arrow, Taken}
use Rattle.definitions.specs.Phases.{node_of, has_move}
use Rattle.definitions.specs.Sound.{sound}
use Rattle.definitions.specs.Table.{Table, Write, update, applied}
use Rattle.definitions.specs.Threads.{every, list_of, among, implies}
use Rattle.definitions.specs.declared.Request.{Request}
use Rattle.basics.proofs.Cases.{or_at, none_of}
use Rattle.basics.proofs.Lists.{length-list_of, get_d_list_of}
use Rattle.basics.proofs.Quantifiers.{every_at}
use Rattle.basics.proofs.Tests.{implies_e, eq_T, no_both}
use Rattle.theory.proofs.Figure1.{nodes-set, stays}
use Rattle.theory.proofs.AnyNode.{nobody_list_of}
use Rattle.theory.proofs.SoundSteps.{kept-sound}
use Rattle.theory.proofs.Soundness.{All, sound_e}
use Rattle.theory.proofs.Ways.{accepted_i}
use Rattle.theory.proofs.Writes.{applied-keeps}
use Rattle.arrows.specs.Arrows.{Enabled}
use Rattle.arrows.proofs.Taking.{Can, at_once, after_one}

-- ---- a request by its effect

-- request r is accepted at table s, and e is its effect
pub record Makes (s : Table) (r : Request) (e : Effect) : Type 0 where
  pub is_accepted_lem : T (accepts s r)
  pub has_effect : effect s r ≡ e

module _ (s : Table) (g : T (sound s)) (h : ℕ) (l : h < s.threads) where
  -- of thread h in phase p, by its move and target
  pub makes : (mv t p : ℕ) (e : Effect) → mv ≤ last_move → T (target_fits s.threads mv t) → s.phase h ≡ p → T (has_move mv p) → T (not (must_wait p s.mutex mv)) → effect s (ask h mv t) ≡ e
      → Makes s (ask h mv t) e
  makes mv t p e fits names at has free to =
      record {
        is_accepted_lem = accepted_i s (ask h mv t)
            record {
              is_sound = g;
              thread-fits = l;
              move-fits = fits;
              target_fits_lem = names;
              has_move_lem = subst (λ (x : ℕ). T (has_move mv x)) (sym at) has;
              may_go_lem = subst (λ (x : ℕ). T (not (must_wait x s.mutex mv))) (sym at) free;
            };
        has_effect = to;
      }

  -- go in phase p
  pub goes : (p : ℕ) (e : Effect) → s.phase h ≡ p → T (has_move go p) → T (not (must_wait p s.mutex go)) → go_effect s h ≡ e → Makes s (ask h go 0) e
  unfolding effect
  goes p e at has free to = makes go 0 p e (omega arith) tt at has free to

-- the table that it leaves is sound
pub makes-sound : {s : Table} {r : Request} {e : Effect} → Makes s r e → T (sound (applied s e.writes))
makes-sound {s} {r} {e} m = subst (λ (x : Effect). T (sound (applied s x.writes))) m.has_effect (kept-sound s r m.is_accepted_lem)

-- ---- what it does for the arrow

-- a thread for which an arrow's condition holds is one of the table's
pub stands : (s : Table) (a : Arrow) (i : ℕ) → Enabled (nodes_of s) a i → i < s.threads
unfolding nodes_of
stands s a i enabled = omega (arith, length-list_of s.threads (λ j. node_of (s.phase j)), enabled.there)

module _ (s : Table) (a : Arrow) (i : ℕ) where
  -- the last request, which is the thread's own and takes it along
  pub along : (mv t : ℕ) (e : Effect) → Enabled (nodes_of s) a i → Makes s (ask i mv t) e → e.shows ≡ a.shows → nodes_of (applied s e.writes) ≡ set (nodes_of s) i a.to → Can 1 s a i
  along mv t e enabled m shows ends =
      at_once s a i (ask i mv t) refl m.is_accepted_lem
      (subst (λ (x : Effect). Taken a (nodes_of s) i x.shows (nodes_of (applied s x.writes))) (sym m.has_effect)
      record { there = enabled.there; begins = enabled.begins; guard = enabled.guard; ends = ends; shows = shows })

  -- a request of any thread, which keeps all nodes, then what is done from the table that it leaves
  pub first : {b : ℕ} (r : Request) (e : Effect) → Enabled (nodes_of s) a i → Makes s r e → nodes_of (applied s e.writes) ≡ nodes_of s
      → (T (sound (applied s e.writes)) → Enabled (nodes_of (applied s e.writes)) a i → Can b (applied s e.writes) a i) → Can (suc b) s a i
  first {b} r e enabled m same rest =
      after_one s a i r m.is_accepted_lem (subst (λ (x : Effect). nodes_of (applied s x.writes) ≡ nodes_of s) (sym m.has_effect) same)
      (subst (λ (x : Effect). Can b (applied s x.writes) a i) (sym m.has_effect)
      (rest (makes-sound m) (subst (λ (x : List ℕ). Enabled x a i) (sym same) enabled)))

-- ---- nodes after a request, by what it does to the phases

module _ (s : Table) (ws : List Write) where
  -- φ is the phases then
  nodes-by : (φ : ℕ → ℕ) → (applied s ws).phase ≡ φ → nodes_of (applied s ws) ≡ list_of s.threads (λ j. node_of (φ j))
  unfolding nodes_of
  nodes-by φ e = ap (λ (n : ℕ). list_of n (λ j. node_of ((applied s ws).phase j))) (applied-keeps s ws) ∙ ap (λ (ψ : ℕ → ℕ). list_of s.threads (λ j. node_of (ψ j))) e

  -- it writes no phase
  pub same_nodes : (applied s ws).phase ≡ s.phase → nodes_of (applied s ws) ≡ nodes_of s
  unfolding nodes_of
  same_nodes = nodes-by s.phase

  -- it leads thread h to phase v
  module _ (g : T (sound s)) (h : ℕ) (l : h < s.threads) (v : ℕ) (to : (applied s ws).phase ≡ update s.phase h v) where
    -- a phase of the same node
    pub nodes-kept : (p : ℕ) → s.phase h ≡ p → node_of p ≡ node_of v → nodes_of (applied s ws) ≡ nodes_of s
    nodes-kept p at same = nodes-by (update s.phase h v) to ∙ stays s (sound_e s g) h l p v at same

    -- or of another
    pub nodes-changed : nodes_of (applied s ws) ≡ set (nodes_of s) h (node_of v)
    nodes-changed = nodes-by (update s.phase h v) to ∙ nodes-set s (sound_e s g) h l v

module _ (s : Table) (g : T (sound s)) (a : Arrow) (i : ℕ) (enabled : Enabled (nodes_of s) a i) where
  -- thread h goes from phase p to v, which keeps its node
  pub go_first : {b : ℕ} (h p v : ℕ) (ws : List Write) → h < s.threads → s.phase h ≡ p → T (has_move go p) → T (not (must_wait p s.mutex go)) → go_effect s h ≡ quietly ws
      → (applied s ws).phase ≡ update s.phase h v → node_of p ≡ node_of v → (T (sound (applied s ws)) → Enabled (nodes_of (applied s ws)) a i → Can b (applied s ws) a i) → Can (suc b) s a i
  go_first h p v ws l at has free effect_is to same =
      first s a i (ask h go 0) (quietly ws) enabled (goes s g h l p (quietly ws) at has free effect_is) (nodes-kept s ws g h l v to p at same)

  -- thread i itself goes from phase p to v, along the arrow
  pub go_along : (p v : ℕ) (ws : List Write) → s.phase i ≡ p → T (has_move go p) → T (not (must_wait p s.mutex go)) → go_effect s i ≡ record { writes = ws; shows = a.shows }
      → (applied s ws).phase ≡ update s.phase i v → node_of v ≡ a.to → Can 1 s a i
  go_along p v ws at has free effect_is to ends =
      let l = stands s a i enabled in
      let e : Effect = record { writes = ws; shows = a.shows } in
      along s a i go 0 e enabled (goes s g i l p e at has free effect_is) refl (nodes-changed s ws g i l v to ∙ ap (set (nodes_of s) i) ends)

-- ---- phases by nodes

-- the node where an arrow begins has no other phases than these, by trying every phase
abbrev pub BeginsIn : Arrow → List ℕ → Type 0
BeginsIn a phases = T (every (suc last_phase) (λ q. implies (eqb (node_of q) a.from) (among q phases)))

-- the phases of which f holds are of nodes in which the arrow's guard wants nobody
abbrev pub BarredBy : Arrow → (ℕ → Bool) → Type 0
BarredBy a f = T (every (suc last_phase) (λ q. implies (f q) (among (node_of q) a.nobody_in)))

module _ (s : Table) (g : T (sound s)) (a : Arrow) (i : ℕ) (enabled : Enabled (nodes_of s) a i) where
  -- the thread is in one of the phases of the node where the arrow begins
  pub enabled_in : (phases : List ℕ) → BeginsIn a phases → T (among (s.phase i) phases)
  unfolding nodes_of
  enabled_in phases t =
      let l = stands s a i enabled in
      implies_e (eqb (node_of (s.phase i)) a.from) (among (s.phase i) phases)
      (every_at (λ q. implies (eqb (node_of q) a.from) (among q phases)) (suc last_phase) t (s.phase i) (let h = (sound_e s g).phases i l in omega arith))
      (eq_T (node_of (s.phase i)) a.from (sym (get_d_list_of s.threads (λ j. node_of (s.phase j)) i 0 l) ∙ enabled.begins))

  -- if they are one phase
  pub enabled_at : (p : ℕ) → BeginsIn a (p ∷ []) → s.phase i ≡ p
  enabled_at p t = or_at (s.phase i) p [] (λ e. e) (none_of (s.phase i)) (enabled_in (p ∷ []) t)

  -- nobody is in phases that the arrow's guard bars
  pub nobody_in_lem : (f : ℕ → Bool) → BarredBy a f → All s (λ j. T (f (s.phase j)) → ⊥)
  unfolding nodes_of
  nobody_in_lem f t j k u =
      no_both (among (node_of (s.phase j)) a.nobody_in)
      (implies_e (f (s.phase j)) (among (node_of (s.phase j)) a.nobody_in)
      (every_at (λ q. implies (f q) (among (node_of q) a.nobody_in)) (suc last_phase) t (s.phase j) (let h = (sound_e s g).phases j k in omega arith)) u)
      (nobody_list_of a.nobody_in s.threads (λ x. node_of (s.phase x)) enabled.guard j k)
