-- ES to LOE: where thread p is in ES and nobody in LOS or Exclusive, p can take the arrow to LOE after moves that keep all nodes (`to-shared`).
-- First the holder brings p's forbidden to 0 (`held`): in 10 it sets p's flag, relents and gives the flag up; in 11 it relents and in 12 it gives its flag up, which leads to 10;
-- in 15 it sets its own flag, so that some flag stays 1 and it stays in LE, and clears p's. Where nobody is the holder, or one in 16 or 18, every forbidden is 0.
-- Then p goes to 2, and from there to 5 (`reader`). At most this is 5 moves of a holder that was in 11, 3 of p, which was in 3, and the arrow.
-- Each law of a request goes back: an arrow that can be taken from the table after it can be taken from the one before.
use Prim.Native.Nat.{ℕ, suc, ◌≤◌, ◌<◌}
use native.Mathlib.Omega.{arith}
use mathlib.Core.Bool.{not, ◌||◌}
use mathlib.Core.List.{List, [], ◌∷◌}
use mathlib.Core.Logic.{◌⊎◌, inl, inr, ⊎_elim}
use mathlib.Core.Path.{◌≡◌, refl, sym, subst, ap, ◌∙◌}
use lib.Dec.{T, eqb, lt→ltb, eqb→eq}
use Rattle.definitions.specs.Bounds.{last_move, no_target}
use Rattle.definitions.specs.Codes.{go, set_move, clear_move, relent}
use Rattle.definitions.specs.Moves.{ask, quietly, none_forbidden_but, go_effect, set_effect, clear_effect, effect, target_fits, must_wait}
use Rattle.definitions.specs.Nodes.{nodes_of, Arrow, arrows}
use Rattle.definitions.specs.Phases.{rows, node_of, has_move, holds}
use Rattle.definitions.specs.Sound.{sound, any_holder, opened}
use Rattle.definitions.specs.Table.{Table, Write, mutex≔, target≔, phase≔, busy≔, forbidden≔, update, applied}
use Rattle.definitions.specs.Threads.{every, among, between}
use Rattle.basics.proofs.Cases.{or_at, none_of}
use Rattle.basics.proofs.Quantifiers.{every_at}
use Rattle.basics.proofs.Tests.{decided, or_e, T_false, not_i}
use Rattle.basics.proofs.Columns.{update_same}
use Rattle.theory.proofs.PhaseCases.{is_holder}
use Rattle.theory.proofs.Figure1.{arrow_at}
use Rattle.theory.proofs.Soundness.{All, In, sound_e, some_in, none_in}
use Rattle.arrows.specs.Arrows.{Enabled}
use Rattle.arrows.proofs.OneRequest.{makes, stands, first, same_nodes, nodes-kept, go_first, go_along, enabled_in, nobody_in_lem}
use Rattle.arrows.proofs.Taking.{Can, CanAt, at_most}

-- "ES to LOE needs nobody in LOS or Exclusive"
abbrev arrow : Arrow
arrow = arrow_at 1

module _ (p : ℕ) where
  -- thread p can take the arrow by at most b moves from a sound table where it stands at its beginning and the guard is met
  abbrev CanFrom : ℕ → Table → Type 0
  CanFrom b s = T (sound s) → Enabled (nodes_of s) arrow p → Can b s arrow p

  -- ---- one request

  -- thread h goes from phase k to v of the same node
  goes : {b : ℕ} (s : Table) (h k v : ℕ) (ws : List Write) → h < s.threads → s.phase h ≡ k → T (has_move go k) → T (not (must_wait k s.mutex go)) → go_effect s h ≡ quietly ws
      → (applied s ws).phase ≡ update s.phase h v → node_of k ≡ node_of v → CanFrom b (applied s ws) → CanFrom (suc b) s
  goes s h k v ws m at has free to phases same next g enabled = go_first s g arrow p enabled h k v ws m at has free to phases same next

  -- thread h, in phase k, makes any move that keeps all nodes
  asks : {b : ℕ} (s : Table) (h mv t k : ℕ) (ws : List Write) → h < s.threads → mv ≤ last_move → T (target_fits s.threads mv t) → s.phase h ≡ k → T (has_move mv k)
      → T (not (must_wait k s.mutex mv)) → effect s (ask h mv t) ≡ quietly ws → (T (sound s) → nodes_of (applied s ws) ≡ nodes_of s) → CanFrom b (applied s ws) → CanFrom (suc b) s
  asks s h mv t k ws m known names at has free to same next g enabled =
      first s arrow p (ask h mv t) (quietly ws) enabled (makes s g h m mv t k (quietly ws) known names at has free to) (same g) next

  -- ---- the reader's own, while its forbidden is 0

  -- thread p can take the arrow from phase k by at most b moves
  abbrev CanIn : ℕ → ℕ → Type 0
  CanIn b k = (s : Table) → s.forbidden p ≡ 0 → s.phase p ≡ k → CanFrom b s

  -- it goes from k to v of the same node
  own : {b : ℕ} (k v : ℕ) (ws : List Write) → T (has_move go k) → ((m : ℕ) → T (not (must_wait k m go))) → ((s : Table) → s.phase p ≡ k → go_effect s p ≡ quietly ws)
      → ((s : Table) → (applied s ws).phase ≡ update s.phase p v) → ((s : Table) → (applied s ws).forbidden ≡ s.forbidden) → node_of k ≡ node_of v → CanIn b v → CanIn (suc b) k
  own k v ws has free to phases flags same next s f e g enabled =
      goes s p k v ws (stands s arrow p enabled) e has (free s.mutex) (to s e) (phases s) same
      (next (applied s ws) (ap (λ (F : ℕ → ℕ). F p) (flags s) ∙ f) (ap (λ (φ : ℕ → ℕ). φ p) (phases s) ∙ update_same s.phase p v p refl)) g enabled

  -- the arrow
  from_2 : CanIn 1 2
  unfolding rows among arrows go_effect
  from_2 s f e g enabled = go_along s g arrow p enabled 2 5 (phase≔ p 5 ∷ []) e tt tt (rw (e, f)) refl refl

  from_1 : CanIn 2 1
  unfolding rows among go_effect
  from_1 = own 1 2 (phase≔ p 2 ∷ busy≔ p 1 ∷ []) tt (λ m. tt) (λ s e. rw e) (λ s. refl) (λ s. refl) refl from_2

  from_4 : CanIn 3 4
  unfolding rows among go_effect
  from_4 = own 4 1 (phase≔ p 1 ∷ []) tt (λ m. tt) (λ s e. rw e) (λ s. refl) (λ s. refl) refl from_1

  from_18 : CanIn 3 18
  unfolding rows among go_effect
  from_18 = own 18 1 (phase≔ p 1 ∷ mutex≔ 0 ∷ []) tt (λ m. tt) (λ s e. rw e) (λ s. refl) (λ s. refl) refl from_1

  from_3 : CanIn 4 3
  unfolding rows among go_effect
  from_3 = own 3 4 (phase≔ p 4 ∷ busy≔ p 0 ∷ []) tt (λ m. tt) (λ s e. rw e) (λ s. refl) (λ s. refl) refl from_4

  -- a thread in ES is in 1, 2, 3, 4 or 18
  in_es : (s : Table) → T (sound s) → Enabled (nodes_of s) arrow p → T (among (s.phase p) (1 ∷ 2 ∷ 3 ∷ 4 ∷ 18 ∷ []))
  unfolding rows every among arrows
  in_es s g enabled = enabled_in s g arrow p enabled (1 ∷ 2 ∷ 3 ∷ 4 ∷ 18 ∷ []) tt

  -- so it isn't in 15
  not_15 : (s : Table) → T (sound s) → Enabled (nodes_of s) arrow p → s.phase p ≡ 15 → ⊥
  unfolding among
  not_15 s g enabled e = subst (λ (q : ℕ). T (among q (1 ∷ 2 ∷ 3 ∷ 4 ∷ 18 ∷ []))) e (in_es s g enabled)

  -- and nobody is in 13 or 14
  none_inside : (s : Table) → T (sound s) → Enabled (nodes_of s) arrow p → All s (λ j. In 13 14 s j → ⊥)
  unfolding rows every among arrows
  none_inside s g enabled = nobody_in_lem s g arrow p enabled (between 13 14) tt

  -- by the reader's phase
  reader : (s : Table) → s.forbidden p ≡ 0 → CanFrom 4 s
  reader s f g enabled =
      or_at q 1 _ (λ e. at_most (omega arith) (from_1 s f e g enabled))
      (or_at q 2 _ (λ e. at_most (omega arith) (from_2 s f e g enabled))
      (or_at q 3 _ (λ e. from_3 s f e g enabled)
      (or_at q 4 _ (λ e. at_most (omega arith) (from_4 s f e g enabled))
      (or_at q 18 _ (λ e. at_most (omega arith) (from_18 s f e g enabled)) (none_of q)))))
      (in_es s g enabled)
    where
      q : ℕ
      q = s.phase p

  -- ---- the holder's

  -- what its moves write in 10, 11 and 12
  abbrev set_writes : ℕ → ℕ → List Write
  set_writes h t = phase≔ h 11 ∷ forbidden≔ t 1 ∷ target≔ t ∷ []

  abbrev relent_writes : ℕ → List Write
  relent_writes h = phase≔ h 12 ∷ []

  abbrev give_up_writes : ℕ → ℕ → List Write
  give_up_writes h t = phase≔ h 10 ∷ forbidden≔ t 0 ∷ target≔ no_target ∷ []

  module _ {b : ℕ} (s : Table) (h : ℕ) (m : h < s.threads) where
    -- in 10 it sets t's flag
    sets : (t : ℕ) → t < s.threads → s.phase h ≡ 10 → CanFrom b (applied s (set_writes h t)) → CanFrom (suc b) s
    unfolding rows among effect set_effect
    sets t k e = asks s h set_move t 10 (set_writes h t) m (omega arith) (lt→ltb t s.threads k) e tt tt (rw e) (λ g. nodes-kept s (set_writes h t) g h m 11 refl 10 e refl)

    -- in 11 it relents
    relents : s.phase h ≡ 11 → CanFrom b (applied s (relent_writes h)) → CanFrom (suc b) s
    unfolding rows among effect
    relents e = asks s h relent 0 11 (relent_writes h) m (omega arith) tt e tt tt refl (λ g. nodes-kept s (relent_writes h) g h m 12 refl 11 e refl)

    -- in 12 it gives the target's flag up
    gives_up : s.phase h ≡ 12 → CanFrom b (applied s (give_up_writes h s.target)) → CanFrom (suc b) s
    unfolding rows among go_effect
    gives_up e = goes s h 12 10 (give_up_writes h s.target) m e tt tt (rw e) refl refl

  -- in 10 it sets p's flag, relents and gives the flag up
  held_10 : (s : Table) (h : ℕ) → h < s.threads → s.phase h ≡ 10 → CanFrom 7 s
  held_10 s h m e g enabled =
      let a = applied s (set_writes h p) in
      let b = applied a (relent_writes h) in
      let c = applied b (give_up_writes h p) in
      sets s h m p (stands s arrow p enabled) e
      (relents a h m (update_same s.phase h 11 h refl)
      (gives_up b h m (update_same a.phase h 12 h refl)
      (reader c (update_same b.forbidden p 0 p refl))))
      g enabled

  -- in 12 it gives its flag up and is in 10
  held_12 : (s : Table) (h : ℕ) → h < s.threads → s.phase h ≡ 12 → CanFrom 8 s
  held_12 s h m e = gives_up s h m e (held_10 (applied s (give_up_writes h s.target)) h m (update_same s.phase h 10 h refl))

  -- in 11 it relents and is in 12
  held_11 : (s : Table) (h : ℕ) → h < s.threads → s.phase h ≡ 11 → CanFrom 9 s
  held_11 s h m e = relents s h m e (held_12 (applied s (relent_writes h)) h m (update_same s.phase h 12 h refl))

  -- a flag but p's is set
  another_set : (s : Table) (h : ℕ) → h < s.threads → (h ≡ p → ⊥) → s.forbidden h ≡ 1 → T (not (none_forbidden_but p s))
  another_set s h m other up =
      not_i (none_forbidden_but p s) (λ t.
      ⊎_elim (λ u. other (eqb→eq h p u)) (λ u. let down = eqb→eq (s.forbidden h) 0 u in omega arith)
      (or_e (eqb h p) (eqb (s.forbidden h) 0) (every_at (λ j. eqb j p || eqb (s.forbidden j) 0) s.threads t h m)))

  -- in 15 it sets its own flag and clears p's
  held_15 : (s : Table) (h : ℕ) → h < s.threads → s.phase h ≡ 15 → CanFrom 6 s
  unfolding rows among effect set_effect clear_effect
  held_15 s h m e g enabled =
      let l = stands s arrow p enabled in
      let other : h ≡ p → ⊥ = λ same. not_15 s g enabled (sym (ap s.phase same) ∙ e) in
      let a = applied s (forbidden≔ h 1 ∷ []) in
      let set = another_set a h m other (update_same s.forbidden h 1 h refl) in
      asks s h set_move h 15 (forbidden≔ h 1 ∷ []) m (omega arith) (lt→ltb h s.threads m) e tt tt (rw e) (λ x. same_nodes s (forbidden≔ h 1 ∷ []) refl)
      (asks a h clear_move p 15 (forbidden≔ p 0 ∷ []) m (omega arith) (lt→ltb p s.threads l) e tt tt (rw (T_false (none_forbidden_but p a) set)) (λ x. same_nodes a (forbidden≔ p 0 ∷ []) refl)
      (reader (applied a (forbidden≔ p 0 ∷ [])) (update_same a.forbidden p 0 p refl)))
      g enabled

  -- by the holder's phase
  held : (s : Table) (h : ℕ) → h < s.threads → T (holds (s.phase h)) → CanFrom 9 s
  held s h m t g enabled =
      or_at q 10 _ (λ e. at_most (omega arith) (held_10 s h m e g enabled))
      (or_at q 11 _ (λ e. held_11 s h m e g enabled)
      (or_at q 12 _ (λ e. at_most (omega arith) (held_12 s h m e g enabled))
      (or_at q 13 _ (λ e. absurd (none_inside s g enabled h m (rw e tt)))
      (or_at q 14 _ (λ e. absurd (none_inside s g enabled h m (rw e tt)))
      (or_at q 15 _ (λ e. at_most (omega arith) (held_15 s h m e g enabled))
      (or_at q 16 _ (λ e. clear (rw e tt)) (or_at q 18 _ (λ e. clear (rw e tt)) (none_of q))))))))
      (is_holder q t)
    where
      q : ℕ
      q = s.phase h

      clear : T (opened q) → Can 9 s arrow p
      clear o = at_most (omega arith) (reader s ((sound_e s g).open_held h m o p (stands s arrow p enabled)) g enabled)

-- ---- the theorem

pub to-shared : (s : Table) → T (sound s) → (p : ℕ) → CanAt 9 s p 1
to-shared s g p enabled = by (decided (any_holder s))
  where
    by : T (any_holder s) ⊎ T (not (any_holder s)) → Can 9 s arrow p
    by (inl t) = let (h, m, u) = some_in s holds t in held p s h m u g enabled
    by (inr t) = at_most (omega arith) (reader p s ((sound_e s g).open_free (none_in s holds t) p (stands s arrow p enabled)) g enabled)
