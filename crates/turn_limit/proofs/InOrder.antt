-- Tables in which the threads are served one after the other and nobody comes to Shared (`InOrder`, `none_shared`): those below w leave, then w, a writer, goes on to 14, and then alone those above w,
-- which find their flags set. Requests keep a table so that are of no thread above w before (`in_order_kept`), and the lowest thread that has a turn is none (`mover_low`). For every N and w.
use Prim.Native.Nat.{ℕ, suc, ◌≤◌, ◌<◌}
use native.Mathlib.Omega.{arith}
use mathlib.Core.Bool.{Bool, not, ◌||◌}
use mathlib.Core.Logic.{◌⊎◌, inl, inr, ⊎_elim}
use mathlib.Core.Path.{◌≡◌, refl, sym, subst, ap, ◌∙◌}
use lib.Dec.{T, eqb, eqb→eq}
use Rattle.definitions.specs.Bounds.{last_phase}
use Rattle.definitions.specs.Codes.{Shared}
use Rattle.definitions.specs.Dispatch.{may_dispatch, mover_in}
use Rattle.definitions.specs.Moves.{step}
use Rattle.definitions.specs.Phases.{rows, node_of, busy_in, holds}
use Rattle.definitions.specs.Table.{Table}
use Rattle.definitions.specs.Threads.{every, among, between, implies, list_of}
use Rattle.dispatching.specs.Ready.{ready_by, ready}
use Rattle.definitions.specs.declared.Request.{Request}
use Rattle.basics.proofs.Cases.{or_at, none_of, among_range}
use Rattle.basics.proofs.Lowest.{lowest_below}
use Rattle.basics.proofs.Quantifiers.{implied}
use Rattle.basics.proofs.Tests.{or_e, no_both, implies_e, T_ne, same?, below?}
use Rattle.dispatching.proofs.Choice.{mover_is}
use Rattle.theory.proofs.SoundChanges.{put_all, in_phase_lem}
use Rattle.theory.proofs.Soundness.{All, Sound}
use Rattle.theory.proofs.Stages.{between_e}
use Rattle.turn_limit.proofs.NextPhases.{next, Next, tried}
use Rattle.turn_limit.proofs.OneRequest.{request-fits, request-threads, request-next}

-- the phases of those that leave, of a writer that hasn't left, and of those that are kept out
abbrev pub leaver : ℕ → Bool
leaver phase = eqb phase 0 || between 15 17 phase

abbrev pub writer : ℕ → Bool
writer phase = between 9 14 phase

abbrev pub outsider : ℕ → Bool
outsider phase = between 1 4 phase

pub record InOrder (w : ℕ) (s : Table) : Type 0 where
  pub fits : w < s.threads
  pub below : (j : ℕ) → j < w → T (leaver (s.phase j))
  pub here : T (writer (s.phase w))
  pub above : (j : ℕ) → w < j → j < s.threads → T (outsider (s.phase j))
  -- none of them has begun before the writer is in 14
  pub begun : (j : ℕ) → w < j → j < s.threads → (s.phase w ≡ 14 → ⊥) → s.phase j ≡ 1

module _ (w : ℕ) (s : Table) (z : Sound s) (o : InOrder w s) where
  -- nobody is in Shared, by trying the phases
  pub none_shared : All s (λ j. node_of (s.phase j) ≡ Shared → ⊥)
  unfolding rows every
  none_shared j l = by (below? w j) (same? j w)
    where
      no : (f : ℕ → Bool) → T (every (suc last_phase) (λ p. implies (f p) (not (eqb (node_of p) Shared)))) → T (f (s.phase j)) → node_of (s.phase j) ≡ Shared → ⊥
      no f all t = T_ne (node_of (s.phase j)) Shared (implied f (λ p. not (eqb (node_of p) Shared)) (suc last_phase) all (s.phase j) (omega (arith, z.phases j l)) t)

      by : (j < w) ⊎ (w ≤ j) → (j ≡ w) ⊎ (j ≡ w → ⊥) → node_of (s.phase j) ≡ Shared → ⊥
      by (inl k) q = no leaver tt (o.below j k)
      by (inr k) (inl q) = no writer tt (subst (λ (x : ℕ). T (writer (s.phase x))) (sym q) o.here)
      by (inr k) (inr q) = no outsider tt (o.above j (omega arith) l)

  -- ---- who is the lowest before the writer is in 14

  module _ (early : s.phase w ≡ 14 → ⊥) where
    -- where those below are outside, w is ready
    module _ (gone : (j : ℕ) → j < w → s.phase j ≡ 0) where
      each : (P : ℕ → Type 0) → P 0 → P (s.phase w) → P 1 → All s (λ j. P (s.phase j))
      each P out own in_1 j l = by (below? w j) (same? j w)
        where
          by : (j < w) ⊎ (w ≤ j) → (j ≡ w) ⊎ (j ≡ w → ⊥) → P (s.phase j)
          by (inl k) q = subst P (sym (gone j k)) out
          by (inr k) (inl q) = subst (λ (x : ℕ). P (s.phase x)) (sym q) own
          by (inr k) (inr q) = subst P (sym (o.begun j (omega arith) l early)) in_1

      -- in 9 nobody has the mutex
      free : s.phase w ≡ 9 → s.mutex ≡ 0
      unfolding rows
      free e = z.free (each (λ p. T (holds p) → ⊥) (λ t. t) (λ t. rw e at t) (λ t. t))

      -- in 11 the target isn't busy
      calm : s.phase w ≡ 11 → s.busy s.target ≡ 0
      unfolding rows
      calm e =
          let (l, up) = z.has_target w o.fits (in_phase_lem s z w o.fits 11 e tt 11 12 tt) in
          z.busies s.target l ∙ each (λ p. busy_in p ≡ 0) refl (rw e) refl s.target l

      writer-ready : T (ready s w)
      unfolding ready_by list_of
      writer-ready =
          or_at (s.phase w) 9 _ (λ e. rw (e, free e) tt)
          (or_at (s.phase w) 10 _ (λ e. rw e tt)
          (or_at (s.phase w) 11 _ (λ e. rw (e, calm e) tt)
          (or_at (s.phase w) 12 _ (λ e. rw e tt) (or_at (s.phase w) 13 _ (λ e. rw e tt) (or_at (s.phase w) 14 _ (λ e. absurd (early e)) (none_of (s.phase w)))))))
          (among_range (s.phase w) 9 14 o.here)

    -- so the mover is w or below, where one in 15 to 17 is ready
    pub mover_low : mover_in s ≤ w
    unfolding ready_by every
    mover_low = ⊎_elim (λ l. omega arith) (λ l. absurd (no_both (ready s w) (writer-ready (λ j k. gone j k l)) (not-ready w l))) (below? (suc w) (mover_in s))
      where
        not-ready : (j : ℕ) → j < mover_in s → T (not (ready s j))
        not-ready j l = lowest_below (ready s) s.threads j (omega (arith, mover_is s z))

        gone : (j : ℕ) → j < w → suc w ≤ mover_in s → s.phase j ≡ 0
        gone j k l = ⊎_elim (eqb→eq (s.phase j) 0) (λ t. absurd (no_both (ready s j) (leaves t) (not-ready j (omega arith)))) (or_e (eqb (s.phase j) 0) (between 15 17 (s.phase j)) (o.below j k))
          where
            leaves : T (between 15 17 (s.phase j)) → T (ready s j)
            leaves t = implied (between 15 17) (ready_by s.mutex (s.busy s.target)) 18 tt (s.phase j) (omega (arith, (between_e 15 17 (s.phase j) t).1)) t

  -- ---- what a request keeps

  module _ (r : Request) (may : T (may_dispatch s r)) (low : (s.phase w ≡ 14 → ⊥) → r.thread ≤ w) where
    abbrev i : ℕ
    i = r.thread

    abbrev s' : Table
    s' = step s r

    l : i < s.threads
    l = request-fits s z r may

    same : s'.threads ≡ s.threads
    same = request-threads s z r may

    a : Next s i s'.phase
    a = request-next s z r may

    abbrev p : ℕ
    p = s.phase i

    -- if it is one above w, the writer is in 14
    late : w < i → s.phase w ≡ 14
    late k = ⊎_elim (λ e. e) (λ h. absurd (omega (arith, low h))) (same? (s.phase w) 14)

    -- where the mover comes to, by trying the phases
    comes_to : (f g : ℕ → Bool) → T (every (suc last_phase) (λ x. every (suc last_phase) (λ y. implies (among y (next x)) (implies (f x) (g y))))) → T (f p) → T (g a.to)
    comes_to f g all = implies_e (f p) (g a.to) (tried (λ x y. implies (f x) (g y)) all p a.to (omega (arith, z.phases i l)) a.is_phase a.behind)

    -- one above w finds its flag set
    kept_out : w < i → T (outsider a.to)
    unfolding every next among
    kept_out k =
        let up = z.all-forbidden w o.fits (subst (λ (q : ℕ). T (between 13 14 q)) (sym (late k)) tt) i l in
        ⊎_elim (λ t. absurd (a.kept_out up (eqb→eq a.to 5 t))) (λ t. t) (or_e (eqb a.to 5) (outsider a.to) (comes_to outsider (λ y. eqb y 5 || outsider y) tt (o.above i k l)))

    -- a writer in 14 stays there
    stays_14 : s.phase w ≡ 14 → s'.phase w ≡ 14
    unfolding next
    stays_14 e =
        put_all (λ x q. x ≡ w → q ≡ 14) s.phase s'.phase i a.to a.column
        (λ d. none_of a.to (subst (λ (q : ℕ). T (among a.to (next q))) (ap s.phase d ∙ e) a.behind)) w (λ d. e) refl

    pub in_order_kept : InOrder w s'
    unfolding every next among
    in_order_kept =
        record {
          fits = omega (arith, o.fits, same);
          below = λ j k. put_all (λ x q. x < w → T (leaver q)) s.phase s'.phase i a.to a.column (λ m. comes_to leaver leaver tt (o.below i m)) j (o.below j) k;
          here =
              put_all (λ x q. x ≡ w → T (writer q)) s.phase s'.phase i a.to a.column (λ d. comes_to writer writer tt (subst (λ (x : ℕ). T (writer (s.phase x))) (sym d) o.here)) w
              (λ d. o.here) refl;
          above = λ j k m.
              put_all (λ x q. w < x → x < s.threads → T (outsider q)) s.phase s'.phase i a.to a.column (λ h d. kept_out h) j (o.above j) k (omega (arith, same));
          begun = λ j k m early'.
              let early : s.phase w ≡ 14 → ⊥ = λ e. early' (stays_14 e) in
              a.column.others j (λ q. omega (arith, low early)) ∙ o.begun j k (omega (arith, same)) early;
        }
