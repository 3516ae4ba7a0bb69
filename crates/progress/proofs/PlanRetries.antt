-- A plan makes no retry (02 §7): for every N of 1 to 200 and every permitted history, none of the plan's moves from the fresh table is a retry (`plan-retries`).
-- For an event that is no call the plan is as long as the number of Measure falls from the resting table before to the one after, so no move of it is a retry (Counting);
-- for a call it is that call.
use Prim.Native.Nat.{ℕ, ◌+◌, ◌≤◌, ◌<◌}
use native.Mathlib.Omega.{arith}
use mathlib.Core.Bool.{true, not}
use mathlib.Core.List.{List, [], ◌∷◌}
use mathlib.Core.Logic.{◌⊎◌, inl, inr}
use mathlib.Core.Path.{◌≡◌, refl, sym, subst, ap, ◌∙◌}
use lib.Dec.{T, leb, ltb, eqb, leb→le, lt→ltb}
use Rattle.definitions.specs.Bounds.{most_threads}
use Rattle.definitions.specs.Chains.{retry_for, retries_in, accepts_all_in, retries}
use Rattle.definitions.specs.Moves.{is_retry, step_in, accepts_in, reply_in}
use Rattle.definitions.specs.Phases.{rows, holds}
use Rattle.definitions.specs.PlainLock.{Pair, Places, at_start, place_after, advanced, permitted, any_in_exclusive}
use Rattle.definitions.specs.Plan.{plan_of, plan}
use Rattle.definitions.specs.Sound.{sound}
use Rattle.definitions.specs.Table.{Table, update, itself, fresh}
use Rattle.definitions.specs.Threads.{list_of}
use Rattle.definitions.specs.declared.Request.{Request}
use Rattle.basics.proofs.FlagCounts.{flags_set}
use Rattle.plain_lock.specs.Permitted.{pair_fits, permitted_from}
use Rattle.plain_lock.proofs.PlainLaws.{permitted_is}
use Rattle.orders.proofs.EventPlans.{before, by-event, start_rests}
use Rattle.orders.proofs.PairTests.{Permits, permits_e}
use Rattle.orders.proofs.RestTables.{resting, PlanLeads}
use Rattle.orders.specs.Histories.{pair_of}
use Rattle.orders.specs.Rounds.{rest_phase}
use Rattle.basics.proofs.Cases.{or_at, none_of, among_range}
use Rattle.basics.proofs.Quantifiers.{how_many-all}
use Rattle.basics.proofs.Sums.{sum_but_below}
use Rattle.basics.proofs.Tests.{and_l, and_r, T_true, decided, not_i, cond_no, T_ne}
use Rattle.basics.proofs.Columns.{update_same, update_other}
use Rattle.theory.proofs.Chains.{retries-fresh, retries_append}
use Rattle.theory.proofs.PlanLengths.{moves_for, event-moves}
use Rattle.theory.proofs.Soundness.{sound_e}
use Rattle.theory.proofs.Stages.{fresh-fits}
use Rattle.theory.proofs.Storages.{own-keeps, accepted-reply}
use Rattle.progress.specs.Progress.{progresses_in}
use Rattle.progress.proofs.Counting.{parts, all_advance}
use Rattle.progress.proofs.Measure.{alone, holding, part, total, measure, unheld}

-- ---- lists without retries

-- an accepted request that is no retry
reply_none : (s : Table) (r : Request) → T (accepts_in itself s r) → T (not (is_retry s r)) → retry_for (reply_in itself s r) ≡ 0
reply_none s r ok t = ap retry_for (accepted-reply itself s r ok) ∙ cond_no (is_retry s r) 1 0 t

-- one such request
one_none : (s : Table) (r : Request) → T (accepts_all_in itself s (r ∷ [])) → T (not (is_retry s r)) → retries_in itself s (r ∷ []) ≡ 0
unfolding accepts_all_in retries_in
one_none s r ok t = omega (arith, reply_none s r (and_l (accepts_in itself s r) true ok) t)

-- a list that makes progress
progress_none : (s : Table) (rs : List Request) → T (progresses_in itself s rs) → retries_in itself s rs ≡ 0
unfolding retries_in
progress_none s [] t = refl
progress_none s (r ∷ rs) t =
    let (ok, ahead, more) = parts itself own-keeps s r rs t in
    omega (arith, reply_none s r ok ahead.1, progress_none (step_in itself s r) rs more)

module _ (n : ℕ) where
  -- ---- the number of a resting table

  -- what a thread at a place adds to it, with all n flags set: they are while a thread is in exclusive, and for any other thread they don't count
  abbrev adds : ℕ → ℕ
  adds place = part n n (rest_phase place)

  -- how many are set
  abbrev flags : Places → ℕ
  flags p = flags_set n (resting n p).forbidden

  -- so it adds that with the flags that are set
  rest_adds : (p : Places) → T (sound (resting n p)) → (j : ℕ) → j < n → part n (flags p) (rest_phase (p j)) ≡ adds (p j)
  rest_adds p g j l = by (decided (any_in_exclusive n p))
    where
      -- somebody is in exclusive
      all_set : T (any_in_exclusive n p) → flags p ≡ n
      all_set some = how_many-all (λ t. eqb ((resting n p).forbidden t) 1) n (λ t m. rw (T_true (any_in_exclusive n p) some, T_true (ltb t n) (lt→ltb t n m)) tt)

      -- nobody is, so nobody holds the mutex
      nobody : T (not (any_in_exclusive n p)) → T (holds (rest_phase (p j))) → ⊥
      nobody none u = omega (arith, (sound_e (resting n p) g).held j l u, cond_no {A = ℕ} (any_in_exclusive n p) 1 0 none)

      by : T (any_in_exclusive n p) ⊎ T (not (any_in_exclusive n p)) → part n (flags p) (rest_phase (p j)) ≡ adds (p j)
      by (inl some) = ap (λ (k : ℕ). part n k (rest_phase (p j))) (all_set some)
      by (inr none) = unheld n n (flags p) (rest_phase (p j)) (not_i (holds (rest_phase (p j))) (nobody none))

  -- from one resting table to another, in which thread i is at place v, the number changes by what that thread adds
  rest-change : (p : Places) (i v : ℕ) → i < n → T (sound (resting n p)) → T (sound (resting n (update p i v))) → measure (resting n (update p i v)) + adds (p i) ≡ measure (resting n p) + adds v
  unfolding total
  rest-change p i v l g h =
      let q = update p i v in
      omega (
        arith,
        sum_but_below n (λ j. part n (flags p) (rest_phase (p j))) (λ j. part n (flags q) (rest_phase (q j))) i l
            (λ j m other. rest_adds q h j m ∙ (ap adds (update_other p i v j other) ∙ sym (rest_adds p g j m))),
        rest_adds p g i l,
        rest_adds q h i l,
        ap adds (update_same p i v i refl),
      )

  -- ---- one event

  module _ (p : Places) (i : ℕ) (g : T (sound (resting n p))) where
    -- the plan for thread i's event makes none
    abbrev NoRetry : ℕ → Type 0
    NoRetry e = Permits n p (pair_of i e) → retries_in itself (resting n p) (plan_of n (pair_of i e)) ≡ 0

    -- an event that is no call, of a thread at the place one below: the plan is as long as what the thread adds falls
    goes_on : (at : ℕ) → T (leb 1 at) → T (not (eqb at 4)) → adds at ≡ moves_for n (at + 1) + adds (place_after (at + 1)) → NoRetry (at + 1)
    goes_on at some no_4 falls a =
        let x = pair_of i (at + 1) in
        let leads : PlanLeads n p x = by-event n p i g (at + 1) a in
        progress_none (resting n p) (plan_of n x)
        (all_advance itself own-keeps (resting n p) (plan_of n x) leads.all-accepted
        (omega (
          arith,
          ap measure leads.ends,
          rest-change p i (place_after (at + 1)) a.fits g leads.sound_after,
          ap adds (before (p i) at (leb→le 1 at some) (T_ne at 4 no_4) a.next),
          falls,
          event-moves n x,
        )))

    -- the calls
    calls-shared : NoRetry 1
    unfolding plan_of is_retry
    calls-shared a = one_none (resting n p) _ (by-event n p i g 1 a).all-accepted tt

    calls-exclusive : NoRetry 5
    unfolding plan_of is_retry
    calls-exclusive a = one_none (resting n p) _ (by-event n p i g 5 a).all-accepted tt

    -- every event
    each : (e : ℕ) → NoRetry e
    unfolding list_of rows rest_phase part alone holding moves_for
    each e a =
        or_at e 1 _ (at 1 calls-shared) (or_at e 2 _ (at 2 (goes_on 1 tt tt refl)) (or_at e 3 _ (at 3 (goes_on 2 tt tt refl)) (or_at e 4 _ (at 4 (goes_on 3 tt tt refl))
        (or_at e 5 _ (at 5 calls-exclusive) (or_at e 6 _ (at 6 (goes_on 5 tt tt (omega arith))) (or_at e 7 _ (at 7 (goes_on 6 tt tt (omega arith))) (or_at e 8 _ (at 8 (goes_on 7 tt tt refl))
        (none_of e))))))))
        (among_range e 1 8 a.known)
      where
        at : (k : ℕ) → NoRetry k → e ≡ k → retries_in itself (resting n p) (plan_of n (pair_of i e)) ≡ 0
        at k f q = subst NoRetry (sym q) f a

  -- ---- a history

  -- from any resting table, event by event
  from-rest : (p : Places) (h : List Pair) → T (sound (resting n p)) → T (permitted_from n p h) → retries_in itself (resting n p) (plan n h) ≡ 0
  unfolding plan permitted_from retries_in
  from-rest p [] g t = refl
  from-rest p (x ∷ xs) g t =
      let here = pair_fits n p x in
      let rest = permitted_from n (advanced p x) xs in
      let a = permits_e n p x (and_l here rest t) in
      let leads : PlanLeads n p x = by-event n p x.thread g x.event a in
      omega (
        arith,
        retries_append (resting n p) (plan_of n x) (plan n xs),
        each p x.thread g x.event a,
        ap (λ (s : Table). retries_in itself s (plan n xs)) leads.ends,
        from-rest (advanced p x) xs leads.sound_after (and_r here rest t),
      )

-- the plan of a permitted history makes no retry
pub plan-retries : (n : ℕ) → 1 ≤ n → n ≤ most_threads → (h : List Pair) → T (permitted n h) → retries (fresh n) (plan n h) ≡ 0
plan-retries n least most h t =
    retries-fresh n least most (plan n h)
    ∙ (ap (λ (s : Table). retries_in itself s (plan n h)) (sym (start_rests n))
    ∙ from-rest n at_start h (subst (λ (s : Table). T (sound s)) (sym (start_rests n)) (fresh-fits n least)) (subst T (permitted_is n h) t))
