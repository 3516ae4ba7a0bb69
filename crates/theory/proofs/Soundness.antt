-- Soundness as statements of all threads. `Sound` says what the rules say of a thread in a phase, and `sound_e`, `sound_i` go between it and the test `sound`.
use Prim.Native.Nat.{ℕ, suc, ◌≤◌, ◌<◌}
use native.Mathlib.Omega.{arith}
use mathlib.Core.Bool.{Bool, cond, not, ◌&&◌, ◌||◌}
use mathlib.Core.List.{List, [], ◌∷◌}
use mathlib.Core.Logic.{◌⊎◌, inl, inr, ⊎_elim}
use mathlib.Core.Path.{◌≡◌, sym, subst, subst⁻¹, ◌∙◌}
use lib.Dec.{T, leb, ltb, eqb, leb→le, le→leb, ltb→lt, lt→ltb, eqb→eq}
use Rattle.definitions.specs.Bounds.{last_phase, no_target}
use Rattle.definitions.specs.Phases.{rows, busy_in, holds, reading}
use Rattle.definitions.specs.Sound.{sound, any_holder, holder_in, opened, holder_opened, backed_off}
use Rattle.definitions.specs.Sound.{phase_rule, flag_rule, busy_rule, holder_rule, mutex_rule, target_rule, open_rule, rule10, rule11, rule13, rule15, elsewhere_rule}
use Rattle.definitions.specs.Table.{Table}
use Rattle.definitions.specs.Threads.{every, some, how_many, between, all_of, implies}
use Rattle.definitions.specs.declared.Task.{Task}
use Rattle.theory.specs.Tables.{task_of}
use Rattle.basics.proofs.Quantifiers.{every_at, every_i, some_i, some_e, not-every, at_most_one, one_at_most}
use Rattle.basics.proofs.Tests.{and_l, and_r, and_i, or_e, or_l, or_r, decided, no_both, not_i, implies_e, implies_i, cond_yes, cond_no, eq_T, T_ne}

-- of every thread of a table, and of some thread
abbrev pub All : Table → (ℕ → Type 0) → Type 0
All s P = (j : ℕ) → j < s.threads → P j

abbrev pub Some : Table → (ℕ → Type 0) → Type 0
Some s P = (j : ℕ) × (j < s.threads) × P j

-- thread j is in phases a to b; it is the holder; it is the holder in a phase that keeps no thread out; it is in 5 to 7
abbrev pub In : ℕ → ℕ → Table → ℕ → Type 0
In a b s j = T (between a b (s.phase j))

abbrev pub Holds : Table → ℕ → Type 0
Holds s j = T (holds (s.phase j))

abbrev pub Opened : Table → ℕ → Type 0
Opened s j = T (opened (s.phase j))

abbrev pub Reads : Table → ℕ → Type 0
Reads s j = T (reading (s.phase j))

-- it is in none of 3, 4 and 18
abbrev pub Elsewhere : Table → ℕ → Type 0
Elsewhere s j = T (not (backed_off (s.phase j)))

-- the rules, each of a thread in its phases: "the holder is in a to b" is that some thread is
pub record Sound (s : Table) : Type 0 where
  pub phases : All s (λ j. s.phase j ≤ last_phase)
  pub flags : All s (λ j. s.forbidden j ≤ 1)
  pub busies : All s (λ j. s.busy j ≡ busy_in (s.phase j))
  pub one_holder : All s (λ i. All s (λ j. Holds s i → Holds s j → i ≡ j))
  pub held : All s (λ i. Holds s i → s.mutex ≡ 1)
  pub free : All s (λ i. Holds s i → ⊥) → s.mutex ≡ 0
  pub has_target : All s (λ i. In 11 12 s i → (s.target < s.threads) × (s.forbidden s.target ≡ 1))
  pub no_target_lem : All s (λ i. In 11 12 s i → ⊥) → s.target ≡ no_target
  pub open_free : All s (λ i. Holds s i → ⊥) → All s (λ j. s.forbidden j ≡ 0)
  pub open_held : All s (λ i. Opened s i → All s (λ j. s.forbidden j ≡ 0))
  pub some_clear : All s (λ i. In 10 10 s i → Some s (λ j. s.forbidden j ≡ 0))
  pub guarded_10 : All s (λ i. In 10 10 s i → All s (λ j. s.forbidden j ≡ 1 → Reads s j → ⊥))
  pub guarded_11 : All s (λ i. In 11 12 s i → All s (λ j. (j ≡ s.target → ⊥) → s.forbidden j ≡ 1 → Reads s j → ⊥))
  pub all-forbidden : All s (λ i. In 13 14 s i → All s (λ j. s.forbidden j ≡ 1))
  pub no_reader : All s (λ i. In 13 14 s i → All s (λ j. Reads s j → ⊥))
  pub some-forbidden : All s (λ i. In 15 15 s i → Some s (λ j. s.forbidden j ≡ 1))
  pub elsewhere : Some s (Elsewhere s)

-- ---- rules of the form "the holder is in a to b", and tests of all threads

module _ (s : Table) (f : ℕ → Bool) where
  -- some thread is in a phase of which f holds
  abbrev someone : Bool
  someone = some s.threads (λ k. f (s.phase k))

  in_some : (i : ℕ) → i < s.threads → T (f (s.phase i)) → T someone
  in_some i l h = some_i (λ k. f (s.phase k)) s.threads i l h

  pub some_in : T someone → Some s (λ i. T (f (s.phase i)))
  some_in t = some_e (λ k. f (s.phase k)) s.threads t

  in_none : All s (λ i. T (f (s.phase i)) → ⊥) → T (not someone)
  in_none h = not_i someone (λ t. let r = some_in t in h r.0 r.1 r.2)

  pub none_in : T (not someone) → All s (λ i. T (f (s.phase i)) → ⊥)
  none_in t i l h = no_both someone (in_some i l h) t

  rule_e : (q : Bool) → T (implies someone q) → All s (λ i. T (f (s.phase i)) → T q)
  rule_e q t i l h = implies_e someone q t (in_some i l h)

  rule_i : (q : Bool) → All s (λ i. T (f (s.phase i)) → T q) → T (implies someone q)
  rule_i q g = implies_i someone q (λ t. let r = some_in t in g r.0 r.1 r.2)

module _ (s : Table) where
  -- every thread's number of a column is k
  column_e : (f : ℕ → ℕ) (k : ℕ) → T (every s.threads (λ j. eqb (f j) k)) → All s (λ j. f j ≡ k)
  column_e f k t j l = eqb→eq (f j) k (every_at (λ j. eqb (f j) k) s.threads t j l)

  column_i : (f : ℕ → ℕ) (k : ℕ) → All s (λ j. f j ≡ k) → T (every s.threads (λ j. eqb (f j) k))
  column_i f k h = every_i (λ j. eqb (f j) k) s.threads (λ j l. eq_T (f j) k (h j l))

  some_column_e : (f : ℕ → ℕ) (k : ℕ) → T (some s.threads (λ j. eqb (f j) k)) → Some s (λ j. f j ≡ k)
  some_column_e f k t = let r = some_e (λ j. eqb (f j) k) s.threads t in (r.0, r.1, eqb→eq (f r.0) k r.2)

  some_column_i : (f : ℕ → ℕ) (k : ℕ) → Some s (λ j. f j ≡ k) → T (some s.threads (λ j. eqb (f j) k))
  some_column_i f k h = some_i (λ j. eqb (f j) k) s.threads h.0 h.1 (eq_T (f h.0) k h.2)

-- thread j's forbidden is 1 and it is in 5 to 7
abbrev clash : Table → ℕ → Bool
clash s j = eqb (s.forbidden j) 1 && reading (s.phase j)

clash_e : (s : Table) (j : ℕ) → T (not (clash s j)) → s.forbidden j ≡ 1 → Reads s j → ⊥
clash_e s j t e h = no_both (clash s j) (and_i (eqb (s.forbidden j) 1) (reading (s.phase j)) (eq_T (s.forbidden j) 1 e) h) t

clash_i : (s : Table) (j : ℕ) → (s.forbidden j ≡ 1 → Reads s j → ⊥) → T (not (clash s j))
clash_i s j h =
    not_i (clash s j) (λ t. h (eqb→eq (s.forbidden j) 1 (and_l (eqb (s.forbidden j) 1) (reading (s.phase j)) t)) (and_r (eqb (s.forbidden j) 1) (reading (s.phase j)) t))

-- ---- one rule at a time

take_rule : (r : Bool) (rs : List Bool) → T (all_of (r ∷ rs)) → T r × T (all_of rs)
unfolding all_of
take_rule r rs t = (and_l r (all_of rs) t, and_r r (all_of rs) t)

add_rule : (r : Bool) (rs : List Bool) → T r → T (all_of rs) → T (all_of (r ∷ rs))
unfolding all_of
add_rule r rs t u = and_i r (all_of rs) t u

module _ (s : Table) where
  phases_e : T (phase_rule s) → All s (λ j. s.phase j ≤ last_phase)
  unfolding phase_rule
  phases_e t j l = leb→le (s.phase j) last_phase (every_at (λ i. leb (s.phase i) last_phase) s.threads t j l)

  phases_i : All s (λ j. s.phase j ≤ last_phase) → T (phase_rule s)
  unfolding phase_rule
  phases_i h = every_i (λ i. leb (s.phase i) last_phase) s.threads (λ j l. le→leb (s.phase j) last_phase (h j l))

  flags_e : T (flag_rule s) → All s (λ j. s.forbidden j ≤ 1)
  unfolding flag_rule
  flags_e t j l =
      leb→le (s.forbidden j) 1
      (and_r (leb (s.busy j) 1) (leb (s.forbidden j) 1) (every_at (λ i. leb (s.busy i) 1 && leb (s.forbidden i) 1) s.threads t j l))

  flags_i : All s (λ j. s.busy j ≤ 1) → All s (λ j. s.forbidden j ≤ 1) → T (flag_rule s)
  unfolding flag_rule
  flags_i b f =
      every_i (λ i. leb (s.busy i) 1 && leb (s.forbidden i) 1) s.threads
      (λ j l. and_i (leb (s.busy j) 1) (leb (s.forbidden j) 1) (le→leb (s.busy j) 1 (b j l)) (le→leb (s.forbidden j) 1 (f j l)))

  busies_e : T (busy_rule s) → All s (λ j. s.busy j ≡ busy_in (s.phase j))
  unfolding busy_rule
  busies_e t j l =
      eqb→eq (s.busy j) (busy_in (s.phase j)) (every_at (λ i. eqb (s.busy i) (busy_in (s.phase i))) s.threads t j l)

  busies_i : All s (λ j. s.busy j ≡ busy_in (s.phase j)) → T (busy_rule s)
  unfolding busy_rule
  busies_i h =
      every_i (λ i. eqb (s.busy i) (busy_in (s.phase i))) s.threads
      (λ j l. eq_T (s.busy j) (busy_in (s.phase j)) (h j l))

  holder_e : T (holder_rule s) → All s (λ i. All s (λ j. Holds s i → Holds s j → i ≡ j))
  unfolding holder_rule
  holder_e t i k j l a b =
      let f : ℕ → Bool = λ i. holds (s.phase i) in
      at_most_one f s.threads (leb→le (how_many s.threads f) 1 t) i j k l a b

  holder_i : All s (λ i. All s (λ j. Holds s i → Holds s j → i ≡ j)) → T (holder_rule s)
  unfolding holder_rule
  holder_i h =
      let f : ℕ → Bool = λ i. holds (s.phase i) in
      le→leb (how_many s.threads f) 1 (one_at_most f s.threads (λ i j k l a b. h i k j l a b))

  mutex_e : T (mutex_rule s) → All s (λ i. Holds s i → s.mutex ≡ 1) × (All s (λ i. Holds s i → ⊥) → s.mutex ≡ 0)
  unfolding mutex_rule
  mutex_e t =
      let e = eqb→eq s.mutex (cond (any_holder s) 1 0) t in (
        (λ i l h. e ∙ cond_yes (any_holder s) 1 0 (in_some s holds i l h)),
        (λ h. e ∙ cond_no (any_holder s) 1 0 (in_none s holds h)),
      )

  mutex_i : All s (λ i. Holds s i → s.mutex ≡ 1) → (All s (λ i. Holds s i → ⊥) → s.mutex ≡ 0) → T (mutex_rule s)
  unfolding mutex_rule
  mutex_i f g = eq_T s.mutex (cond (any_holder s) 1 0) (by (decided (any_holder s)))
    where
      by : T (any_holder s) ⊎ T (not (any_holder s)) → s.mutex ≡ cond (any_holder s) 1 0
      by (inl t) = let r = some_in s holds t in f r.0 r.1 r.2 ∙ sym (cond_yes (any_holder s) 1 0 t)
      by (inr t) = g (none_in s holds t) ∙ sym (cond_no (any_holder s) 1 0 t)

  abbrev target-set : Bool
  target-set = ltb s.target s.threads && eqb (s.forbidden s.target) 1

  abbrev target_none : Bool
  target_none = eqb s.target no_target

  target_e : T (target_rule s)
      → All s (λ i. In 11 12 s i → (s.target < s.threads) × (s.forbidden s.target ≡ 1)) × (All s (λ i. In 11 12 s i → ⊥) → s.target ≡ no_target)
  unfolding target_rule
  target_e t = (
    (λ i l h. taken (subst T (cond_yes (holder_in 11 12 s) target-set target_none (in_some s (between 11 12) i l h)) t)),
    (λ h. eqb→eq s.target no_target (subst T (cond_no (holder_in 11 12 s) target-set target_none (in_none s (between 11 12) h)) t)),
  )
    where
      taken : T target-set → (s.target < s.threads) × (s.forbidden s.target ≡ 1)
      taken u = (
        ltb→lt s.target s.threads (and_l (ltb s.target s.threads) (eqb (s.forbidden s.target) 1) u),
        eqb→eq (s.forbidden s.target) 1 (and_r (ltb s.target s.threads) (eqb (s.forbidden s.target) 1) u),
      )

  target_i : All s (λ i. In 11 12 s i → (s.target < s.threads) × (s.forbidden s.target ≡ 1)) → (All s (λ i. In 11 12 s i → ⊥) → s.target ≡ no_target) → T (target_rule s)
  unfolding target_rule
  target_i f g = by (decided (holder_in 11 12 s))
    where
      taken : (s.target < s.threads) × (s.forbidden s.target ≡ 1) → T target-set
      taken u =
          and_i (ltb s.target s.threads) (eqb (s.forbidden s.target) 1) (lt→ltb s.target s.threads u.0) (eq_T (s.forbidden s.target) 1 u.1)

      by : T (holder_in 11 12 s) ⊎ T (not (holder_in 11 12 s)) → T (cond (holder_in 11 12 s) target-set target_none)
      by (inl t) =
          let r = some_in s (between 11 12) t in subst T (sym (cond_yes (holder_in 11 12 s) target-set target_none t)) (taken (f r.0 r.1 r.2))
      by (inr t) =
          subst T (sym (cond_no (holder_in 11 12 s) target-set target_none t)) (eq_T s.target no_target (g (none_in s (between 11 12) t)))

  abbrev all_clear : Bool
  all_clear = every s.threads (λ i. eqb (s.forbidden i) 0)

  open_e : T (open_rule s) → (All s (λ i. Holds s i → ⊥) → All s (λ j. s.forbidden j ≡ 0)) × All s (λ i. Opened s i → All s (λ j. s.forbidden j ≡ 0))
  unfolding open_rule
  open_e t = (
    (λ h. clear (or_l (not (any_holder s)) (holder_opened s) (in_none s holds h))),
    (λ i l h. clear (or_r (not (any_holder s)) (holder_opened s) (in_some s opened i l h))),
  )
    where
      clear : T (not (any_holder s) || holder_opened s) → All s (λ j. s.forbidden j ≡ 0)
      clear u = column_e s s.forbidden 0 (implies_e (not (any_holder s) || holder_opened s) all_clear t u)

  open_i : (All s (λ i. Holds s i → ⊥) → All s (λ j. s.forbidden j ≡ 0)) → All s (λ i. Opened s i → All s (λ j. s.forbidden j ≡ 0)) → T (open_rule s)
  unfolding open_rule
  open_i f g =
      implies_i (not (any_holder s) || holder_opened s) all_clear (λ u. column_i s s.forbidden 0 (by (or_e (not (any_holder s)) (holder_opened s) u)))
    where
      by : T (not (any_holder s)) ⊎ T (holder_opened s) → All s (λ j. s.forbidden j ≡ 0)
      by (inl t) = f (none_in s holds t)
      by (inr t) = let r = some_in s opened t in g r.0 r.1 r.2

  abbrev some_0 : Bool
  some_0 = some s.threads (λ i. eqb (s.forbidden i) 0)

  abbrev no_clash : Bool
  no_clash = every s.threads (λ i. not (clash s i))

  rule10_e : T (rule10 s) → All s (λ i. In 10 10 s i → Some s (λ j. s.forbidden j ≡ 0) × All s (λ j. s.forbidden j ≡ 1 → Reads s j → ⊥))
  unfolding rule10
  rule10_e t i l h =
      let u = rule_e s (between 10 10) (some_0 && no_clash) t i l h in (
        some_column_e s s.forbidden 0 (and_l some_0 no_clash u),
        (λ j k. clash_e s j (every_at (λ i. not (clash s i)) s.threads (and_r some_0 no_clash u) j k)),
      )

  rule10_i : All s (λ i. In 10 10 s i → Some s (λ j. s.forbidden j ≡ 0)) → All s (λ i. In 10 10 s i → All s (λ j. s.forbidden j ≡ 1 → Reads s j → ⊥)) → T (rule10 s)
  unfolding rule10
  rule10_i f g =
      rule_i s (between 10 10) (some_0 && no_clash)
      (λ i l h. and_i some_0 no_clash (some_column_i s s.forbidden 0 (f i l h)) (every_i (λ i. not (clash s i)) s.threads (λ j k. clash_i s j (g i l h j k))))

  abbrev clash_but : ℕ → Bool
  clash_but j = eqb j s.target || not (clash s j)

  rule11_e : T (rule11 s) → All s (λ i. In 11 12 s i → All s (λ j. (j ≡ s.target → ⊥) → s.forbidden j ≡ 1 → Reads s j → ⊥))
  unfolding rule11
  rule11_e t i l h j k other =
      ⊎_elim (λ u. absurd (other (eqb→eq j s.target u))) (λ u. clash_e s j u)
      (or_e (eqb j s.target) (not (clash s j)) (every_at clash_but s.threads (rule_e s (between 11 12) (every s.threads clash_but) t i l h) j k))

  rule11_i : All s (λ i. In 11 12 s i → All s (λ j. (j ≡ s.target → ⊥) → s.forbidden j ≡ 1 → Reads s j → ⊥)) → T (rule11 s)
  unfolding rule11
  rule11_i f =
      rule_i s (between 11 12) (every s.threads clash_but)
      (λ i l h. every_i clash_but s.threads (λ j k.
      ⊎_elim (or_l (eqb j s.target) (not (clash s j)))
      (λ other. or_r (eqb j s.target) (not (clash s j)) (clash_i s j (f i l h j k (T_ne j s.target other))))
      (decided (eqb j s.target))))

  abbrev all_1 : Bool
  all_1 = every s.threads (λ i. eqb (s.forbidden i) 1)

  abbrev none_reads : Bool
  none_reads = every s.threads (λ i. not (reading (s.phase i)))

  rule13_e : T (rule13 s) → All s (λ i. In 13 14 s i → All s (λ j. s.forbidden j ≡ 1) × All s (λ j. Reads s j → ⊥))
  unfolding rule13
  rule13_e t i l h =
      let u = rule_e s (between 13 14) (all_1 && none_reads) t i l h in (
        column_e s s.forbidden 1 (and_l all_1 none_reads u),
        (λ j k r. no_both (reading (s.phase j)) r (every_at (λ i. not (reading (s.phase i))) s.threads (and_r all_1 none_reads u) j k)),
      )

  rule13_i : All s (λ i. In 13 14 s i → All s (λ j. s.forbidden j ≡ 1)) → All s (λ i. In 13 14 s i → All s (λ j. Reads s j → ⊥)) → T (rule13 s)
  unfolding rule13
  rule13_i f g =
      rule_i s (between 13 14) (all_1 && none_reads)
      (λ i l h. and_i all_1 none_reads (column_i s s.forbidden 1 (f i l h)) (every_i (λ i. not (reading (s.phase i))) s.threads (λ j k. not_i (reading (s.phase j)) (g i l h j k))))

  abbrev some_1 : Bool
  some_1 = some s.threads (λ i. eqb (s.forbidden i) 1)

  rule15_e : T (rule15 s) → All s (λ i. In 15 15 s i → Some s (λ j. s.forbidden j ≡ 1))
  unfolding rule15
  rule15_e t i l h = some_column_e s s.forbidden 1 (rule_e s (between 15 15) some_1 t i l h)

  rule15_i : All s (λ i. In 15 15 s i → Some s (λ j. s.forbidden j ≡ 1)) → T (rule15 s)
  unfolding rule15
  rule15_i f = rule_i s (between 15 15) some_1 (λ i l h. some_column_i s s.forbidden 1 (f i l h))

  elsewhere_e : T (elsewhere_rule s) → Some s (Elsewhere s)
  unfolding elsewhere_rule
  elsewhere_e t = not-every (λ i. backed_off (s.phase i)) s.threads t

  elsewhere_i : Some s (Elsewhere s) → T (elsewhere_rule s)
  unfolding elsewhere_rule
  elsewhere_i r =
      not_i (every s.threads (λ i. backed_off (s.phase i)))
      (λ t. no_both (backed_off (s.phase r.0)) (every_at (λ i. backed_off (s.phase i)) s.threads t r.0 r.1) r.2)

-- ---- all of them

-- a busy flag of the table of phases is 0 or 1, by trying the phases
pub busy_bit : (p : ℕ) → p ≤ last_phase → busy_in p ≤ 1
unfolding rows every
busy_bit p l = leb→le (busy_in p) 1 (every_at (λ q. leb (busy_in q) 1) (suc last_phase) tt p (omega arith))

none_left : T (all_of [])
unfolding all_of
none_left = tt

pub sound_e : (s : Table) → T (sound s) → Sound s
unfolding sound
sound_e s t =
    let a = take_rule _ _ t in
    let b = take_rule _ _ a.1 in
    let c = take_rule _ _ b.1 in
    let d = take_rule _ _ c.1 in
    let e = take_rule _ _ d.1 in
    let f = take_rule _ _ e.1 in
    let g = take_rule _ _ f.1 in
    let h = take_rule _ _ g.1 in
    let i = take_rule _ _ h.1 in
    let j = take_rule _ _ i.1 in
    let k = take_rule _ _ j.1 in
    let m = take_rule _ _ k.1 in
    record {
      phases = phases_e s a.0;
      flags = flags_e s b.0;
      busies = busies_e s c.0;
      one_holder = holder_e s d.0;
      held = (mutex_e s e.0).0;
      free = (mutex_e s e.0).1;
      has_target = (target_e s f.0).0;
      no_target_lem = (target_e s f.0).1;
      open_free = (open_e s g.0).0;
      open_held = (open_e s g.0).1;
      some_clear = λ x l y. (rule10_e s h.0 x l y).0;
      guarded_10 = λ x l y. (rule10_e s h.0 x l y).1;
      guarded_11 = rule11_e s i.0;
      all-forbidden = λ x l y. (rule13_e s j.0 x l y).0;
      no_reader = λ x l y. (rule13_e s j.0 x l y).1;
      some-forbidden = rule15_e s k.0;
      elsewhere = elsewhere_e s m.0;
    }

pub sound_i : (s : Table) → Sound s → T (sound s)
unfolding sound
sound_i s z =
    add_rule _ _ (phases_i s z.phases)
    (add_rule _ _ (flags_i s (λ j l. subst (λ (b : ℕ). b ≤ 1) (sym (z.busies j l)) (busy_bit (s.phase j) (z.phases j l))) z.flags)
    (add_rule _ _ (busies_i s z.busies)
    (add_rule _ _ (holder_i s z.one_holder)
    (add_rule _ _ (mutex_i s z.held z.free)
    (add_rule _ _ (target_i s z.has_target z.no_target_lem)
    (add_rule _ _ (open_i s z.open_free z.open_held)
    (add_rule _ _ (rule10_i s z.some_clear z.guarded_10)
    (add_rule _ _ (rule11_i s z.guarded_11)
    (add_rule _ _ (rule13_i s z.all-forbidden z.no_reader)
    (add_rule _ _ (rule15_i s z.some-forbidden) (add_rule _ _ (elsewhere_i s z.elsewhere) none_left)))))))))))

-- a task of a sound table is in one of the phases
pub task_fits : (s : Table) → T (sound s) → (i : ℕ) → i < s.threads → {task : Task} → task ≡ task_of s i → task.phase ≤ last_phase
task_fits s t i l e = subst⁻¹ (λ (x : Task). x.phase ≤ last_phase) e ((sound_e s t).phases i l)
