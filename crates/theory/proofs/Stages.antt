-- How a table is shown to be sound: its threads' own bytes fit (`Fits`), and either no thread is the holder (`nobody_sound`) or thread h alone is, in phase p, with what p's rule says (`held-sound`).
use Prim.Native.Nat.{ℕ, ◌≤◌, ◌<◌}
use native.Mathlib.Omega.{arith}
use mathlib.Core.Bool.{Bool, not, ◌||◌}
use mathlib.Core.Logic.{⊎_elim}
use mathlib.Core.Path.{◌≡◌, refl, sym, subst, ap, ◌∙◌}
use lib.Dec.{T, leb, eqb, leb→le, le→leb, eqb→eq}
use Rattle.definitions.specs.Bounds.{most_threads, last_phase, no_target}
use Rattle.definitions.specs.Phases.{rows, busy_in, holds}
use Rattle.definitions.specs.Sound.{sound, opened, backed_off}
use Rattle.definitions.specs.Table.{Table, count_fits, fresh_table, table_of, fresh}
use Rattle.definitions.specs.Threads.{every, between, implies}
use Rattle.theory.proofs.Bytes.{fresh-table}
use Rattle.basics.proofs.Quantifiers.{every_at}
use Rattle.theory.proofs.Soundness.{All, Some, In, Holds, Reads, Elsewhere, sound_i}
use Rattle.basics.proofs.Tests.{and_l, and_r, and_i, or_e, decided, no_both, not_i, implies_e}

-- ---- phases from a to b

pub between_e : (a b p : ℕ) → T (between a b p) → (a ≤ p) × (p ≤ b)
between_e a b p t = (leb→le a p (and_l (leb a p) (leb p b) t), leb→le p b (and_r (leb a p) (leb p b) t))

-- N is up to 200
pub count_most : (n : ℕ) → T (count_fits n) → n ≤ most_threads
count_most n t = (between_e 1 most_threads n t).1

pub between_i : (a b p : ℕ) → a ≤ p → p ≤ b → T (between a b p)
between_i a b p k l = and_i (leb a p) (leb p b) (le→leb a p k) (le→leb p b l)

-- two ranges, one below the other, have no phase in common
pub apart : (a b c d p : ℕ) → b < c → T (between a b p) → T (between c d p) → ⊥
apart a b c d p k t u = let x = between_e a b p t in let y = between_e c d p u in omega arith

-- a writer holds from 10 to 16, by trying the phases
pub range_holds : (a b : ℕ) → 10 ≤ a → b ≤ 16 → (p : ℕ) → T (between a b p) → T (holds p)
unfolding rows every
range_holds a b low high p t =
    let x = between_e a b p t in
    implies_e (between 10 16 p) (holds p) (every_at (λ q. implies (between 10 16 q) (holds q)) 17 tt p (omega arith)) (between_i 10 16 p (omega arith) (omega arith))

-- and the phases that keep no thread out are two of the holder's
pub opened-holds : (p : ℕ) → T (opened p) → T (holds p)
unfolding rows
opened-holds p t = ⊎_elim (λ u. rw (eqb→eq p 16 u) tt) (λ u. rw (eqb→eq p 18 u) tt) (or_e (eqb p 16) (eqb p 18) t)

-- they are neither of a to b where these are below 16
pub opened_apart : (a b p : ℕ) → b < 16 → T (between a b p) → T (opened p) → ⊥
opened_apart a b p l t u =
    let x = between_e a b p t in ⊎_elim (λ v. let e = eqb→eq p 16 v in omega arith) (λ v. let e = eqb→eq p 18 v in omega arith) (or_e (eqb p 16) (eqb p 18) u)

-- 3, 4 and 18 are neither of a to b where these are from 5 to 17
pub backed_apart : (a b p : ℕ) → 5 ≤ a → b ≤ 17 → T (between a b p) → T (backed_off p) → ⊥
backed_apart a b p k l t u =
    let x = between_e a b p t in
    ⊎_elim
    (λ v. ⊎_elim (λ w. let e = eqb→eq p 3 w in omega arith) (λ w. let e = eqb→eq p 4 w in omega arith) (or_e (eqb p 3) (eqb p 4) v))
    (λ v. let e = eqb→eq p 18 v in omega arith)
    (or_e (eqb p 3 || eqb p 4) (eqb p 18) u)

-- ---- what is to be shown

-- each thread's own three bytes
pub record Fits (s : Table) : Type 0 where
  pub phases : All s (λ j. s.phase j ≤ last_phase)
  pub flags : All s (λ j. s.forbidden j ≤ 1)
  pub busies : All s (λ j. s.busy j ≡ busy_in (s.phase j))

-- thread h, in phase p, is the holder
pub record Holder (s : Table) (h p : ℕ) : Type 0 where
  pub is_thread : h < s.threads
  pub phase_is : s.phase h ≡ p
  pub holding : T (holds p)
  pub alone : All s (λ j. Holds s j → j ≡ h)
  pub locked : s.mutex ≡ 1

-- the rules by the holder's phase p
pub record Stage (s : Table) (p : ℕ) : Type 0 where
  pub untargeted : T (not (between 11 12 p)) → s.target ≡ no_target
  pub in_10 : T (between 10 10 p) → Some s (λ j. s.forbidden j ≡ 0) × All s (λ j. s.forbidden j ≡ 1 → Reads s j → ⊥)
  pub in_11 : T (between 11 12 p) → (s.target < s.threads) × (s.forbidden s.target ≡ 1) × All s (λ j. (j ≡ s.target → ⊥) → s.forbidden j ≡ 1 → Reads s j → ⊥)
  pub in_13 : T (between 13 14 p) → All s (λ j. s.forbidden j ≡ 1) × All s (λ j. Reads s j → ⊥)
  pub in_15 : T (between 15 15 p) → Some s (λ j. s.forbidden j ≡ 1)
  pub in_opened : T (opened p) → All s (λ j. s.forbidden j ≡ 0)
  pub in_backed_off : T (backed_off p) → Some s (Elsewhere s)

module _ (s : Table) (h p : ℕ) (holder : Holder s h p) where
  -- a thread in phases that only the holder can be in is the holder
  at_holder : (f : ℕ → Bool) → ((q : ℕ) → T (f q) → T (holds q)) → All s (λ i. T (f (s.phase i)) → T (f p))
  at_holder f only i l m =
      let e = holder.alone i l (only (s.phase i) m) in
      subst (λ (x : ℕ). T (f x)) (ap s.phase e ∙ holder.phase_is) m

  holder_in : (a b : ℕ) → T (between a b p) → In a b s h
  holder_in a b t = subst (λ (x : ℕ). T (between a b x)) (sym holder.phase_is) t

  pub held-sound : Fits s → Stage s p → T (sound s)
  held-sound fits stage =
      let at : (a b : ℕ) → 10 ≤ a → b ≤ 16 → All s (λ i. In a b s i → T (between a b p)) =
      λ a b low high. at_holder (between a b) (range_holds a b low high) in
      let here : Holds s h = subst (λ (x : ℕ). T (holds x)) (sym holder.phase_is) holder.holding in
      sound_i s
      record {
        phases = fits.phases;
        flags = fits.flags;
        busies = fits.busies;
        one_holder = λ i k j l a b. holder.alone i k a ∙ sym (holder.alone j l b);
        held = λ i l m. holder.locked;
        free = λ none. absurd (none h holder.is_thread here);
        has_target = λ i l m. let r = stage.in_11 (at 11 12 (omega arith) (omega arith) i l m) in (r.0, r.1);
        no_target_lem = λ none. stage.untargeted (not_i (between 11 12 p) (λ t. none h holder.is_thread (holder_in 11 12 t)));
        open_free = λ none. absurd (none h holder.is_thread here);
        open_held = λ i l m. stage.in_opened (at_holder opened opened-holds i l m);
        some_clear = λ i l m. (stage.in_10 (at 10 10 (omega arith) (omega arith) i l m)).0;
        guarded_10 = λ i l m. (stage.in_10 (at 10 10 (omega arith) (omega arith) i l m)).1;
        guarded_11 = λ i l m. (stage.in_11 (at 11 12 (omega arith) (omega arith) i l m)).2;
        all-forbidden = λ i l m. (stage.in_13 (at 13 14 (omega arith) (omega arith) i l m)).0;
        no_reader = λ i l m. (stage.in_13 (at 13 14 (omega arith) (omega arith) i l m)).1;
        some-forbidden = λ i l m. stage.in_15 (at 15 15 (omega arith) (omega arith) i l m);
        elsewhere = ⊎_elim stage.in_backed_off (λ n. (h, holder.is_thread, subst (λ (x : ℕ). T (not (backed_off x))) (sym holder.phase_is) n)) (decided (backed_off p));
      }

pub nobody_sound : (s : Table) → Fits s → All s (λ j. Holds s j → ⊥) → s.mutex ≡ 0 → s.target ≡ no_target → All s (λ j. s.forbidden j ≡ 0) → Some s (Elsewhere s)
    → T (sound s)
nobody_sound s fits none m g f r =
    let no : (a b : ℕ) → 10 ≤ a → b ≤ 16 → All s (λ j. In a b s j → ⊥) = λ a b low high j l t. none j l (range_holds a b low high (s.phase j) t) in
    sound_i s
    record {
      phases = fits.phases;
      flags = fits.flags;
      busies = fits.busies;
      one_holder = λ i k j l a b. absurd (none i k a);
      held = λ i l t. absurd (none i l t);
      free = λ x. m;
      has_target = λ i l t. absurd (no 11 12 (omega arith) (omega arith) i l t);
      no_target_lem = λ x. g;
      open_free = λ x. f;
      open_held = λ i l t. f;
      some_clear = λ i l t. absurd (no 10 10 (omega arith) (omega arith) i l t);
      guarded_10 = λ i l t. absurd (no 10 10 (omega arith) (omega arith) i l t);
      guarded_11 = λ i l t. absurd (no 11 12 (omega arith) (omega arith) i l t);
      all-forbidden = λ i l t. absurd (no 13 14 (omega arith) (omega arith) i l t);
      no_reader = λ i l t. absurd (no 13 14 (omega arith) (omega arith) i l t);
      some-forbidden = λ i l t. absurd (no 15 15 (omega arith) (omega arith) i l t);
      elsewhere = r;
    }

-- ---- each stage

module _ (s : Table) where
  pub stage_10 : s.target ≡ no_target → Some s (λ j. s.forbidden j ≡ 0) → All s (λ j. s.forbidden j ≡ 1 → Reads s j → ⊥) → Stage s 10
  stage_10 g f r =
      record { untargeted = λ t. g; in_10 = λ t. (f, r); in_11 = λ t. absurd t; in_13 = λ t. absurd t; in_15 = λ t. absurd t; in_opened = λ t. absurd t; in_backed_off = λ t. absurd t }

  pub stage_11 : (p : ℕ) → T (between 11 12 p) → s.target < s.threads → s.forbidden s.target ≡ 1
      → All s (λ j. (j ≡ s.target → ⊥) → s.forbidden j ≡ 1 → Reads s j → ⊥) → Stage s p
  stage_11 p m l f r =
      record {
        untargeted = λ t. absurd (no_both (between 11 12 p) m t);
        in_10 = λ t. absurd (apart 10 10 11 12 p (omega arith) t m);
        in_11 = λ t. (l, f, r);
        in_13 = λ t. absurd (apart 11 12 13 14 p (omega arith) m t);
        in_15 = λ t. absurd (apart 11 12 15 15 p (omega arith) m t);
        in_opened = λ t. absurd (opened_apart 11 12 p (omega arith) m t);
        in_backed_off = λ t. absurd (backed_apart 11 12 p (omega arith) (omega arith) m t);
      }

  pub stage_13 : (p : ℕ) → T (between 13 14 p) → s.target ≡ no_target → All s (λ j. s.forbidden j ≡ 1) → All s (λ j. Reads s j → ⊥) → Stage s p
  stage_13 p m g f r =
      record {
        untargeted = λ t. g;
        in_10 = λ t. absurd (apart 10 10 13 14 p (omega arith) t m);
        in_11 = λ t. absurd (apart 11 12 13 14 p (omega arith) t m);
        in_13 = λ t. (f, r);
        in_15 = λ t. absurd (apart 13 14 15 15 p (omega arith) m t);
        in_opened = λ t. absurd (opened_apart 13 14 p (omega arith) m t);
        in_backed_off = λ t. absurd (backed_apart 13 14 p (omega arith) (omega arith) m t);
      }

  pub stage_15 : s.target ≡ no_target → Some s (λ j. s.forbidden j ≡ 1) → Stage s 15
  stage_15 g f =
      record { untargeted = λ t. g; in_10 = λ t. absurd t; in_11 = λ t. absurd t; in_13 = λ t. absurd t; in_15 = λ t. f; in_opened = λ t. absurd t; in_backed_off = λ t. absurd t }

  pub stage_opened : (p : ℕ) → T (opened p) → s.target ≡ no_target → All s (λ j. s.forbidden j ≡ 0) → (T (backed_off p) → Some s (Elsewhere s)) → Stage s p
  stage_opened p o g f r =
      record {
        untargeted = λ t. g;
        in_10 = λ t. absurd (opened_apart 10 10 p (omega arith) t o);
        in_11 = λ t. absurd (opened_apart 11 12 p (omega arith) t o);
        in_13 = λ t. absurd (opened_apart 13 14 p (omega arith) t o);
        in_15 = λ t. absurd (opened_apart 15 15 p (omega arith) t o);
        in_opened = λ t. f;
        in_backed_off = r;
      }

-- ---- the fresh table

pub fresh-fits : (n : ℕ) → 1 ≤ n → T (sound (fresh_table n))
unfolding rows
fresh-fits n least =
    nobody_sound (fresh_table n) record { phases = λ j l. omega arith; flags = λ j l. omega arith; busies = λ j l. refl }
    (λ j l t. t) refl refl (λ j l. refl) (0, omega arith, tt)

pub fresh-sound : (n : ℕ) → 1 ≤ n → T (sound (table_of (fresh n)))
fresh-sound n least = subst (λ (s : Table). T (sound s)) (sym (fresh-table n)) (fresh-fits n least)
