-- A consistent record as statements on its threads (`Consistent`), and that it is the record of its own places (`is_record`).
use Prim.Native.Nat.{ℕ, ◌≤◌, ◌<◌}
use native.Mathlib.Omega.{arith}
use mathlib.Core.Bool.{Bool, true, cond, ◌&&◌, ◌||◌}
use mathlib.Core.List.{List}
use mathlib.Core.Logic.{◌⊎◌, inl, inr, ⊎_elim}
use mathlib.Core.Path.{◌≡◌, refl, sym, subst, ◌∙◌}
use lib.Dec.{T, leb, ltb, eqb, leb→le, le→leb, ltb→lt, lt→ltb, eqb→eq}
use lib.ListN.{length}
use lib.Seq.{ext_get_or}
use Rattle.definitions.specs.Bounds.{most_threads}
use Rattle.definitions.specs.PlainLock.{Places, places_in, how_many_at}
use Rattle.definitions.specs.Threads.{every, list_of, among, all_of, implies}
use Rattle.definitions.specs.Watch.{record_of, round_places, places_fit, consistent}
use Rattle.definitions.specs.declared.Watcher.{Watcher}
use Rattle.basics.proofs.Cases.{or_at, none_of}
use Rattle.basics.proofs.Lists.{length-list_of, get_d_list_of}
use Rattle.basics.proofs.Quantifiers.{every_at, every_i}
use Rattle.basics.proofs.Tests.{and_l, and_r, and_i, or_e, or_l, or_r, implies_e, implies_i, eq_T, cond_yes, cond_no, not_i, below?}

-- ---- places

-- what `places_fit` says of the places of the threads below n
pub record InRounds (n : ℕ) (p : Places) : Type 0 where
  pub round : (t : ℕ) → t < n → T (among (p t) round_places)
  pub one : how_many_at n p 6 ≤ 1
  pub apart : (how_many_at n p 6 ≡ 0) ⊎ (how_many_at n p 2 ≡ 0)

module _ (n : ℕ) (p : Places) where
  abbrev rounds : Bool
  rounds = every n (λ t. among (p t) round_places)

  abbrev alone : Bool
  alone = leb (how_many_at n p 6) 1

  abbrev kept_apart : Bool
  kept_apart = eqb (how_many_at n p 6) 0 || eqb (how_many_at n p 2) 0

  pub rounds_e : T (places_fit n p) → InRounds n p
  unfolding places_fit all_of
  rounds_e t =
      let rest = and_r rounds (alone && (kept_apart && true)) t in
      let last = and_l kept_apart true (and_r alone (kept_apart && true) rest) in
      record {
        round = every_at (λ k. among (p k) round_places) n (and_l rounds (alone && (kept_apart && true)) t);
        one = leb→le (how_many_at n p 6) 1 (and_l alone (kept_apart && true) rest);
        apart = ⊎_elim (λ u. inl (eqb→eq (how_many_at n p 6) 0 u)) (λ u. inr (eqb→eq (how_many_at n p 2) 0 u)) (or_e (eqb (how_many_at n p 6) 0) (eqb (how_many_at n p 2) 0) last);
      }

  pub rounds_i : InRounds n p → T (places_fit n p)
  unfolding places_fit all_of
  rounds_i r =
      and_i rounds (alone && (kept_apart && true)) (every_i (λ k. among (p k) round_places) n r.round)
      (and_i alone (kept_apart && true) (le→leb (how_many_at n p 6) 1 r.one)
      (and_i kept_apart true (⊎_elim
      (λ e. or_l (eqb (how_many_at n p 6) 0) (eqb (how_many_at n p 2) 0) (eq_T (how_many_at n p 6) 0 e))
      (λ e. or_r (eqb (how_many_at n p 6) 0) (eqb (how_many_at n p 2) 0) (eq_T (how_many_at n p 2) 0 e))
      r.apart) tt))

-- a place of a round is at most 7 and isn't 4
not_4 : (x : ℕ) → x ≡ 4 → T (among x round_places) → ⊥
unfolding among
not_4 x e t = subst (λ (k : ℕ). T (among k round_places)) e t

pub round_e : (x : ℕ) → T (among x round_places) → (x ≤ 7) × (x ≡ 4 → ⊥)
round_e x t = (small t, λ e. not_4 x e t)
  where
    small : T (among x round_places) → x ≤ 7
    small =
        or_at x 0 _ (λ e. omega arith) (or_at x 1 _ (λ e. omega arith) (or_at x 2 _ (λ e. omega arith) (or_at x 3 _ (λ e. omega arith)
        (or_at x 5 _ (λ e. omega arith) (or_at x 6 _ (λ e. omega arith) (or_at x 7 _ (λ e. omega arith) (none_of x)))))))

pub round_i : (x : ℕ) → x ≤ 7 → (x ≡ 4 → ⊥) → T (among x round_places)
unfolding every among
round_i x small no_4 =
    ⊎_elim (λ t. t) (λ t. absurd (no_4 (eqb→eq x 4 t)))
    (or_e (among x round_places) (eqb x 4) (every_at (λ k. among k round_places || eqb k 4) 8 tt x (omega arith)))

-- ---- records

-- what `consistent` says of a record
pub record Consistent (w : Watcher) : Type 0 where
  pub shared : w.shared ≡ how_many_at w.threads (places_in w.places) 2
  pub exclusive : w.exclusive ≡ how_many_at w.threads (places_in w.places) 6
  pub rest : (t : ℕ) → w.threads ≤ t → t < most_threads → places_in w.places t ≡ 0
  pub rounds : InRounds w.threads (places_in w.places)

module _ (w : Watcher) where
  abbrev n : ℕ
  n = w.threads

  abbrev p : Places
  p = places_in w.places

  abbrev readers : Bool
  readers = eqb w.shared (how_many_at n p 2)

  abbrev writers : Bool
  writers = eqb w.exclusive (how_many_at n p 6)

  abbrev empty : ℕ → Bool
  empty t = implies (leb n t) (eqb (p t) 0)

  pub consistent_e : T (consistent w) → Consistent w
  unfolding consistent all_of
  consistent_e t =
      let a = and_r readers (writers && (every most_threads empty && (places_fit n p && true))) t in
      let b = and_r writers (every most_threads empty && (places_fit n p && true)) a in
      let c = and_r (every most_threads empty) (places_fit n p && true) b in
      record {
        shared = eqb→eq w.shared (how_many_at n p 2) (and_l readers _ t);
        exclusive = eqb→eq w.exclusive (how_many_at n p 6) (and_l writers _ a);
        rest = λ k least most.
            eqb→eq (p k) 0 (implies_e (leb n k) (eqb (p k) 0) (every_at empty most_threads (and_l (every most_threads empty) _ b) k most) (le→leb n k least));
        rounds = rounds_e n p (and_l (places_fit n p) true c);
      }

  pub consistent_i : Consistent w → T (consistent w)
  unfolding consistent all_of
  consistent_i c =
      and_i readers (writers && (every most_threads empty && (places_fit n p && true))) (eq_T w.shared (how_many_at n p 2) c.shared)
      (and_i writers (every most_threads empty && (places_fit n p && true)) (eq_T w.exclusive (how_many_at n p 6) c.exclusive)
      (and_i (every most_threads empty) (places_fit n p && true)
      (every_i empty most_threads (λ t l. implies_i (leb n t) (eqb (p t) 0) (λ u. eq_T (p t) 0 (c.rest t (leb→le n t u) l))))
      (and_i (places_fit n p) true (rounds_i n p c.rounds) tt)))

-- ---- the record of its places

pub same_record : {a b c a' b' c' : ℕ} {d d' : List ℕ} → a ≡ a' → b ≡ b' → c ≡ c' → d ≡ d'
    → ◌≡◌ {A = Watcher} (record { threads = a; shared = b; exclusive = c; places = d }) (record { threads = a'; shared = b'; exclusive = c'; places = d' })
same_record p q r s = rw (p, q, r, s)

-- 200 entries, those from n upward 0
pub entries_are : (n : ℕ) (p : Places) (entries : List ℕ) → length entries ≡ most_threads
    → ((t : ℕ) → t < n → places_in entries t ≡ p t) → ((t : ℕ) → n ≤ t → t < most_threads → places_in entries t ≡ 0)
    → entries ≡ list_of most_threads (λ t. cond (ltb t n) (p t) 0)
entries_are n p entries long inside outside =
    ext_get_or 0 entries (list_of most_threads f) (long ∙ sym (length-list_of most_threads f)) (λ t l. at t (omega arith) ∙ sym (get_d_list_of most_threads f t 0 (omega arith)))
  where
    f : ℕ → ℕ
    f t = cond (ltb t n) (p t) 0

    at : (t : ℕ) → t < most_threads → places_in entries t ≡ cond (ltb t n) (p t) 0
    at t l =
        ⊎_elim (λ k. inside t k ∙ sym (cond_yes (ltb t n) (p t) 0 (lt→ltb t n k)))
        (λ k. outside t k l ∙ sym (cond_no (ltb t n) (p t) 0 (not_i (ltb t n) (λ u. let m = ltb→lt t n u in absurd (omega arith)))))
        (below? n t)

-- the entries of a record
pub entry_of : (n : ℕ) (p : Places) (t : ℕ) → t < most_threads → places_in (record_of n p).places t ≡ cond (ltb t n) (p t) 0
entry_of n p t l = get_d_list_of most_threads (λ k. cond (ltb k n) (p k) 0) t 0 l

pub is_record : (w : Watcher) → length w.places ≡ most_threads → Consistent w → w ≡ record_of w.threads (places_in w.places)
is_record w long c =
    same_record refl c.shared c.exclusive
    (entries_are w.threads (places_in w.places) w.places long (λ t l. refl) c.rest)
