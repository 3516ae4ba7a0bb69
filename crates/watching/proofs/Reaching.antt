-- Whatever places the plain lock shows come of some permitted list of events (`reached`). First every thread that is outside goes to its place, alone inside on its way; then
-- those that are inside enter.
use Prim.Native.Nat.{ℕ, zero, suc, ◌≤◌, ◌<◌}
use native.Mathlib.Omega.{arith}
use mathlib.Core.Bool.{true, cond, not, ◌||◌}
use mathlib.Core.List.{List, [], ◌∷◌, ◌++◌}
use mathlib.Core.Logic.{◌⊎◌, inl, inr, ⊎_elim}
use mathlib.Core.Path.{◌≡◌, refl, sym, subst, ap, ◌∙◌, fun_ext}
use lib.Dec.{T, ltb, eqb, ltb→lt, lt→ltb}
use Rattle.definitions.specs.PlainLock.{Pair, Places, at_start, place_after, places_after, is_next, how_many_at, need_met}
use Rattle.definitions.specs.Table.{update}
use Rattle.definitions.specs.Threads.{some, among, between}
use Rattle.definitions.specs.Watch.{round_places}
use Rattle.orders.specs.Histories.{pair_of}
use Rattle.plain_lock.specs.Permitted.{pair_fits, permitted_from}
use Rattle.basics.proofs.Columns.{same_column, update-kept, update_twice, update_same, update_other}
use Rattle.basics.proofs.Cases.{or_at, none_of}
use Rattle.basics.proofs.Quantifiers.{none_i, how_many_pos, at_most_one}
use Rattle.basics.proofs.Tests.{and_i, or_l, or_r, no_both, eq_T, ne_T, not_i, cond_yes, cond_no, cond_either, below?}
use Rattle.plain_lock.proofs.PlainLaws.{permitted_append, places_append}
use Rattle.orders.proofs.PairTests.{permits_i}
use Rattle.watching.proofs.ShownPlaces.{Shown}

-- ---- from places to places

-- a permitted list of events leads from places p to places q
pub record Leads (n : ℕ) (p q : Places) : Type 0 where
  pub events : List Pair
  pub permits : T (permitted_from n p events)
  pub arrives : places_after p events ≡ q

stays : (n : ℕ) (p : Places) → Leads n p p
unfolding permitted_from places_after
stays n p = record { events = []; permits = tt; arrives = refl }

then : {n : ℕ} {p q r : Places} → Leads n p q → Leads n q r → Leads n p r
then {n} {p} {q} {r} a b =
    record {
      events = a.events ++ b.events;
      permits = subst T (sym (permitted_append n p a.events b.events))
          (and_i (permitted_from n p a.events) (permitted_from n (places_after p a.events) b.events) a.permits
          (subst (λ (k : Places). T (permitted_from n k b.events)) (sym a.arrives) b.permits));
      arrives = places_append p a.events b.events ∙ (ap (λ (k : Places). places_after k b.events) a.arrives ∙ b.arrives);
    }

arrive : {n : ℕ} {p q r : Places} → Leads n p q → q ≡ r → Leads n p r
arrive {n} {p} a e = subst (Leads n p) e a

-- ---- one thread

-- nobody is at a place
abbrev Nobody : ℕ → Places → ℕ → Type 0
Nobody n p place = (t : ℕ) → t < n → p t ≡ place → ⊥

nobody_there : (n : ℕ) (p : Places) (place : ℕ) → Nobody n p place → T (not (some n (λ t. eqb (p t) place)))
nobody_there n p place h = none_i (λ t. eqb (p t) place) n (λ t l. ne_T (p t) place (h t l))

-- thread k of the threads below n; at each of its places the others are at q
module _ (n : ℕ) (q : Places) (k : ℕ) (l : k < n) where
  abbrev at : ℕ → Places
  at place = update q k place

  nobody_still : (place mine : ℕ) → (mine ≡ place → ⊥) → Nobody n q place → Nobody n (at mine) place
  nobody_still place mine other h t b =
      cond_either (λ v. v ≡ place → ⊥) (eqb t k) mine (q t) (λ u. other) (λ u. h t b)

  event : (mine e : ℕ) → T (between 1 8 e) → T (is_next mine e) → T (need_met n (at mine) e) → Leads n (at mine) (at (place_after e))
  unfolding permitted_from places_after
  event mine e known next met =
      record {
        events = pair_of k e ∷ [];
        permits = and_i (pair_fits n (at mine) (pair_of k e)) true
            (permits_i n (at mine) (pair_of k e)
            (record { known = known; fits = l; next = subst (λ (v : ℕ). T (is_next v e)) (sym (update_same q k mine k refl)) next; met = met })) tt;
        arrives = update_twice q k mine (place_after e);
      }

  call_shared_lem : Leads n (at 0) (at 1)
  call_shared_lem = event 0 1 tt tt tt

  call_exclusive_lem : Leads n (at 0) (at 5)
  call_exclusive_lem = event 0 5 tt tt tt

  -- alone or beside readers
  enter-shared : Nobody n q 6 → Leads n (at 0) (at 2)
  enter-shared no_6 = then call_shared_lem (event 1 2 tt tt (nobody_there n (at 1) 6 (nobody_still 6 1 (λ e. omega arith) no_6)))

  leave_shared : Nobody n q 6 → Leads n (at 0) (at 3)
  leave_shared no_6 = then (enter-shared no_6) (event 2 3 tt tt tt)

  -- alone
  enter-exclusive : Nobody n q 2 → Nobody n q 6 → Leads n (at 0) (at 6)
  enter-exclusive no_2 no_6 =
      then call_exclusive_lem
      (event 5 6 tt tt
      (and_i (not (some n (λ t. eqb (at 5 t) 2))) (not (some n (λ t. eqb (at 5 t) 6)))
      (nobody_there n (at 5) 2 (nobody_still 2 5 (λ e. omega arith) no_2)) (nobody_there n (at 5) 6 (nobody_still 6 5 (λ e. omega arith) no_6))))

  leave_exclusive : Nobody n q 2 → Nobody n q 6 → Leads n (at 0) (at 7)
  leave_exclusive no_2 no_6 = then (enter-exclusive no_2 no_6) (event 6 7 tt tt tt)

-- ---- thread by thread

-- the threads below k are where g has them, the others where q has them
abbrev up_to : Places → Places → ℕ → Places
up_to q g k = λ t. cond (ltb t k) (g t) (q t)

module _ (n : ℕ) (q g : Places) where
  none_yet : up_to q g 0 ≡ q
  none_yet = fun_ext (λ t. cond_no (ltb t 0) (g t) (q t) (not_i (ltb t 0) (λ u. let b = ltb→lt t 0 u in absurd (omega arith))))

  one_more : (k : ℕ) → update (up_to q g k) k (g k) ≡ up_to q g (suc k)
  one_more k =
      same_column (update (up_to q g k) k (g k)) (up_to q g (suc k)) k
      (update_same (up_to q g k) k (g k) k refl ∙ sym (cond_yes (ltb k (suc k)) (g k) (q k) (lt→ltb k (suc k) (omega arith))))
      (λ t d. update_other (up_to q g k) k (g k) t d ∙ other t d (below? k t))
    where
      other : (t : ℕ) → (t ≡ k → ⊥) → (t < k) ⊎ (k ≤ t) → up_to q g k t ≡ up_to q g (suc k) t
      other t d (inl b) = cond_yes (ltb t k) (g t) (q t) (lt→ltb t k b) ∙ sym (cond_yes (ltb t (suc k)) (g t) (q t) (lt→ltb t (suc k) (omega arith)))
      other t d (inr b) =
          cond_no (ltb t k) (g t) (q t) (not_i (ltb t k) (λ u. let m = ltb→lt t k u in absurd (omega arith)))
          ∙ sym (cond_no (ltb t (suc k)) (g t) (q t) (not_i (ltb t (suc k)) (λ u. let m = ltb→lt t (suc k) u in d (omega arith))))

  -- thread k is still where q has it
  mine : (k : ℕ) → up_to q g k k ≡ q k
  mine k = cond_no (ltb k k) (g k) (q k) (not_i (ltb k k) (λ u. let b = ltb→lt k k u in absurd (omega arith)))

  fill : ((k : ℕ) → k < n → Leads n (up_to q g k) (update (up_to q g k) k (g k))) → (k : ℕ) → k ≤ n → Leads n q (up_to q g k)
  fill step zero b = arrive (stays n q) (sym none_yet)
  fill step (suc k) b = then (fill step k (omega arith)) (arrive (step k (omega arith)) (one_more k))

-- ---- two rounds over the threads

-- where a thread is before those that are inside enter
abbrev outside : ℕ → ℕ
outside place = cond (eqb place 2 || eqb place 6) 0 place

not-inside : (place : ℕ) → (outside place ≡ 2 → ⊥) × (outside place ≡ 6 → ⊥)
not-inside place =
    cond_either (λ v. (v ≡ 2 → ⊥) × (v ≡ 6 → ⊥)) (eqb place 2 || eqb place 6) 0 place
    (λ t. (λ e. omega arith, λ e. omega arith))
    (λ t. (
      λ e. no_both (eqb place 2 || eqb place 6) (or_l (eqb place 2) (eqb place 6) (eq_T place 2 e)) t,
      λ e. no_both (eqb place 2 || eqb place 6) (or_r (eqb place 2) (eqb place 6) (eq_T place 6 e)) t,
    ))

-- a step of one thread, from where it is
from : (n : ℕ) (q : Places) (k v w : ℕ) → q k ≡ v → Leads n (update q k v) (update q k w) → Leads n q (update q k w)
from n q k v w e a = subst (λ (r : Places). Leads n r (update q k w)) (update-kept q k v e) a

module _ (n : ℕ) (p : Places) (s : Shown n p) where
  -- in the first round the threads that are outside go to their places
  abbrev waiting : Places
  waiting = λ t. outside (p t)

  module _ (k : ℕ) (l : k < n) where
    abbrev so_far : Places
    so_far = up_to at_start waiting k

    no_one : (place : ℕ) → ((x : ℕ) → outside x ≡ place → ⊥) → (0 ≡ place → ⊥) → Nobody n so_far place
    no_one place other some t b = cond_either (λ v. v ≡ place → ⊥) (ltb t k) (waiting t) 0 (λ u. other (p t)) (λ u. some)

    no_2 : Nobody n so_far 2
    no_2 = no_one 2 (λ x. (not-inside x).0) (λ e. omega arith)

    no_6 : Nobody n so_far 6
    no_6 = no_one 6 (λ x. (not-inside x).1) (λ e. omega arith)

    abbrev goes : ℕ → Type 0
    goes v = Leads n (update so_far k 0) (update so_far k (outside v))

    -- by its place
    by_place : (v : ℕ) → T (among v round_places) → goes v
    by_place v =
        or_at v 0 _ (λ e. subst goes (sym e) (stays n _)) (or_at v 1 _ (λ e. subst goes (sym e) (call_shared_lem n so_far k l))
        (or_at v 2 _ (λ e. subst goes (sym e) (stays n _)) (or_at v 3 _ (λ e. subst goes (sym e) (leave_shared n so_far k l no_6))
        (or_at v 5 _ (λ e. subst goes (sym e) (call_exclusive_lem n so_far k l)) (or_at v 6 _ (λ e. subst goes (sym e) (stays n _))
        (or_at v 7 _ (λ e. subst goes (sym e) (leave_exclusive n so_far k l no_2 no_6)) (none_of v)))))))

    pub waits : Leads n so_far (update so_far k (waiting k))
    waits = from n so_far k 0 (waiting k) (mine n at_start waiting k) (by_place (p k) (s.rounds.round k l))

  abbrev halfway : Places
  halfway = up_to at_start waiting n

  -- in the second those that are inside enter
  module _ (k : ℕ) (l : k < n) where
    abbrev half_filled : Places
    half_filled = up_to halfway p k

    none_at : (place : ℕ) → ((x : ℕ) → outside x ≡ place → ⊥) → (0 ≡ place → ⊥) → ((t : ℕ) → t < n → t < k → p t ≡ place → ⊥) → Nobody n half_filled place
    none_at place other some earlier t b =
        cond_either (λ v. v ≡ place → ⊥) (ltb t k) (p t) (halfway t) (λ u. earlier t b (ltb→lt t k u))
        (λ u. cond_either (λ v. v ≡ place → ⊥) (ltb t n) (waiting t) 0 (λ u. other (p t)) (λ u. some))

    -- beside a thread in shared nobody is in exclusive, and beside one in exclusive nobody is in either
    count_pos : (t place : ℕ) → t < n → p t ≡ place → 1 ≤ how_many_at n p place
    count_pos t place b e = how_many_pos (λ j. eqb (p j) place) n t b (eq_T (p t) place e)

    beside_2 : p k ≡ 2 → (t : ℕ) → t < n → t < k → p t ≡ 6 → ⊥
    beside_2 e t b c d =
        ⊎_elim (λ z. omega (arith, count_pos t 6 b d)) (λ z. omega (arith, count_pos k 2 l e)) s.rounds.apart

    beside_6 : p k ≡ 6 → (t : ℕ) → t < n → t < k → p t ≡ 2 → ⊥
    beside_6 e t b c d =
        ⊎_elim (λ z. omega (arith, count_pos k 6 l e)) (λ z. omega (arith, count_pos t 2 b d)) s.rounds.apart

    one_6 : p k ≡ 6 → (t : ℕ) → t < n → t < k → p t ≡ 6 → ⊥
    one_6 e t b c d =
        let same = at_most_one (λ j. eqb (p j) 6) n s.rounds.one t k b l (eq_T (p t) 6 d) (eq_T (p k) 6 e) in
        absurd (omega arith)

    before : half_filled k ≡ outside (p k)
    before = mine n halfway p k ∙ cond_yes (ltb k n) (waiting k) 0 (lt→ltb k n l)

    starts : (v : ℕ) → p k ≡ v → half_filled k ≡ outside v
    starts v e = before ∙ ap outside e

    abbrev comes : ℕ → Type 0
    comes v = Leads n half_filled (update half_filled k v)

    -- one that is outside is where it should be
    there : (v : ℕ) → p k ≡ v → outside v ≡ v → comes v
    there v e same = from n half_filled k v v (starts v e ∙ same) (stays n (update half_filled k v))

    inside-place : (v : ℕ) → p k ≡ v → T (among v round_places) → comes v
    inside-place v here =
        or_at v 0 _ (λ e. there v here (ap outside e ∙ sym e)) (or_at v 1 _ (λ e. there v here (ap outside e ∙ sym e)) (or_at v 2 _ (λ e. subst comes (sym e) (reads (here ∙ e)))
        (or_at v 3 _ (λ e. there v here (ap outside e ∙ sym e)) (or_at v 5 _ (λ e. there v here (ap outside e ∙ sym e)) (or_at v 6 _ (λ e. subst comes (sym e) (writes (here ∙ e)))
        (or_at v 7 _ (λ e. there v here (ap outside e ∙ sym e)) (none_of v)))))))
      where
        reads : p k ≡ 2 → comes 2
        reads e = from n half_filled k 0 2 (starts 2 e) (enter-shared n half_filled k l (none_at 6 (λ x. (not-inside x).1) (λ d. omega arith) (beside_2 e)))

        writes : p k ≡ 6 → comes 6
        writes e =
            from n half_filled k 0 6 (starts 6 e)
            (enter-exclusive n half_filled k l (none_at 2 (λ x. (not-inside x).0) (λ d. omega arith) (beside_6 e)) (none_at 6 (λ x. (not-inside x).1) (λ d. omega arith) (one_6 e)))

    pub enters : Leads n half_filled (update half_filled k (p k))
    enters = inside-place (p k) refl (s.rounds.round k l)

  all_there : up_to halfway p n ≡ p
  all_there = fun_ext (λ t. by t (below? n t))
    where
      no : (t : ℕ) → n ≤ t → T (not (ltb t n))
      no t b = not_i (ltb t n) (λ u. let m = ltb→lt t n u in absurd (omega arith))

      by : (t : ℕ) → (t < n) ⊎ (n ≤ t) → up_to halfway p n t ≡ p t
      by t (inl b) = cond_yes (ltb t n) (p t) (halfway t) (lt→ltb t n b)
      by t (inr b) = cond_no (ltb t n) (p t) (halfway t) (no t b) ∙ (cond_no (ltb t n) (waiting t) 0 (no t b) ∙ sym (s.rest t b))

  pub reached : Leads n at_start p
  reached = then (fill n at_start waiting waits n (omega arith)) (arrive (fill n halfway p enters n (omega arith)) all_there)
