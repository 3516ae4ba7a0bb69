-- The history `longest`, for every N and number of rounds: it is permitted (`longest-permitted`), and has so many events and so many moves (`longest-events`, `longest-moves`).
use Prim.Native.Nat.{ℕ, zero, suc, ◌+◌, ◌*◌, ◌≤◌, ◌<◌}
use native.Mathlib.Omega.{arith}
use mathlib.Core.Bool.{not}
use mathlib.Core.List.{List, [], ◌∷◌, ◌++◌, append_assoc, append-nil}
use mathlib.Core.Path.{◌≡◌, refl, subst, ◌∙◌}
use lib.Dec.{T, eqb}
use lib.ListN.{length, length-append}
use Rattle.definitions.specs.PlainLock.{Pair, Places, at_start, place_after, is_next, need_met, permitted}
use Rattle.definitions.specs.Plan.{plan}
use Rattle.definitions.specs.Table.{update}
use Rattle.definitions.specs.Threads.{some, gather, between}
use Rattle.plan_lengths.specs.Rounds.{exclusive_round, whole_round, unfinished, longest}
use Rattle.orders.specs.Histories.{pair_of}
use Rattle.plain_lock.specs.Permitted.{pair_fits, permitted_from}
use Rattle.basics.proofs.Columns.{update-kept, update_twice, update_same, update_other}
use Rattle.basics.proofs.Gathering.{gather-length}
use Rattle.basics.proofs.Quantifiers.{none_i}
use Rattle.basics.proofs.Tests.{and_i, cond_either}
use Rattle.plain_lock.proofs.PlainLaws.{permitted_is}
use Rattle.orders.proofs.PairTests.{permits_i}
use Rattle.theory.proofs.PlanLengths.{moves_for, moves_more, moves_append}
use Rattle.plan_lengths.proofs.RoundCosts.{exclusive_round_lem}

-- ---- permitted

-- nobody is at a place
abbrev Empty : ℕ → Places → Type 0
Empty place p = (j : ℕ) → T (not (eqb (p j) place))

-- nobody is inside, and the threads from k on are at the start
record Outside (k : ℕ) (p : Places) : Type 0 where
  pub no_reader : Empty 2 p
  pub no_writer : Empty 6 p
  pub waiting : (j : ℕ) → k ≤ j → p j ≡ 0

all_outside : Outside 0 at_start
all_outside = record { no_reader = λ j. tt; no_writer = λ j. tt; waiting = λ j l. refl }

-- thread t goes from place to place, and the others stay where they are at p
module _ (n t : ℕ) (l : t < n) (p : Places) (o : Outside t p) where
  abbrev at : ℕ → Places
  at place = update p t place

  here : at 0 ≡ p
  here = update-kept p t 0 (o.waiting t (omega arith))

  still_empty : (place mine : ℕ) → T (not (eqb mine place)) → Empty place p → Empty place (at mine)
  still_empty place mine other empty j = cond_either (λ v. T (not (eqb v place))) (eqb j t) mine (p j) (λ u. other) (λ u. empty j)

  nobody_at : (place : ℕ) → T (not (eqb 5 place)) → Empty place p → T (not (some n (λ j. eqb (at 5 j) place)))
  nobody_at place other empty = none_i (λ j. eqb (at 5 j) place) n (λ j m. still_empty place 5 other empty j)

  -- an event, then the rest of the history
  event : (mine e : ℕ) (h : List Pair) → T (between 1 8 e) → T (is_next mine e) → T (need_met n (at mine) e) → T (permitted_from n (at (place_after e)) h)
      → T (permitted_from n (at mine) (pair_of t e ∷ h))
  unfolding permitted_from
  event mine e h known next met rest =
      and_i (pair_fits n (at mine) (pair_of t e)) _
      (permits_i n (at mine) (pair_of t e) (record { known = known; fits = l; next = rw (update_same p t mine t refl) next; met = met }))
      (rw (update_twice p t mine (place_after e)) rest)

  goes_in : (h : List Pair) → T (permitted_from n (at 7) h) → T (permitted_from n p (unfinished t ++ h))
  goes_in h rest =
      subst (λ (q : Places). T (permitted_from n q (unfinished t ++ h))) here
      (event 0 5 _ tt tt tt
      (event 5 6 _ tt tt (and_i (not (some n (λ j. eqb (at 5 j) 2))) _ (nobody_at 2 tt o.no_reader) (nobody_at 6 tt o.no_writer)) (event 6 7 h tt tt tt rest)))

  goes_round : (h : List Pair) → T (permitted_from n p h) → T (permitted_from n p (whole_round t ++ h))
  goes_round h rest = goes_in (pair_of t 8 ∷ h) (event 7 8 h tt tt tt (rw here rest))

  -- it stops behind its 7
  stopped : Outside (suc t) (at 7)
  stopped =
      record {
        no_reader = still_empty 2 7 tt o.no_reader;
        no_writer = still_empty 6 7 tt o.no_writer;
        waiting = λ j m. update_other p t 7 j (λ e. omega arith) ∙ o.waiting j (omega arith);
      }

module _ (n : ℕ) where
  -- thread 0's rounds, then the rest of the history
  all_round : 1 ≤ n → (k : ℕ) (h : List Pair) → T (permitted_from n at_start h) → T (permitted_from n at_start (gather k (λ i. whole_round 0) ++ h))
  unfolding gather
  all_round l zero h rest = rest
  all_round l (suc k) h rest =
      rw (append_assoc (gather k (λ i. whole_round 0)) (whole_round 0) h) (all_round l k _ (goes_round n 0 l at_start all_outside h rest))

  -- the rounds of the threads below k, then the rest
  all-stop : (k : ℕ) → k ≤ n → (h : List Pair) → ((p : Places) → Outside k p → T (permitted_from n p h)) → T (permitted_from n at_start (gather k unfinished ++ h))
  unfolding gather
  all-stop zero l h rest = rest at_start all_outside
  all-stop (suc k) l h rest =
      rw (append_assoc (gather k unfinished) (unfinished k) h) (all-stop k (omega arith) _ (λ p o. goes_in n k l p o h (rest _ (stopped n k l p o))))

  pub longest-permitted : (times : ℕ) → 1 ≤ n → T (permitted n (longest n times))
  unfolding permitted_from longest
  longest-permitted times l =
      rw (permitted_is n (longest n times)) (all_round l times _ (rw append-nil at (all-stop n (omega arith) [] (λ p o. tt))))

  -- ---- events and moves

  pub longest-events : (times : ℕ) → length (longest n times) ≡ 4 * times + 3 * n
  unfolding longest
  longest-events times =
      simp length-append (omega (arith, gather-length (λ k. whole_round 0) 4 times (λ k. refl), gather-length unfinished 3 n (λ k. refl)))

  gather-moves : (f : ℕ → List Pair) (m k : ℕ) → ((i : ℕ) → length (plan n (f i)) ≡ m) → length (plan n (gather k f)) ≡ m * k
  unfolding gather plan
  gather-moves f m zero e = omega arith
  gather-moves f m (suc k) e = omega (arith, moves_append n (gather k f) (f k), e k, gather-moves f m k e)

  pub longest-moves : (times : ℕ) → length (plan n (longest n times)) ≡ exclusive_round n * times + (3 * n + 5) * n
  unfolding longest plan moves_for
  longest-moves times =
      simp (moves_append n)
      (omega (
        arith,
        gather-moves (λ k. whole_round 0) (exclusive_round n) times (λ k. omega (arith, exclusive_round_lem n 0 [] [] [] [] [])),
        gather-moves unfinished (3 * n + 5) n (λ t. simp (moves_more n) (omega arith)),
      ))
