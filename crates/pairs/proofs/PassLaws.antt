-- The pass over the pairs (`Passed`): its start, that a turn judges its pair as the plain lock does, and its end.
use Prim.Native.Nat.{ℕ, ◌/◌, ◌≤◌, ◌<◌}
use native.Mathlib.Omega.{arith}
use mathlib.Core.List.{List}
use mathlib.Core.Path.{◌≡◌, refl, sym, subst, ap, ◌∙◌, fun_ext}
use lib.Dec.{T, eqb}
use lib.ListN.{length, get_or, set, take, replicate, length-set, length-replicate}
use Rattle.std.proofs.Common.{Result, Ok, Err}
use Rattle.definitions.specs.Answers.{answer_reply, number_of, accepted, refused, Test, answered, passes_all}
use Rattle.definitions.specs.Bounds.{most_threads}
use Rattle.definitions.specs.PlainLock.{Pair, pairs_of, Places, places_in, at_start, advanced, places_after, pair_tests, tests_of, pairs_tests}
use Rattle.definitions.specs.Threads.{gather}
use Rattle.definitions.specs.declared.Refusal.{Refusal}
use Rattle.definitions.specs.declared.Refused.{Refused}
use Rattle.plain_lock.specs.Counts.{total_at, standing_of, standing_after, Counted}
use Rattle.plain_lock.specs.declared.Standing.{Standing}
use Rattle.basics.proofs.Chunks.{Next}
use Rattle.basics.proofs.Lists.{zeros}
use Rattle.basics.proofs.Quantifiers.{how_many_none}
use Rattle.basics.proofs.Replies.{all-passed}
use Rattle.basics.proofs.TestLists.{one_more, first_failed}
use Rattle.theory.proofs.Lengths.{pairs-length}
use Rattle.plain_lock.proofs.PlainLaws.{no_pair, places_more, is_in_round, places_in-set}
use Rattle.plain_lock.proofs.StandingLaws.{is_counted, same-standing}
use Rattle.plain_lock.proofs.VerdictLaws.{VerdictOf, bad_verdict, fit_verdict}

-- ---- the pass

-- k pairs are passed: their tests are, and the places and the total are those after them
pub record Passed (n : ℕ) (h : List Pair) (places : List ℕ) (inside k : ℕ) : Type 0 where
  pub size : length places ≡ 256
  pub after : places_in places ≡ places_after at_start (take k h)
  pub counted : inside ≡ total_at n (places_in places)
  pub tested : T (passes_all (gather k (tests_of n h)))

pub passed_none : (n : ℕ) (h : List Pair) → Passed n h (replicate 256 0) 0 0
unfolding places_after gather passes_all
passed_none n h =
    record {
      size = length-replicate {A = ℕ} 256 0;
      after = fun_ext (zeros 256);
      counted = omega (
        arith,
        how_many_none (λ t. eqb (places_in (replicate 256 0) t) 2) n (λ t l. rw (zeros 256 t) tt),
        how_many_none (λ t. eqb (places_in (replicate 256 0) t) 6) n (λ t l. rw (zeros 256 t) tt),
      );
      tested = tt;
    }

-- past the last pair all have passed
pub passed-all : (n : ℕ) (bytes places : List ℕ) (inside k : ℕ) → Passed n (pairs_of bytes) places inside k → k ≡ length (pairs_of bytes)
    → accepted (length bytes / 2) ≡ answered (pairs_tests n bytes) (length (pairs_of bytes))
passed-all n bytes places inside k s e =
    ap accepted (sym (pairs-length bytes))
    ∙ sym (all-passed (length (pairs_of bytes)) (pairs_tests n bytes) (subst (λ (j : ℕ). T (passes_all (gather j (tests_of n (pairs_of bytes))))) e s.tested))

-- the next pair, as a turn of the pass judges it
module _ (n : ℕ) (few : n ≤ most_threads) (bytes a : List ℕ) (inside k : ℕ) (s : Passed n (pairs_of bytes) a inside k) (x : Pair) (next : ℕ) (t : Next (pairs_of bytes) k x next) where
  abbrev h : List Pair
  h = pairs_of bytes

  abbrev standing : Standing
  standing = record { place = places_in a x.thread; inside = inside }

  standing_is : standing ≡ standing_of n (places_in a) x.thread
  standing_is = same-standing refl s.counted

  pub counted_here : Counted n x.thread standing
  counted_here =
      subst (Counted n x.thread) (sym standing_is)
      (is_counted n (places_in a) few x.thread
      (λ e. is_in_round at_start (take k h) (λ t z. omega arith) x.thread (sym (ap (λ (p : Places). p x.thread) s.after) ∙ e)))

  tests_here : tests_of n h k ≡ pair_tests n (places_in a) k x
  unfolding tests_of
  tests_here = ap (λ (p : Places). pair_tests n p k (get_or h k no_pair)) (sym s.after) ∙ ap (pair_tests n (places_in a) k) (t.item no_pair)

  -- a bad pair is the answer, with its index as the place
  pub bad_here : (v : Result Standing Refusal) (out : Result ℕ Refused) (i : ℕ) → i ≡ k → (r : Refusal) × (v ≡ Err r) × (out ≡ Err (record { refusal = r; place = i })) → VerdictOf n x standing v
      → (answer : ℕ) → answer_reply out ≡ answered (pairs_tests n bytes) answer
  bad_here v out i e (r, w, o) judged answer =
      let after = standing_after standing x.event in
      ap answer_reply o
      ∙ (ap (refused (number_of r)) e
      ∙ sym (first_failed (tests_of n h) answer after k (length h) (number_of r) k t.within s.tested
      (ap (λ (ts : List Test). answered ts after) tests_here ∙ bad_verdict n (places_in a) x few standing standing_is v r w judged k)))

  -- one that fits leads on
  pub goes_on : (v : Result Standing Refusal) (z : Standing) → v ≡ Ok z → VerdictOf n x standing v → x.thread < 256 → Passed n h (set a x.thread z.place) z.inside next
  goes_on v z w judged byte =
      let fit = fit_verdict n (places_in a) x few standing standing_is v z w judged k in
      let m : places_in (set a x.thread z.place) ≡ advanced (places_in a) x = rw fit.placed (places_in-set a x (omega (arith, s.size))) in
      rw t.more
      (record {
        size = length-set a x.thread z.place ∙ s.size;
        after = m
            ∙ (ap (λ (p : Places). advanced p x) s.after
            ∙ (ap (advanced (places_after at_start (take k h))) (sym (t.item no_pair)) ∙ sym (places_more h k t.within)));
        counted = ap (λ (y : Standing). y.inside) fit.after ∙ ap (total_at n) (sym m);
        tested = one_more (tests_of n h) k s.tested (subst (λ (ts : List Test). T (passes_all ts)) (sym tests_here) fit.passes);
      })
