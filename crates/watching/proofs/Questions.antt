-- "Is anybody inside?": the totals of a consistent record are counts, so that one of them isn't 0 exactly if some thread is in shared or in exclusive (`inside_is`, `question_of`,
-- `question_answered`).
use Prim.Native.Nat.{ℕ, ◌≤◌}
use mathlib.Core.Bool.{Bool, false, not, ◌||◌}
use mathlib.Core.List.{List, [], ◌∷◌}
use mathlib.Core.Logic.{⊎_elim}
use mathlib.Core.Path.{◌≡◌, sym, ap, ◌∙◌}
use lib.Dec.{T, eqb}
use Rattle.definitions.specs.Answers.{accepted, test}
use Rattle.definitions.specs.Bounds.{most_threads}
use Rattle.definitions.specs.PlainLock.{Pair, Places, places_in, at_start, places_after, how_many_at}
use Rattle.definitions.specs.Table.{count_fits}
use Rattle.definitions.specs.Threads.{some, among}
use Rattle.definitions.specs.Watch.{consistent, record_tests, question_reply}
use Rattle.definitions.specs.declared.Watcher.{Watcher}
use Rattle.plain_lock.specs.Permitted.{permitted_from}
use Rattle.basics.proofs.Cases.{or_at, none_of}
use Rattle.basics.proofs.Quantifiers.{some_i, some_e, some-how_many}
use Rattle.basics.proofs.Replies.{peel, all-passed}
use Rattle.basics.proofs.TestLists.{answered_e}
use Rattle.basics.proofs.Tests.{or_e, or_l, or_r, eq_T, same_test}
use Rattle.consistency.proofs.RecordLaws.{consistent_e}
use Rattle.watching.specs.Verdicts.{some_inside}
use Rattle.watching.proofs.EventSteps.{record_after, tested}

-- a count of one place or of the other
pub inside_is : (n : ℕ) (p : Places) → not (eqb (how_many_at n p 2) 0) || not (eqb (how_many_at n p 6) 0) ≡ some_inside n p
unfolding among
inside_is n p =
    ap (λ (b : Bool). b || not (eqb (how_many_at n p 6) 0)) (sym (some-how_many at_2 n))
    ∙ (ap (λ (b : Bool). some n at_2 || b) (sym (some-how_many at_6 n))
    ∙ same_test (some n at_2 || some n at_6) (some n inside) (λ t. ⊎_elim readers writers (or_e (some n at_2) (some n at_6) t)) either)
  where
    at_2 : ℕ → Bool
    at_2 t = eqb (p t) 2

    at_6 : ℕ → Bool
    at_6 t = eqb (p t) 6

    inside : ℕ → Bool
    inside t = among (p t) (2 ∷ 6 ∷ [])

    readers : T (some n at_2) → T (some n inside)
    readers t = let e = some_e at_2 n t in some_i inside n e.0 e.1 (or_l (at_2 e.0) (at_6 e.0 || false) e.2)

    writers : T (some n at_6) → T (some n inside)
    writers t = let e = some_e at_6 n t in some_i inside n e.0 e.1 (or_r (at_2 e.0) (at_6 e.0 || false) (or_l (at_6 e.0) false e.2))

    either : T (some n inside) → T (some n at_2 || some n at_6)
    either t =
        let e = some_e inside n t in
        or_at (p e.0) 2 (6 ∷ []) (λ d. or_l (some n at_2) (some n at_6) (some_i at_2 n e.0 e.1 (eq_T (p e.0) 2 d)))
        (or_at (p e.0) 6 [] (λ d. or_r (some n at_2) (some n at_6) (some_i at_6 n e.0 e.1 (eq_T (p e.0) 6 d))) (none_of (p e.0))) e.2

-- the record of the events accepted so far is answered for
pub question_of : (n : ℕ) (least : 1 ≤ n) (most : n ≤ most_threads) (h : List Pair) → T (permitted_from n at_start h)
    → question_reply (record_after n least most h) ≡ accepted (not (eqb (how_many_at n (places_after at_start h) 2) 0) || not (eqb (how_many_at n (places_after at_start h) 6) 0))
unfolding question_reply
question_of n least most h permits = all-passed _ (record_tests (record_after n least most h)) (tested n least most h permits)

-- of a record that is answered for the totals are counts
pub question_answered : (w : Watcher) (b : Bool) → question_reply w ≡ accepted b
    → b ≡ not (eqb (how_many_at w.threads (places_in w.places) 2) 0) || not (eqb (how_many_at w.threads (places_in w.places) 6) 0)
unfolding question_reply
question_answered w b e =
    let a = answered_e (record_tests w) (not (eqb w.shared 0) || not (eqb w.exclusive 0)) b e in
    let c = consistent_e w (peel (test 13 (consistent w)) [] (peel (test 1 (count_fits w.threads)) (test 13 (consistent w) ∷ []) a.0).1).0 in
    let n = w.threads in
    let p = places_in w.places in
    sym a.1
    ∙ (ap (λ (k : ℕ). not (eqb k 0) || not (eqb w.exclusive 0)) c.shared ∙ ap (λ (k : ℕ). not (eqb (how_many_at n p 2) 0) || not (eqb k 0)) c.exclusive)
