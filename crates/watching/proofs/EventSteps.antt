-- One event put to the record of the events accepted so far: the answer is the plain lock's verdict, and the record left is that of the events accepted with it (`answers`,
-- `leaves_record`), which are permitted again. Then the events of a whole list.
use Prim.Native.Nat.{ℕ, ◌≤◌}
use mathlib.Core.Bool.{Bool, true, not, ◌&&◌, and-true}
use mathlib.Core.List.{List, [], ◌∷◌, ◌++◌, append_assoc, append-nil}
use mathlib.Core.Logic.{◌⊎◌, inl, inr}
use mathlib.Core.Path.{◌≡◌, refl, sym, subst, ap, ap₂, ◌∙◌}
use lib.Dec.{T, leb, le→leb}
use lib.ListN.{length, replicate}
use Rattle.definitions.specs.Answers.{accepted, Reply, is_accepted, test, answered, passes_all, leaves}
use Rattle.definitions.specs.Bounds.{most_threads}
use Rattle.definitions.specs.PlainLock.{Pair, Places, places_in, at_start, advanced, places_after, pair_tests}
use Rattle.definitions.specs.Table.{count_fits}
use Rattle.definitions.specs.Watch.{record_of, consistent, record_tests, event_reply, event_record, watch_replies, watch_record}
use Rattle.definitions.specs.declared.Watcher.{Watcher}
use Rattle.plain_lock.specs.Permitted.{pair_fits, permitted_from}
use Rattle.basics.proofs.Replies.{pass, no_test, accepted_is, all-passed, behind, leaves-yes, leaves_no}
use Rattle.basics.proofs.Tests.{and_l, and_i, decided, T_true}
use Rattle.plain_lock.proofs.PlainLaws.{permitted_append, places_behind}
use Rattle.watching.specs.Verdicts.{verdict_on, kept_with, verdicts_on, accepted_of}
use Rattle.watching.proofs.ShownPlaces.{Shown, shown-start, shown_after, record_holds, record_consistent}

-- two equal lists have equal first elements and equal rests
abbrev First : Reply (Unit {0}) → List (Reply (Unit {0})) → Reply (Unit {0})
First d [] = d
First d (r ∷ rs) = r

abbrev Rest : List (Reply (Unit {0})) → List (Reply (Unit {0}))
Rest [] = []
Rest (r ∷ rs) = rs

heads : {r s : Reply (Unit {0})} {rs ss : List (Reply (Unit {0}))} → r ∷ rs ≡ s ∷ ss → r ≡ s
heads {r} e = ap (First r) e

tails : {r s : Reply (Unit {0})} {rs ss : List (Reply (Unit {0}))} → r ∷ rs ≡ s ∷ ss → rs ≡ ss
tails e = ap Rest e

module _ (n : ℕ) (least : 1 ≤ n) (most : n ≤ most_threads) where
  -- the record of the events accepted so far
  abbrev pub record_after : List Pair → Watcher
  record_after h = record_of n (places_after at_start h)

  fits : T (count_fits n)
  fits = and_i (leb 1 n) (leb n most_threads) (le→leb 1 n least) (le→leb n most_threads most)

  module _ (h : List Pair) (permits : T (permitted_from n at_start h)) where
    abbrev p : Places
    p = places_after at_start h

    pub shown : Shown n p
    shown = shown_after n at_start h (shown-start n) permits

    pub tested : T (passes_all (record_tests (record_after h)))
    tested = pass (test 1 (count_fits n)) _ fits (pass (test 13 (consistent (record_after h))) [] (record_consistent n p most shown) no_test)

    pub answers : (x : Pair) → event_reply (record_after h) x ≡ verdict_on n h x
    unfolding event_reply
    answers x =
        behind tt (record_tests (record_after h)) (pair_tests n (places_in (record_after h).places) 0 x) tested
        ∙ ap (λ (q : Places). answered (pair_tests n q 0 x) tt) (record_holds n p most shown)

    -- by the verdict
    module _ (x : Pair) where
      abbrev good : Bool
      good = is_accepted (verdict_on n h x)

      pub kept-yes : T good → kept_with n h x ≡ h ++ (x ∷ [])
      kept-yes = leaves-yes (h ++ (x ∷ [])) h (verdict_on n h x)

      kept_no : T (not good) → kept_with n h x ≡ h
      kept_no = leaves_no (h ++ (x ∷ [])) h (verdict_on n h x)

      -- an accepted event passes its tests
      good_is : good ≡ pair_fits n p x
      good_is = accepted_is tt (pair_tests n p 0 x)

      pub one_permitted : permitted_from n at_start (h ++ (x ∷ [])) ≡ good
      unfolding permitted_from
      one_permitted =
          permitted_append n at_start h (x ∷ [])
          ∙ (ap (λ (b : Bool). b && (pair_fits n p x && true)) (T_true (permitted_from n at_start h) permits) ∙ (and-true (pair_fits n p x) ∙ sym good_is))

      pub kept-permitted : T (permitted_from n at_start (kept_with n h x))
      kept-permitted = by (decided good)
        where
          by : T good ⊎ T (not good) → T (permitted_from n at_start (kept_with n h x))
          by (inl t) = subst (λ (k : List Pair). T (permitted_from n at_start k)) (sym (kept-yes t)) (subst T (sym one_permitted) t)
          by (inr t) = subst (λ (k : List Pair). T (permitted_from n at_start k)) (sym (kept_no t)) permits

      pub leaves_record : event_record (record_after h) x ≡ record_after (kept_with n h x)
      unfolding event_record
      leaves_record = ap (λ (r : Reply (Unit {0})). leaves r next (record_after h)) (answers x) ∙ by (decided good)
        where
          next : Watcher
          next = record_of n (advanced (places_in (record_after h).places) x)

          carried : next ≡ record_after (h ++ (x ∷ []))
          carried = ap (λ (q : Places). record_of n (advanced q x)) (record_holds n p most shown) ∙ ap (record_of n) (sym (places_behind at_start h x))

          by : T good ⊎ T (not good) → leaves (verdict_on n h x) next (record_after h) ≡ record_after (kept_with n h x)
          by (inl t) = leaves-yes next (record_after h) (verdict_on n h x) t ∙ (carried ∙ ap record_after (sym (kept-yes t)))
          by (inr t) = leaves_no next (record_after h) (verdict_on n h x) t ∙ ap record_after (sym (kept_no t))

  -- ---- whole lists

  pub all-permitted : (h xs : List Pair) → T (permitted_from n at_start h) → T (permitted_from n at_start (accepted_of n h xs))
  unfolding accepted_of
  all-permitted h [] permits = permits
  all-permitted h (x ∷ xs) permits = all-permitted (kept_with n h x) xs (kept-permitted h permits x)

  pub all_answers : (h xs : List Pair) → T (permitted_from n at_start h) → watch_replies (record_after h) xs ≡ verdicts_on n h xs
  unfolding watch_replies verdicts_on
  all_answers h [] permits = refl
  all_answers h (x ∷ xs) permits =
      ap₂ ◌∷◌ (answers h permits x)
      (ap (λ (w : Watcher). watch_replies w xs) (leaves_record h permits x) ∙ all_answers (kept_with n h x) xs (kept-permitted h permits x))

  pub all_leave : (h xs : List Pair) → T (permitted_from n at_start h) → watch_record (record_after h) xs ≡ record_after (accepted_of n h xs)
  unfolding watch_record accepted_of
  all_leave h [] permits = refl
  all_leave h (x ∷ xs) permits =
      ap (λ (w : Watcher). watch_record w xs) (leaves_record h permits x) ∙ all_leave (kept_with n h x) xs (kept-permitted h permits x)

  -- a list that is permitted behind the accepted ones is accepted whole
  pub whole-accepted : (h xs : List Pair) → T (permitted_from n at_start (h ++ xs))
      → (verdicts_on n h xs ≡ replicate (length xs) (accepted tt)) × (accepted_of n h xs ≡ h ++ xs)
  unfolding verdicts_on accepted_of
  whole-accepted h [] t = (refl, sym (append-nil h))
  whole-accepted h (x ∷ xs) t = by (whole-accepted (h ++ (x ∷ [])) xs (subst (λ (k : List Pair). T (permitted_from n at_start k)) (sym split) t))
    where
      split : (h ++ (x ∷ [])) ++ xs ≡ h ++ (x ∷ xs)
      split = append_assoc h (x ∷ []) xs

      front : T (permitted_from n at_start (h ++ (x ∷ [])))
      front =
          and_l (permitted_from n at_start (h ++ (x ∷ []))) _
          (subst T (permitted_append n at_start (h ++ (x ∷ [])) xs) (subst (λ (k : List Pair). T (permitted_from n at_start k)) (sym split) t))

      permits : T (permitted_from n at_start h)
      permits = and_l (permitted_from n at_start h) _ (subst T (permitted_append n at_start h (x ∷ xs)) t)

      good : T (is_accepted (verdict_on n h x))
      good = subst T (one_permitted h permits x) front

      by : (verdicts_on n (h ++ (x ∷ [])) xs ≡ replicate (length xs) (accepted tt)) × (accepted_of n (h ++ (x ∷ [])) xs ≡ (h ++ (x ∷ [])) ++ xs)
          → (verdict_on n h x ∷ verdicts_on n (kept_with n h x) xs ≡ accepted tt ∷ replicate (length xs) (accepted tt)) × (accepted_of n (kept_with n h x) xs ≡ h ++ (x ∷ xs))
      by rest = (
        ap₂ ◌∷◌ (all-passed tt (pair_tests n (places_after at_start h) 0 x) (subst T (good_is h permits x) good))
            (ap (λ (k : List Pair). verdicts_on n k xs) (kept-yes h permits x good) ∙ rest.0),
        ap (λ (k : List Pair). accepted_of n k xs) (kept-yes h permits x good) ∙ (rest.1 ∙ split),
      )

  -- and one that is accepted whole is permitted
  pub accepted-whole : (h xs : List Pair) → T (permitted_from n at_start h) → verdicts_on n h xs ≡ replicate (length xs) (accepted tt) → T (permitted_from n at_start (h ++ xs))
  unfolding verdicts_on
  accepted-whole h [] permits e = subst (λ (k : List Pair). T (permitted_from n at_start k)) (sym (append-nil h)) permits
  accepted-whole h (x ∷ xs) permits e =
      let good : T (is_accepted (verdict_on n h x)) = subst (λ (r : Reply (Unit {0})). T (is_accepted r)) (sym (heads e)) tt in
      let kept = kept-yes h permits x good in
      subst (λ (k : List Pair). T (permitted_from n at_start k)) (append_assoc h (x ∷ []) xs)
      (accepted-whole (h ++ (x ∷ [])) xs (subst (λ (k : List Pair). T (permitted_from n at_start k)) kept (kept-permitted h permits x))
      (ap (λ (k : List Pair). verdicts_on n k xs) (sym kept) ∙ tails e))
