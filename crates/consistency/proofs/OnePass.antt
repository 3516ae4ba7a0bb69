-- One pass over the 200 entries decides whether a record is consistent: what is decided from what it finds is `consistent` (`one_pass`).
-- So it is where the entries of the threads and those from N upward are lent apart (`as_lent`).
use Rattle.std.proofs.Common.{◌≡◌, ℕ, ◌+◌, ◌-◌, ◌<◌, ◌≤◌, Bool, true, not, ◌&&◌, ◌||◌, leb, eqb, List, length, take, drop, sym, ap, ◌∙◌, subst, arith, leb→le, le→leb}
use Rattle.std.proofs.Common.{T, length-take, length-drop, get_or-take, get_or-drop}
use mathlib.Core.Bool.{and-true, and_assoc}
use Rattle.definitions.specs.Bounds.{most_threads}
use Rattle.definitions.specs.PlainLock.{Places, places_in, how_many_at}
use Rattle.definitions.specs.Threads.{every, among, all_of, implies}
use Rattle.definitions.specs.Watch.{round_places, places_fit, consistent}
use Rattle.definitions.specs.declared.Watcher.{Watcher}
use Rattle.basics.proofs.Quantifiers.{every_at, every_i, every-same, how_many-same}
use Rattle.basics.proofs.Tests.{and_l, and_r, and_i, implies_e, implies_i, ne_T, T_ne, same_test}
use Rattle.consistency.specs.Pass.{in_round, found_in, all_zero, found_fits}
use Rattle.consistency.specs.declared.Found.{Found}
use Rattle.consistency.proofs.RecordLaws.{round_e, round_i}

-- the test of one place
same_round : (place : ℕ) → in_round place ≡ among place round_places
same_round place =
    same_test (in_round place) (among place round_places)
    (λ t. round_i place (leb→le place 7 (and_l (leb place 7) (not (eqb place 4)) t)) (T_ne place 4 (and_r (leb place 7) (not (eqb place 4)) t)))
    (λ t. let r = round_e place t in and_i (leb place 7) (not (eqb place 4)) (le→leb place 7 r.0) (ne_T place 4 r.1))

module _ (w : Watcher) where
  abbrev n : ℕ
  n = w.threads

  abbrev p : Places
  p = places_in w.places

  abbrev readers : Bool
  readers = eqb w.shared (how_many_at n p 2)

  abbrev writers : Bool
  writers = eqb w.exclusive (how_many_at n p 6)

  abbrev empty : Bool
  empty = every most_threads (λ t. implies (leb n t) (eqb (p t) 0))

  abbrev alone : Bool
  alone = leb (how_many_at n p 6) 1

  abbrev apart : Bool
  apart = eqb (how_many_at n p 6) 0 || eqb (how_many_at n p 2) 0

  pub one_pass : found_fits w (found_in w.places n) empty ≡ consistent w
  unfolding consistent places_fit all_of
  one_pass =
      and_assoc readers writers (empty && (every n (λ t. in_round (p t)) && (alone && apart)))
      ∙ ap (λ (b : Bool). readers && (writers && (empty && b)))
      (ap (λ (b : Bool). b && (alone && apart)) (every-same n (λ t. in_round (p t)) (λ t. among (p t) round_places) (λ t l. same_round (p t)))
      ∙ (ap (λ (b : Bool). every n (λ t. among (p t) round_places) && (alone && b)) (sym (and-true apart))
      ∙ sym (and-true (every n (λ t. among (p t) round_places) && (alone && (apart && true))))))

  module _ (long : length w.places ≡ most_threads) (few : n ≤ most_threads) where
    abbrev taken : List ℕ
    taken = take n w.places

    abbrev rest : List ℕ
    rest = drop n w.places

    -- the entries of the threads
    found_there : found_in taken (length taken) ≡ found_in w.places n
    found_there =
        let size : length taken ≡ n = omega (arith, length-take n w.places) in
        let at : (t : ℕ) → t < n → places_in taken t ≡ p t = λ t l. get_or-take n w.places t 0 l in
        rw (
          size,
          how_many-same (λ t. eqb (places_in taken t) 2) (λ t. eqb (p t) 2) n (λ t l. rw (at t l)),
          how_many-same (λ t. eqb (places_in taken t) 6) (λ t. eqb (p t) 6) n (λ t l. rw (at t l)),
          every-same n (λ t. in_round (places_in taken t)) (λ t. in_round (p t)) (λ t l. rw (at t l)),
        )

    -- and those from n upward
    empty_there : all_zero rest (length rest) ≡ empty
    empty_there =
        same_test (all_zero rest (length rest)) empty
        (λ z. every_i (λ t. implies (leb n t) (eqb (p t) 0)) most_threads (λ t l. implies_i (leb n t) (eqb (p t) 0) (λ u.
        let least = leb→le n t u in
        let there : n + (t - n) ≡ t = omega arith in
        rw (← there) (subst (λ (x : ℕ). T (eqb x 0)) (get_or-drop n w.places (t - n) 0) (every_at (λ j. eqb (places_in rest j) 0) (length rest) z (t - n) (omega (arith, length-drop n w.places)))))))
        (λ z. every_i (λ j. eqb (places_in rest j) 0) (length rest) (λ j l.
        subst (λ (x : ℕ). T (eqb x 0)) (sym (get_or-drop n w.places j 0))
        (implies_e (leb n (n + j)) (eqb (p (n + j)) 0)
        (every_at (λ t. implies (leb n t) (eqb (p t) 0)) most_threads z (n + j) (omega (arith, length-drop n w.places))) (le→leb n (n + j) (omega arith)))))

    pub as_lent : found_fits w (found_in taken (length taken)) (all_zero rest (length rest)) ≡ consistent w
    as_lent = ap (λ (f : Found). found_fits w f (all_zero rest (length rest))) found_there ∙ (ap (found_fits w (found_in w.places n)) empty_there ∙ one_pass)
