-- What the tests 3, 4 and 5 of a request's numbers say, wherever they stand.
use Prim.Native.Nat.{ℕ, ◌≤◌, ◌<◌}
use native.Mathlib.Omega.{arith}
use mathlib.Core.Bool.{Bool, true, false, cond}
use mathlib.Core.List.{List, [], ◌∷◌}
use lib.Dec.{T, ltb, eqb, leb→le, le→leb, ltb→lt, lt→ltb, eqb→eq}
use Rattle.definitions.specs.Answers.{passes_all}
use Rattle.definitions.specs.Bounds.{last_move}
use Rattle.definitions.specs.Moves.{names_thread, target_fits, number_tests}
use Rattle.definitions.specs.declared.Request.{Request}
use Rattle.basics.proofs.Replies.{peel, pass, no_test}

-- a request whose numbers fit n threads
pub record NumbersFit (n : ℕ) (r : Request) : Type 0 where
  pub thread-fits : r.thread < n
  pub move-fits : r.mv ≤ last_move
  pub target_fits_lem : T (target_fits n r.mv r.target)

-- every request of a list
abbrev pub AllNumbersFit : ℕ → List Request → Type 0
AllNumbersFit n [] = Unit {0}
AllNumbersFit n (r ∷ rs) = NumbersFit n r × AllNumbersFit n rs

module _ (place n : ℕ) (r : Request) where
  pub numbers_e : T (passes_all (number_tests place n r)) → NumbersFit n r
  numbers_e t =
      let a = peel _ _ t in
      let b = peel _ _ a.1 in
      let c = peel _ _ b.1 in
      record { thread-fits = ltb→lt r.thread n a.0; move-fits = leb→le r.mv last_move b.0; target_fits_lem = c.0 }

  pub numbers_i : NumbersFit n r → T (passes_all (number_tests place n r))
  numbers_i f = pass _ _ (lt→ltb r.thread n f.thread-fits) (pass _ _ (le→leb r.mv last_move f.move-fits) (pass _ _ f.target_fits_lem no_test))

-- a target that fits is below every bound that n is not above
pub target_below : (n bound mv t : ℕ) → n ≤ bound → 1 ≤ bound → T (target_fits n mv t) → t < bound
target_below n bound mv t l some = by (names_thread mv)
  where
    by : (b : Bool) → T (cond b (ltb t n) (eqb t 0)) → t < bound
    by true u = let below = ltb→lt t n u in omega arith
    by false u = let e = eqb→eq t 0 u in omega arith
