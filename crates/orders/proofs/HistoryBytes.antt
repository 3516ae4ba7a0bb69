-- The bytes of a list of pairs: they read as that list, two a pair, and those of a permitted history are bytes indeed.
use Prim.Native.Nat.{ℕ, ◌*◌, ◌≤◌}
use native.Mathlib.Omega.{arith}
use mathlib.Core.List.{List, [], ◌∷◌}
use mathlib.Core.Path.{◌≡◌, refl, ap}
use lib.Dec.{T, leb, leb→le}
use lib.ListN.{length}
use Rattle.definitions.specs.Bounds.{most_threads, first_event, last_event}
use Rattle.definitions.specs.PlainLock.{Pair, Places, pairs_of, advanced}
use Rattle.orders.specs.Histories.{history_bytes, AllBytes}
use Rattle.plain_lock.specs.Permitted.{pair_fits, permitted_from}
use Rattle.basics.proofs.Tests.{and_l, and_r}
use Rattle.orders.proofs.PairTests.{permits_e}

pub pairs-read : (h : List Pair) → pairs_of (history_bytes h) ≡ h
unfolding pairs_of history_bytes
pairs-read [] = refl
pairs-read (x ∷ xs) = ap (λ (l : List Pair). x ∷ l) (pairs-read xs)

pub bytes-long : (h : List Pair) → length (history_bytes h) ≡ 2 * length h
unfolding history_bytes
bytes-long [] = refl
bytes-long (x ∷ xs) = omega (arith, bytes-long xs)

pub all-bytes : (n : ℕ) (p : Places) (h : List Pair) → n ≤ most_threads → T (permitted_from n p h) → AllBytes (history_bytes h)
unfolding permitted_from history_bytes
all-bytes n p [] most t = tt
all-bytes n p (x ∷ xs) most t =
    let here = pair_fits n p x in
    let rest = permitted_from n (advanced p x) xs in
    let a = permits_e n p x (and_l here rest t) in
    let few = a.fits in
    let event = leb→le x.event last_event (and_r (leb first_event x.event) (leb x.event last_event) a.known) in
    (omega arith, (omega arith, all-bytes n (advanced p x) xs most (and_r here rest t)))
