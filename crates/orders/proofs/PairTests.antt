-- A pair that passes its three tests, 9 to 11, at some places: what each says, and the other way.
use Prim.Native.Nat.{ℕ, ◌<◌}
use lib.Dec.{T, ltb, ltb→lt, lt→ltb}
use Rattle.definitions.specs.Bounds.{first_event, last_event}
use Rattle.definitions.specs.PlainLock.{Pair, Places, is_next, need_met}
use Rattle.definitions.specs.Threads.{between}
use Rattle.plain_lock.specs.Permitted.{pair_fits}
use Rattle.basics.proofs.Replies.{peel, pass, no_test}
use Rattle.basics.proofs.Tests.{and_l, and_r, and_i}

pub record Permits (n : ℕ) (p : Places) (x : Pair) : Type 0 where
  pub known : T (between first_event last_event x.event)
  pub fits : x.thread < n
  pub next : T (is_next (p x.thread) x.event)
  pub met : T (need_met n p x.event)

module _ (n : ℕ) (p : Places) (x : Pair) where
  pub permits_i : Permits n p x → T (pair_fits n p x)
  permits_i a =
      pass _ _ (and_i (between first_event last_event x.event) (ltb x.thread n) a.known (lt→ltb x.thread n a.fits))
      (pass _ _ a.next (pass _ _ a.met no_test))

  pub permits_e : T (pair_fits n p x) → Permits n p x
  permits_e t =
      let a = peel _ _ t in
      let b = peel _ _ a.1 in
      let c = peel _ _ b.1 in
      record {
        known = and_l (between first_event last_event x.event) (ltb x.thread n) a.0;
        fits = ltb→lt x.thread n (and_r (between first_event last_event x.event) (ltb x.thread n) a.0);
        next = b.0;
        met = c.0;
      }
