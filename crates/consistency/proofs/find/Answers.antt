use Rattle.std.proofs.Common.{eqb, arith}
use Rattle.definitions.specs.PlainLock.{places_in}
use Rattle.basics.proofs.Quantifiers.{how_many-most}
use Rattle.consistency.proofs.find.Goals as goal

-- fewer than 200 threads are counted
pub with_place-found-requires : goal.with_place-found-requires
with_place-found-requires c =
    let at = places_in c.args.places.now in
    let t = c.loop-place.place-index in
    rw c.loop-place.invariant
    (record {
      shared = omega (arith, how_many-most (λ k. eqb (at k) 2) t);
      exclusive = omega (arith, how_many-most (λ k. eqb (at k) 6) t);
    })
