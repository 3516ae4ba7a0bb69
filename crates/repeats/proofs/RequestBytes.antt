-- The bytes of requests as a text in parts, whose parts are lists of requests.
use Prim.Native.Nat.{ℕ, ◌+◌, ◌<◌}
use mathlib.Core.List.{List, [], ◌++◌}
use mathlib.Core.Path.{◌≡◌, ap, ◌∙◌}
use Rattle.definitions.specs.Plan.{bytes_of}
use Rattle.definitions.specs.Threads.{gather}
use Rattle.definitions.specs.declared.Request.{Request}
use Rattle.basics.proofs.Parts.{Parts, gather_from, gather-start, gather-next, gather_end}
use Rattle.theory.proofs.Triples.{bytes_append}

-- ---- the lists f 0, f 1, .. of requests, one behind the other

module _ (n : ℕ) (f : ℕ → List Request) where
  pub requests-next : (k : ℕ) → k < n → bytes_of (gather_from f n k) ≡ bytes_of (f k) ++ bytes_of (gather_from f n (k + 1))
  requests-next k l = ap bytes_of (gather-next f n k l) ∙ bytes_append (f k) (gather_from f n (k + 1))

  pub requests_end : bytes_of (gather_from f n n) ≡ []
  unfolding bytes_of
  requests_end = ap bytes_of (gather_end f n)

  abbrev pub request_parts : Parts
  request_parts =
      record {
        text = bytes_of (gather n f);
        count = n;
        part = λ k. bytes_of (f k);
        from = λ k. bytes_of (gather_from f n k);
        start = ap bytes_of (gather-start f n);
        next = requests-next;
        end = requests_end;
      }
