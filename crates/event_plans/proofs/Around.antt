-- Requests put in three parts: go, others and go.
use Rattle.std.proofs.Common.{◌≡◌, ℕ, ◌+◌, List, [], ◌∷◌, ◌++◌, length, sym, subst, ap, ◌∙◌, arith, length-append}
use Rattle.definitions.specs.Codes.{go}
use Rattle.definitions.specs.Moves.{ask}
use Rattle.definitions.specs.Plan.{bytes_of}
use Rattle.definitions.specs.declared.Request.{Request}
use Rattle.text.specs.Cursors.{HasRoom, Puts}
use Rattle.text.specs.declared.Output.{Output}
use Rattle.text.proofs.Cursors.{puts_both}
use Rattle.theory.proofs.Triples.{bytes_append}

abbrev one_go : ℕ → List Request
one_go i = ask i go 0 ∷ []

module _ (i : ℕ) (each requests : List Request) (e : requests ≡ one_go i ++ (each ++ one_go i)) where
  three : bytes_of requests ≡ bytes_of (one_go i) ++ (bytes_of each ++ bytes_of (one_go i))
  three =
      ap bytes_of e
      ∙ (bytes_append (one_go i) (each ++ one_go i) ∙ ap (λ (l : List ℕ). bytes_of (one_go i) ++ l) (bytes_append each (one_go i)))

  size : length (bytes_of requests) ≡ length (bytes_of (one_go i)) + length (bytes_of each) + length (bytes_of (one_go i))
  size = omega (arith, ap length three, length-append (bytes_of (one_go i)) (bytes_of each ++ bytes_of (one_go i)), length-append (bytes_of each) (bytes_of (one_go i)))

  module _ {o a : Output} (r : HasRoom o (bytes_of requests)) (p : Puts o (bytes_of (one_go i)) a) where
    pub each-room : HasRoom a (bytes_of each)
    each-room = record { ends = omega (arith, r.ends, size, p.size, p.put.next) }

    module _ {b : Output} (q : Puts a (bytes_of each) b) where
      pub last-room : HasRoom b (bytes_of (one_go i))
      last-room = record { ends = omega (arith, r.ends, size, p.size, p.put.next, q.size, q.put.next) }

      pub all-put : {c : Output} → Puts b (bytes_of (one_go i)) c → Puts o (bytes_of requests) c
      all-put {c} s = subst (λ (t : List ℕ). Puts o t c) (sym three) (puts_both p (puts_both q s))
