-- Two lists that can be written have the same script only if they and their N are the same: no two lists share a script.
-- Shown by reading it back.
use Prim.Native.Nat.{ℕ}
use mathlib.Core.List.{List}
use mathlib.Core.Path.{◌≡◌, sym, ap, ◌∙◌}
use Rattle.definitions.specs.Chains.{requests_of}
use Rattle.definitions.specs.Plan.{bytes_of}
use Rattle.definitions.specs.Scripts.{script_of, threads_of, stated_by}
use Rattle.round_trips.specs.Exchange.{Writable}
use Rattle.round_trips.proofs.ReadWritten.{read_back}

-- Equal scripts are those of equal N and equal lists.
pub same_script : (n m : ℕ) (xs ys : List ℕ) → Writable n xs → Writable m ys → script_of n (requests_of xs) ≡ script_of m (requests_of ys) → (n ≡ m) × (xs ≡ ys)
same_script n m xs ys v w e =
    let a = read_back n xs v in
    let b = read_back m ys w in
    (sym a.1 ∙ (ap threads_of e ∙ b.1), sym a.2 ∙ (ap (λ (script : List ℕ). bytes_of (stated_by script)) e ∙ b.2))
