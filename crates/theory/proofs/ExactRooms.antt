-- An output of exactly its text's length is filled by it: the fresh table and the nodes.
use Prim.Native.Nat.{ℕ, ◌≤◌}
use native.Mathlib.Omega.{arith}
use mathlib.Core.List.{List, [], ◌++◌, append-nil}
use mathlib.Core.Path.{◌≡◌, refl, sym, ap, ◌∙◌}
use lib.Dec.{T, leb, le→leb}
use lib.ListN.{length, drop_of_length-le}
use Rattle.definitions.specs.Answers.{accepted, filled, counted, Test, passes_all}
use Rattle.definitions.specs.Bounds.{most_threads}
use Rattle.definitions.specs.Nodes.{nodes_of, nodes_entry}
use Rattle.definitions.specs.Phases.{node_of}
use Rattle.definitions.specs.Table.{table_of, size, fresh, fresh_entry}
use Rattle.basics.specs.Outputs.{Delivered}
use Rattle.theory.specs.Tables.{SoundBytes}
use Rattle.theory.proofs.Lengths.{fresh-length}
use Rattle.basics.proofs.Lists.{length-list_of}
use Rattle.basics.proofs.Outputs.{whole, delivered_as}
use Rattle.basics.proofs.Replies.{pass, no_test}
use Rattle.basics.proofs.Tests.{and_i}

-- a text of the output's own length
fills : (out text : List ℕ) → length out ≡ length text → filled out text ≡ text
fills out text e = ap (λ (rest : List ℕ). text ++ rest) (drop_of_length-le out {i = length text} (omega arith)) ∙ append-nil text

-- what an entry with such a text leaves
exactly : (tests : List Test) (text out : List ℕ) → T (passes_all tests) → length out ≡ length text → Delivered (counted tests text) out text (accepted (length text))
exactly tests text out tested e = delivered_as (whole (counted tests text) out tested (omega arith)) (sym (fills out text e)) refl

pub fresh_exactly : (n : ℕ) (out : List ℕ) → 1 ≤ n → n ≤ most_threads → length out ≡ size n → Delivered (fresh_entry n) out (fresh n) (accepted (size n))
fresh_exactly n out least most e =
    let tested = pass _ [] (and_i (leb 1 n) (leb n most_threads) (le→leb 1 n least) (le→leb n most_threads most)) no_test in
    delivered_as (exactly _ (fresh n) out tested (e ∙ sym (fresh-length n))) refl (ap (λ (k : ℕ). accepted k) (sym (fresh-length n)))

pub nodes_exactly : (table out : List ℕ) → SoundBytes table → length out ≡ (table_of table).threads
    → Delivered (nodes_entry table) out (nodes_of (table_of table)) (accepted (table_of table).threads)
unfolding nodes_of
nodes_exactly table out s e =
    let long = length-list_of (table_of table).threads (λ i. node_of ((table_of table).phase i)) in
    let tested = pass _ _ s.is_sized (pass _ [] s.is_sound no_test) in
    delivered_as (exactly _ (nodes_of (table_of table)) out tested (e ∙ sym long)) refl (ap (λ (k : ℕ). accepted k) (sym long))
