-- What the open moves entry answers and leaves, by what its tests found.
use Prim.Native.Nat.{ℕ, ◌≤◌, ◌<◌}
use mathlib.Core.List.{List, [], ◌∷◌}
use mathlib.Core.Path.{◌≡◌, sym, subst, ◌∙◌}
use borrow.Author.Tests.{le-ltb}
use lib.Dec.{ltb, lt→ltb}
use Rattle.definitions.specs.Answers.{Reply, refused, Test, test, counted}
use Rattle.definitions.specs.OpenMoves.{open_entry}
use Rattle.definitions.specs.Sound.{table_tests}
use Rattle.definitions.specs.Table.{table_of}
use Rattle.basics.specs.Outputs.{Delivered}
use Rattle.theory.specs.Tables.{SoundBytes}
use Rattle.listing.specs.Pairs.{open_pairs}
use Rattle.listing.specs.declared.mover.Mover.{Mover}
use Rattle.basics.proofs.Outputs.{turned_down, with_tests}
use Rattle.basics.proofs.Replies.{failed, behind, pass, no_test}
use Rattle.basics.proofs.Tests.{false-T}
use Rattle.table.proofs.TableTests.{sound-passes}
use Rattle.theory.proofs.Bytes.{sized_e}
use Rattle.listing.proofs.OpenList.{open_list}

module _ (bytes : List ℕ) (i : ℕ) (out : List ℕ) where
  thread_test : Test
  thread_test = test 3 (ltb i (table_of bytes).threads)

  module _ (h : SoundBytes bytes) where
    pub no_thread : (table_of bytes).threads ≤ i → Delivered (open_entry bytes i) out out (refused 3 0)
    unfolding thread_test
    no_thread l =
        turned_down (open_entry bytes i) out 0 3 0
        (behind 0 (table_tests bytes) (thread_test ∷ []) (sound-passes bytes h) ∙ failed thread_test [] 0 (false-T _ (le-ltb i (table_of bytes).threads l)))

    pub listed : (at : Mover) (out' : List ℕ) (r : Reply ℕ) → i < (table_of bytes).threads
        → at.threads ≡ (table_of bytes).threads → at.phase ≡ (table_of bytes).phase i → at.mutex ≡ (table_of bytes).mutex
        → Delivered (counted [] (open_pairs at)) out out' r → Delivered (open_entry bytes i) out out' r
    listed at out' r l a b c d =
        with_tests (open_entry bytes i).tests
        (pass _ _ h.is_sized (pass _ _ h.is_sound (pass _ [] (lt→ltb i (table_of bytes).threads l) no_test)))
        (subst (λ (text : List ℕ). Delivered (counted [] text) out out' r) (sym (open_list (table_of bytes) i h.is_sound l at a b c (sized_e bytes h.is_sized).least)) d)
