-- The limit is reached (02 §7): for every N of 1 to 200, the table with every thread in phase 9 is sound and left by accepted moves from the fresh table, and from it
-- N × (3N + 5) accepted moves without calls and without retries can be made, which leave the fresh table.
-- They are the threads' rounds in turn: as many as the number of Measure falls, so none of them is a call or a retry.
use Prim.Native.Nat.{ℕ, ◌≤◌}
use native.Mathlib.Omega.{arith}
use mathlib.Core.List.{List, [], ◌∷◌}
use mathlib.Core.Path.{◌≡◌, refl, sym, subst, ap, ◌∙◌}
use lib.Dec.{T}
use Rattle.definitions.specs.Bounds.{most_threads}
use Rattle.definitions.specs.Chains.{after_in, accepts_all_in, table_after, accepts_all}
use Rattle.definitions.specs.Moves.{move_table}
use Rattle.definitions.specs.Sound.{sound}
use Rattle.definitions.specs.Table.{Table, fresh_table, table_of, sized, itself, byte_table, fresh}
use Rattle.definitions.specs.Threads.{gather}
use Rattle.definitions.specs.declared.Request.{Request}
use Rattle.completeness.proofs.Completeness.{complete}
use Rattle.theory.proofs.Bytes.{byte_keeps, same_bytes, fresh-table, fresh-sized}
use Rattle.theory.proofs.Chains.{Leads, all_16}
use Rattle.theory.proofs.Storages.{fits-step, after_same, accepts-all-same}
use Rattle.progress.specs.Progress.{all_called, LimitReached}
use Rattle.progress.proofs.CalledTable.{called_table, called_table_lem, called_sized, called_sound, called_measure}
use Rattle.progress.proofs.Counting.{all_advance}
use Rattle.progress.proofs.InTurn.{round_of, in_turn, turn-length, all_go_round}
use Rattle.progress.proofs.Measure.{measure, fresh_measure}

-- requests keep the size
after_sized : (bytes : List ℕ) (rs : List Request) → T (sized bytes) → T (sized (table_after bytes rs))
unfolding after_in
after_sized bytes [] fits = fits
after_sized bytes (r ∷ rs) fits = after_sized (move_table bytes r) rs (fits-step byte_table byte_keeps bytes r fits)

pub limit-reached : (n : ℕ) → 1 ≤ n → n ≤ most_threads → LimitReached n
unfolding all_called
limit-reached n least most =
    record {
      passes = record { is_sized = fits; is_sound = is_sound };
      reached = (complete n least most (all_called n)).0 (fits, refl, is_sound);
      requests = in_turn n n;
      numbers = all_16 (called_table n) (in_turn n n) most rounds.all-accepted;
      progress = all_advance byte_table byte_keeps (all_called n) (in_turn n n) accepted
          (omega (arith, ap measure left, fresh_measure n, ap measure (called_table_lem n), called_measure n, turn-length n));
      many = turn-length n;
      leaves = same_bytes (table_after (all_called n) (in_turn n n)) (fresh n) (after_sized (all_called n) (in_turn n n) fits) (fresh-sized n least most) (left ∙ sym (fresh-table n));
    }
  where
    fits : T (sized (all_called n))
    fits = called_sized n least most

    is_sound : T (sound (table_of (all_called n)))
    is_sound = subst (λ (s : Table). T (sound s)) (sym (called_table_lem n)) (called_sound n least)

    rounds : Leads (called_table n) (in_turn n n) (gather n round_of) (fresh_table n)
    rounds = all_go_round n least

    accepted : T (accepts_all (all_called n) (in_turn n n))
    accepted =
        subst T (sym (accepts-all-same byte_table byte_keeps (all_called n) (in_turn n n) fits ∙ ap (λ (s : Table). accepts_all_in itself s (in_turn n n)) (called_table_lem n))) rounds.all-accepted

    left : table_of (table_after (all_called n) (in_turn n n)) ≡ fresh_table n
    left = after_same byte_table byte_keeps (all_called n) (in_turn n n) fits ∙ (ap (λ (s : Table). after_in itself s (in_turn n n)) (called_table_lem n) ∙ rounds.ends)
