-- The table's tests give the refusals 1 and 2; without room for all nodes nothing is put; else each thread's node is.
use Rattle.std.proofs.Common.{◌≡◌, ℕ, ◌<◌, ◌≤◌, List, [], ◌++◌, length, get_or, drop, length-take, refl, sym, ap, ◌∙◌, arith}
use Rattle.std.proofs.lemmas.Grind.{same_number_lists}
use Rattle.definitions.specs.Answers.{accepted, refused}
use Rattle.definitions.specs.Nodes.{nodes_of, nodes_entry}
use Rattle.definitions.specs.Table.{table_of}
use Rattle.table.specs.declared.tests.Examined.{Examined}
use Rattle.basics.specs.Outputs.{Delivered}
use Rattle.basics.proofs.Lists.{length-list_of, get_d_list_of}
use Rattle.basics.proofs.Outputs.{no_room, whole, delivered_as}
use Rattle.basics.proofs.Replies.{handed_on}
use Rattle.table.proofs.TableTests.{SoundTable, entry_refused, sound_is, sound-passes}
use Rattle.theory.proofs.Bytes.{sized_e}
use Rattle.nodes.proofs.nodes.Invariants.{node_in}
use Rattle.nodes.proofs.nodes.Goals as goal

module _ (table out : List ℕ) (found : Examined) (s : SoundTable table found) where
  long : length (nodes_of (table_of table)) ≡ found.threads
  unfolding nodes_of
  long = length-list_of (table_of table).threads (node_in table) ∙ sym s.threads

  tight : length out < found.threads → Delivered (nodes_entry table) out out (refused 12 0)
  tight l = no_room (nodes_entry table) out (sound-passes table s.tested) (omega (arith, long))

  all_put : found.threads ≤ length out → (nodes : List ℕ) → length nodes ≡ found.threads → ((k : ℕ) → k < found.threads → get_or nodes k 0 ≡ node_in table k)
      → Delivered (nodes_entry table) out (nodes ++ drop found.threads out) (accepted found.threads)
  unfolding nodes_of
  all_put l nodes e each =
      let same : nodes ≡ nodes_of (table_of table) =
      same_number_lists nodes (nodes_of (table_of table)) (e ∙ sym long)
      (λ k h. each k (omega arith) ∙ sym (get_d_list_of (table_of table).threads (node_in table) k 0 (omega (arith, s.threads)))) in
      delivered_as (whole (nodes_entry table) out (sound-passes table s.tested) (omega (arith, long)))
      (ap (λ (xs : List ℕ). xs ++ drop found.threads out) same ∙ ap (λ (n : ℕ). nodes_of (table_of table) ++ drop n out) (sym long)) (ap accepted (sym long))

pub returns-in_err-threads : goal.returns-in_err-threads
returns-in_err-threads c =
    delivered_as (entry_refused (nodes_entry c.args.table.now) c.args.table.now c.args.out.now [] c.in_err-threads.field-0.0 refl (sym c.in_err-threads.ensures))
    refl (handed_on (λ (n : ℕ). n) _ _ c.from_residual.ensures.1)

pub returns-then-out-threads : goal.returns-then-out-threads
returns-then-out-threads c =
    rw c.into.ensures (tight c.args.table.now c.args.out.now _ (sound_is c.args.table.now _ (sym c.in_ok-threads.ensures)) c.if-out-threads.true)

pub read_task-requires : goal.read_task-requires
read_task-requires c =
    let s = sound_is c.args.table.now _ (sym c.in_ok-threads.ensures) in
    (sized_e _ s.tested.is_sized, omega (arith, s.threads, length-take c.in_ok-threads.field-0.threads c.args.out.now))

pub returns : goal.returns
returns c =
    let long = length-take c.in_ok-threads.field-0.threads c.args.out.now in
    all_put c.args.table.now c.args.out.now _ (sound_is c.args.table.now _ (sym c.in_ok-threads.ensures)) c.if-out-threads.false c.loop-thread.node-items
    (omega arith) (λ k h. c.loop-thread.invariant k (omega arith))
