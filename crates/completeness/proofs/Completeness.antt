-- Completeness (02 §6): the tables that pass the tests of size and soundness are exactly those that moves leave.
-- `complete`: for every N of 1 to 200 and every list of bytes, the bytes have the right size for N and are sound if and only if some list of 16-bit requests, accepted throughout from the
-- fresh table for N, leaves exactly them.
-- `move-refused`, `nodes-refused`, `open_refused`, `dispatch-refused`: so each entry that is lent a table refuses it by 2 exactly if it has the right size and no list of accepted requests leaves it.
use Prim.Native.Nat.{ℕ, ◌≤◌}
use native.Mathlib.Omega.{arith}
use mathlib.Core.Bool.{Bool, true, false, cond, not}
use mathlib.Core.List.{List, [], ◌∷◌, ◌++◌}
use mathlib.Core.Logic.{◌⊎◌, inl, inr, ◌↔◌}
use mathlib.Core.Path.{◌≡◌, refl, sym, subst, ap, ◌∙◌}
use lib.Dec.{T}
use Rattle.definitions.specs.Answers.{Reply, accepted, refused, Test, test, answered, delivery_reply}
use Rattle.definitions.specs.Bounds.{most_threads}
use Rattle.definitions.specs.Chains.{table_after, after_in}
use Rattle.definitions.specs.Dispatch.{mover_in, turn_answer, turn_reply_in, dispatch_reply}
use Rattle.definitions.specs.Moves.{request_tests, move_answer, reply_in, move_reply, move_table}
use Rattle.definitions.specs.Nodes.{nodes_entry}
use Rattle.definitions.specs.OpenMoves.{open_entry}
use Rattle.definitions.specs.Sound.{sound, table_tests}
use Rattle.definitions.specs.Table.{Table, fresh_table, table_of, sized, fresh}
use Rattle.definitions.specs.declared.Request.{Request}
use Rattle.completeness.specs.Reached.{Reached}
use Rattle.theory.specs.Tables.{SoundBytes}
use Rattle.basics.proofs.Replies.{passed, failed}
use Rattle.basics.proofs.Tests.{decided, no_both}
use Rattle.theory.proofs.Bytes.{sized_e, same_bytes, blank_beyond, fresh-table}
use Rattle.theory.proofs.Chains.{after_fresh, accepts-fresh, Leads, all_16}
use Rattle.theory.proofs.Discipline.{disciplined}
use Rattle.theory.proofs.SoundKept.{fresh-table-sound, sound-kept}
use Rattle.completeness.proofs.FromFresh.{from-fresh}

-- ---- what requests leave is sound

-- and of the same N, accepted or refused
left-sound : (n : ℕ) (bytes : List ℕ) (rs : List Request) → SoundBytes bytes → (table_of bytes).threads ≡ n → SoundBytes (table_after bytes rs) × ((table_of (table_after bytes rs)).threads ≡ n)
unfolding after_in
left-sound n bytes [] g e = (g, e)
left-sound n bytes (r ∷ rs) g e = left-sound n (move_table bytes r) rs (sound-kept bytes r g) ((disciplined bytes r).threads-kept ∙ e)

-- ---- the theorem

module _ (n : ℕ) (least : 1 ≤ n) (most : n ≤ most_threads) (bytes : List ℕ) where
  -- what is left passes
  sound-left : Reached n bytes → T (sized bytes) × ((table_of bytes).threads ≡ n) × T (sound (table_of bytes))
  unfolding fresh
  sound-left x =
      let (g, e) = left-sound n (fresh n) x.requests (fresh-table-sound n least most) refl in
      let h = subst SoundBytes x.leaves g in
      (h.is_sized, subst (λ (b : List ℕ). (table_of b).threads ≡ n) x.leaves e, h.is_sound)

  -- what passes is left
  left_by : T (sized bytes) → (table_of bytes).threads ≡ n → T (sound (table_of bytes)) → Reached n bytes
  left_by fits e g =
      let s = table_of bytes in
      let blank = blank_beyond bytes fits in
      let (rs, h, to) =
      from-fresh s (sized_e bytes fits).least g record { phase = λ j k. (blank j k).0; busy = λ j k. (blank j k).1; forbidden = λ j k. (blank j k).2 } in
      let leads = subst (λ (k : ℕ). Leads (fresh_table k) rs h s) e to in
      let after = left-sound n (fresh n) rs (fresh-table-sound n least most) (ap (λ (t : Table). t.threads) (fresh-table n)) in
      record {
        requests = rs;
        numbers = all_16 (fresh_table n) rs most leads.all-accepted;
        all-accepted = subst T (sym (accepts-fresh n least most rs)) leads.all-accepted;
        leaves = same_bytes (table_after (fresh n) rs) bytes after.0.is_sized fits (after_fresh n least most rs ∙ leads.ends);
      }

  pub complete : (T (sized bytes) × ((table_of bytes).threads ≡ n) × T (sound (table_of bytes))) ↔ Reached n bytes
  complete = ((λ (fits, e, g). left_by fits e g), sound-left)

-- ---- refusal 2

-- a refusal's number, and 0 for an accepted request
abbrev refused_by : {A : Type 0} → Reply A → ℕ
refused_by (accepted a) = 0
refused_by (refused number place) = number

-- no test of a list has number 2
abbrev No2 : List Test → Type 0
No2 [] = Unit {0}
No2 (t ∷ ts) = (t.number ≡ 2 → ⊥) × No2 ts

-- then 2 isn't what they answer
other_number : {A : Type 0} (a : A) (ts : List Test) → No2 ts → answered ts a ≡ refused 2 0 → ⊥
unfolding answered
other_number a [] none e = let zero : ◌≡◌ {A = ℕ} 0 2 = ap refused_by e in omega arith
other_number a (t ∷ ts) none e = by (other_number a ts none.1) t.passed e
  where
    by : (answered ts a ≡ refused 2 0 → ⊥) → (p : Bool) → cond p (answered ts a) (refused t.number t.place) ≡ refused 2 0 → ⊥
    by rest true d = rest d
    by rest false d = none.0 (ap refused_by d)

module _ (bytes : List ℕ) where
  -- bytes of the right size that no list of accepted requests leaves
  abbrev NotLeft : Type 0
  NotLeft = T (sized bytes) × (Reached (table_of bytes).threads bytes → ⊥)

  -- wherever the tests of a table stand in front
  refused_2 : {A : Type 0} (a : A) (more : List Test) → No2 more → (answered (table_tests bytes ++ more) a ≡ refused 2 0) ↔ NotLeft
  refused_2 a more none = (to (decided (sized bytes)) (decided (sound (table_of bytes))), from (decided (sound (table_of bytes))))
    where
      size-test : Test
      size-test = test 1 (sized bytes)

      sound-test : Test
      sound-test = test 2 (sound (table_of bytes))

      to : T (sized bytes) ⊎ T (not (sized bytes)) → T (sound (table_of bytes)) ⊎ T (not (sound (table_of bytes))) → answered (table_tests bytes ++ more) a ≡ refused 2 0 → NotLeft
      to (inr p) q e = absurd (let one : ◌≡◌ {A = ℕ} 1 2 = ap refused_by (sym (failed size-test (sound-test ∷ more) a p) ∙ e) in omega arith)
      to (inl p) (inl q) e = absurd (other_number a more none (sym (passed size-test (sound-test ∷ more) a p ∙ passed sound-test more a q) ∙ e))
      to (inl p) (inr q) e =
          (p, λ x. let z = sized_e bytes p in no_both (sound (table_of bytes)) (sound-left (table_of bytes).threads z.least z.most bytes x).2 q)

      from : T (sound (table_of bytes)) ⊎ T (not (sound (table_of bytes))) → NotLeft → answered (table_tests bytes ++ more) a ≡ refused 2 0
      from (inl q) (p, not_left) = absurd (let z = sized_e bytes p in not_left (left_by (table_of bytes).threads z.least z.most bytes p refl q))
      from (inr q) (p, not_left) = passed size-test (sound-test ∷ more) a p ∙ failed sound-test more a q

  pub move-refused : (r : Request) → (move_reply bytes r ≡ refused 2 0) ↔ (T (sized bytes) × (Reached (table_of bytes).threads bytes → ⊥))
  unfolding reply_in
  move-refused r =
      refused_2 (move_answer (table_of bytes) r) (request_tests (table_of bytes) r) ((λ e. omega arith), ((λ e. omega arith), ((λ e. omega arith), ((λ e. omega arith), ((λ e. omega arith), tt)))))

  pub nodes-refused : (out : List ℕ) → (delivery_reply (nodes_entry bytes) out ≡ refused 2 0) ↔ (T (sized bytes) × (Reached (table_of bytes).threads bytes → ⊥))
  unfolding delivery_reply
  nodes-refused out = refused_2 _ _ ((λ e. omega arith), tt)

  pub open_refused : (thread : ℕ) (out : List ℕ) → (delivery_reply (open_entry bytes thread) out ≡ refused 2 0) ↔ (T (sized bytes) × (Reached (table_of bytes).threads bytes → ⊥))
  unfolding delivery_reply
  open_refused thread out = refused_2 _ _ ((λ e. omega arith), ((λ e. omega arith), tt))

  pub dispatch-refused : (dispatch_reply bytes ≡ refused 2 0) ↔ (T (sized bytes) × (Reached (table_of bytes).threads bytes → ⊥))
  unfolding turn_reply_in
  dispatch-refused = refused_2 (turn_answer mover_in (table_of bytes)) [] tt
