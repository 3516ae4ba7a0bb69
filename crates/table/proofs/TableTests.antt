-- What the answers of `examine` mean to a caller: a refusal is that of the tests of a table, and a table found sound passes them.
use Prim.Native.Nat.{ℕ}
use mathlib.Core.Bool.{Bool, true, false, cond}
use mathlib.Core.List.{List, ◌++◌}
use mathlib.Core.Path.{◌≡◌, ap, ◌∙◌}
use lib.Dec.{T}
use Rattle.std.specs.Prelude.{Ok, Err}
use Rattle.definitions.specs.Answers.{accepted, refused, number_of, Test, answered, passes_all, Delivery}
use Rattle.definitions.specs.Sound.{sound, table_tests}
use Rattle.definitions.specs.Table.{table_of, sized}
use Rattle.definitions.specs.declared.Refusal.{Refusal}
use Rattle.definitions.specs.declared.Refusal.TheVariants.{BadSize, Unsound}
use Rattle.theory.specs.Tables.{SoundBytes, forbidden_count}
use Rattle.basics.specs.Outputs.{Delivered}
use Rattle.table.specs.TableTests.{told_of, examined_of}
use Rattle.table.specs.declared.tests.Examined.{Examined}
use Rattle.basics.proofs.Outputs.{turned_down}
use Rattle.basics.proofs.Replies.{in_front_lem, pass, no_test}

-- whatever would be answered otherwise
module _ {A : Type 0} (a : A) (told : Examined) (x : Refusal) where
  by_tests : (p q : Bool) → cond p (cond q (Ok told) (Err Unsound)) (Err BadSize) ≡ Err x
      → cond p (cond q (accepted a) (refused 2 0)) (refused 1 0) ≡ refused (number_of x) 0
  by_tests true true e = cc
  by_tests true false e = let same : Unsound ≡ x = cc in ap (λ (r : Refusal). refused (number_of r) 0) same
  by_tests false q e = let same : BadSize ≡ x = cc in ap (λ (r : Refusal). refused (number_of r) 0) same

pub refusal_is : {A : Type 0} (a : A) (bytes : List ℕ) (x : Refusal) → examined_of bytes ≡ Err x → answered (table_tests bytes) a ≡ refused (number_of x) 0
unfolding examined_of answered
refusal_is a bytes x e = by_tests a (told_of bytes) x (sized bytes) (sound (table_of bytes)) e

-- an entry that tests the table first is turned down by that refusal
pub entry_refused : {A : Type 0} (d : Delivery A) (bytes out : List ℕ) (ts : List Test) (x : Refusal) → d.tests ≡ table_tests bytes ++ ts → examined_of bytes ≡ Err x
    → Delivered d out out (refused (number_of x) 0)
entry_refused d bytes out ts x e t =
    turned_down d out d.answer (number_of x) 0
    (ap (λ (tests : List Test). answered tests d.answer) e ∙ in_front_lem d.answer d.answer (table_tests bytes) ts (number_of x) 0 (refusal_is d.answer bytes x t))

-- what is found of a sound table: N, and how many have forbidden 1
pub record SoundTable (bytes : List ℕ) (found : Examined) : Type 0 where
  pub tested : SoundBytes bytes
  pub threads : found.threads ≡ (table_of bytes).threads
  pub count : found.forbidden ≡ forbidden_count (table_of bytes)

record Both (p q : Bool) (told found : Examined) : Type 0 where
  first : T p
  second : T q
  same : found ≡ told

both : (p q : Bool) (told found : Examined) → cond p (cond q (Ok told) (Err Unsound)) (Err BadSize) ≡ Ok found → Both p q told found
both true true told found e = record { first = tt; second = tt; same = cc }
both true false told found e = cc
both false q told found e = cc

pub sound_is : (bytes : List ℕ) (found : Examined) → examined_of bytes ≡ Ok found → SoundTable bytes found
unfolding examined_of
sound_is bytes found e =
    let b = both (sized bytes) (sound (table_of bytes)) (told_of bytes) found e in
    record {
      tested = record { is_sized = b.first; is_sound = b.second };
      threads = ap (λ (x : Examined). x.threads) b.same;
      count = ap (λ (x : Examined). x.forbidden) b.same;
    }

-- a sound table passes its tests
pub sound-passes : (bytes : List ℕ) → SoundBytes bytes → T (passes_all (table_tests bytes))
sound-passes bytes h = pass _ _ h.is_sized (pass _ _ h.is_sound no_test)
