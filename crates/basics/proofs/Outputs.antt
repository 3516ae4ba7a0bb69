-- Laws of a text put into an output: two texts put one behind the other are their join put once; and of an entry that writes: its tests, then room, then its text whole.
use Prim.Native.Nat.{ℕ, ◌+◌, ◌≤◌, ◌<◌}
use native.Mathlib.Nat.{add-zero, zero-add, add_assoc}
use native.Mathlib.Omega.{arith}
use mathlib.Core.Bool.{Bool, true, false, cond}
use mathlib.Core.List.{List, [], ◌∷◌, ◌++◌, append_assoc}
use mathlib.Core.Path.{◌≡◌, refl, sym, ap, ◌∙◌}
use borrow.Author.Tests.{le-leb, lt-leb}
use lib.Dec.{T, leb, leb→le}
use lib.ListN.{length, take, drop, length-append, length-take, length-drop, take-append-drop}
use lib.Seq.{take_at, drop-drop, drop-append-add, sets, sets-eq}
use Rattle.definitions.specs.Answers.{Reply, accepted, refused, leaves, Test, passes_all, answered, filled, Delivery, counted, room_test, delivery_reply, delivery_output}
use Rattle.basics.specs.Outputs.{answering, put_at, RoomAt, PutAt, Delivered}
use Rattle.basics.proofs.Replies.{peel, behind, in_front_lem}
use Rattle.basics.proofs.TestLists.{passes-split, answered_e}

-- ---- what is left in the output

length-put : (out : List ℕ) (at : ℕ) (text : List ℕ) → at + length text ≤ length out → length (put_at out at text) ≡ length out
unfolding put_at
length-put out at text h = simp (length-append, length-take, length-drop) (omega arith)

put_nil : (out : List ℕ) (at : ℕ) → put_at out at [] ≡ out
unfolding put_at
put_nil out at = rw (add-zero, take-append-drop)

-- the front of the output, up to the end of the text
pub put_front : (out : List ℕ) (at : ℕ) (text : List ℕ) → at + length text ≤ length out → take (at + length text) (put_at out at text) ≡ take at out ++ text
unfolding put_at
put_front out at text h =
    rw (← append_assoc (take at out) text (drop (at + length text) out))
    (take_at (take at out ++ text) (drop (at + length text) out) (at + length text) (simp (length-append, length-take) (omega arith)))

put_append : (out : List ℕ) (at : ℕ) (s t : List ℕ) → at + length (s ++ t) ≤ length out → put_at (put_at out at s) (at + length s) t ≡ put_at out at (s ++ t)
unfolding put_at
put_append out at s t h = written
  where
    n : length (take at out ++ s) ≡ at + length s
    n = simp (length-append, length-take) (omega (arith, length-append s t))

    whole : take at out ++ (s ++ drop (at + length s) out) ≡ (take at out ++ s) ++ drop (at + length s) out
    whole = sym (append_assoc (take at out) s (drop (at + length s) out))

    rest : drop (at + length s + length t) ((take at out ++ s) ++ drop (at + length s) out) ≡ drop (at + length s + length t) out
    rest =
        ap (λ (k : ℕ). drop (k + length t) ((take at out ++ s) ++ drop (at + length s) out)) (sym n)
        ∙ (drop-append-add (take at out ++ s) (drop (at + length s) out) (length t) ∙ drop-drop (length t) (at + length s) out)

    written : take (at + length s) (take at out ++ (s ++ drop (at + length s) out)) ++ (t ++ drop (at + length s + length t) (take at out ++ (s ++ drop (at + length s) out)))
        ≡ take at out ++ ((s ++ t) ++ drop (at + length (s ++ t)) out)
    written =
        rw (whole, take_at (take at out ++ s) (drop (at + length s) out) (at + length s) n, rest)
        (simp (append_assoc, length-append, add_assoc))

-- ---- what functions that put a text ask and promise

-- nothing put
pub none : (a : List ℕ) (at : ℕ) → PutAt a at [] a at
none a at = record { next = sym (add-zero at); output = sym (put_nil a at) }

-- the output keeps its length
pub same_size : {a : List ℕ} {at : ℕ} {s b : List ℕ} {n : ℕ} → RoomAt a at s → PutAt a at s b n → length b ≡ length a
same_size {a} {at} {s} r p = ap length p.output ∙ length-put a at s r.ends

-- two texts, one behind the other
module _ {a : List ℕ} {at : ℕ} (s t : List ℕ) (r : RoomAt a at (s ++ t)) where
  pub room_first : RoomAt a at s
  room_first = record { ends = omega (arith, r.ends, length-append s t) }

  pub room_second : {b : List ℕ} {n : ℕ} → PutAt a at s b n → RoomAt b n t
  room_second {b} {n} p = record { ends = omega (arith, r.ends, length-append s t, p.next, same_size room_first p) }

  pub both : {b : List ℕ} {n : ℕ} {c : List ℕ} {m : ℕ} → PutAt a at s b n → PutAt b n t c m → PutAt a at (s ++ t) c m
  both p q =
      record {
        next = simp length-append (omega (arith, p.next, q.next));
        output = cc (put_append a at s t r.ends);
      }

-- bytes stored one behind the other
pub stored : (bytes : List ℕ) {out : List ℕ} {at : ℕ} → RoomAt out at bytes → PutAt out at bytes (sets out at bytes) (at + length bytes)
unfolding put_at
stored bytes {out} {at} r = record { next = refl; output = sets-eq bytes out at r.ends ∙ append_assoc (take at out) bytes (drop (at + length bytes) out) }

-- a text put at the front fills the output from there
pub filled_up : {out text out' : List ℕ} {n : ℕ} → PutAt out 0 text out' n → out' ≡ filled out text
unfolding put_at
filled_up p = rw zero-add at p.output

-- ---- an entry that writes

module _ {A : Type 0} (d : Delivery A) (out : List ℕ) where
  -- it is turned down by one of its tests
  pub turned_down : (a : A) (number place : ℕ) → answered d.tests a ≡ refused number place → Delivered d out out (refused number place)
  unfolding delivery_reply delivery_output
  turned_down a number place e =
      let r = in_front_lem d.answer a d.tests (room_test d.text out ∷ []) number place e in
      record { reply = sym r; output = sym (ap (λ (x : Reply A). leaves x (filled out d.text) out) r) }

  module _ (tested : T (passes_all d.tests)) where
    -- the reply, by whether its text has room
    reply-by : (b : Bool) → leb (length d.text) (length out) ≡ b → delivery_reply d out ≡ cond b (accepted d.answer) (refused 12 0)
    unfolding delivery_reply answered
    reply-by b e = behind d.answer d.tests (room_test d.text out ∷ []) tested ∙ ap (λ (x : Bool). cond x (accepted d.answer) (refused 12 0)) e

    -- it has none: nothing is written
    pub no_room : length out < length d.text → Delivered d out out (refused 12 0)
    unfolding delivery_output
    no_room h =
        let r = reply-by false (lt-leb (length d.text) (length out) h) in
        record { reply = sym r; output = sym (ap (λ (x : Reply A). leaves x (filled out d.text) out) r) }

    -- it has: all of it is
    pub whole : length d.text ≤ length out → Delivered d out (filled out d.text) (accepted d.answer)
    unfolding delivery_output
    whole h =
        let r = reply-by true (le-leb (length d.text) (length out) h) in
        record { reply = sym r; output = sym (ap (λ (x : Reply A). leaves x (filled out d.text) out) r) }

-- what is answered and left, by equal terms
pub delivered_as : {A : Type 0} {d : Delivery A} {out after after' : List ℕ} {r r' : Reply A} → Delivered d out after r → after' ≡ after → r' ≡ r → Delivered d out after' r'
delivered_as p e f = record { reply = f ∙ p.reply; output = e ∙ p.output }

-- a text delivered without tests is what an entry whose tests are passed delivers
pub with_tests : (tests : List Test) {text out after : List ℕ} {r : Reply ℕ} → T (passes_all tests) → Delivered (counted [] text) out after r → Delivered (counted tests text) out after r
unfolding delivery_reply delivery_output
with_tests tests {text} {out} tested p =
    let e = behind (length text) tests (room_test text out ∷ []) tested in
    record { reply = p.reply ∙ sym e; output = p.output ∙ ap (λ (x : Reply ℕ). leaves x (filled out text) out) (sym e) }

-- two entries whose tests are passed deliver the same text alike, and the answer of the one puts that of the other in other words
pub with_answer : {A B : Type 0} (f : A → B) (d : Delivery A) (e : Delivery B) {out after : List ℕ} {r : Reply A} → T (passes_all d.tests) → T (passes_all e.tests)
    → e.text ≡ d.text → e.answer ≡ f d.answer → Delivered d out after r → Delivered e out after (answering f r)
unfolding delivery_output
with_answer {A} {B} f d e {out} tested tested' text answer p =
    let fits = leb (length d.text) (length out) in
    let was = reply-by d out tested fits refl in
    let now = reply-by e out tested' fits (ap (λ (xs : List ℕ). leb (length xs) (length out)) text) ∙ ap (λ (b : B). cond fits (accepted b) (refused 12 0)) answer in
    record {
      reply = ap (answering f) (p.reply ∙ was) ∙ (same fits ∙ sym now);
      output =
          p.output
          ∙ (ap (λ (x : Reply A). leaves x (filled out d.text) out) was
          ∙ (left fits
          ∙ (ap (λ (x : Reply B). leaves x (filled out d.text) out) (sym now)
          ∙ ap (λ (xs : List ℕ). leaves (delivery_reply e out) (filled out xs) out) (sym text))));
    }
  where
    same : (b : Bool) → answering f (cond b (accepted d.answer) (refused 12 0)) ≡ cond b (accepted (f d.answer)) (refused 12 0)
    same true = refl
    same false = refl

    left : (b : Bool) → leaves {A = A} (cond b (accepted d.answer) (refused 12 0)) (filled out d.text) out
        ≡ leaves {A = B} (cond b (accepted (f d.answer)) (refused 12 0)) (filled out d.text) out
    left true = refl
    left false = refl

-- ---- what an accepted answer says

module _ {A : Type 0} (d : Delivery A) (out : List ℕ) where
  -- its tests are passed, there is room, and the answer is its own
  pub record Answered (a : A) : Type 0 where
    pub tested : T (passes_all d.tests)
    pub room : length d.text ≤ length out
    pub answer : d.answer ≡ a

  -- that holds of an entry that answers
  pub answered_so : (a : A) → delivery_reply d out ≡ accepted a → Answered a
  unfolding delivery_reply
  answered_so a e =
      let last = room_test d.text out ∷ [] in
      let r = answered_e _ d.answer a e in
      let p = passes-split d.tests last r.0 in
      record {
        tested = p.0;
        room = leb→le (length d.text) (length out) (peel (room_test d.text out) [] p.1).0;
        answer = r.1;
      }

  -- and its text stands at the front of the output
  pub text_first : (a : A) (size : ℕ) → delivery_reply d out ≡ accepted a → length d.text ≡ size → take size (delivery_output d out) ≡ d.text
  text_first a size e long =
      let s = answered_so a e in
      ap (take size) (sym (whole d out s.tested s.room).output) ∙ take_at d.text (drop (length d.text) out) size long
