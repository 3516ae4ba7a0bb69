-- Reading is the inverse of spelling.
-- What is spelled reads as what it says: `threads-read`, `request-read`, `note-read`. Two requests have the same line only if they are equal: `spelled_once`.
-- What reads as a form is the line that spells it: `read-spelled`.
use Prim.Native.Nat.{ℕ, suc, ◌-◌, ◌≤◌, ◌<◌}
use native.Mathlib.Omega.{arith}
use mathlib.Core.Bool.{Bool, true, false, cond, ◌&&◌, false≢true}
use mathlib.Core.List.{List, [], ◌∷◌, ◌++◌}
use mathlib.Core.Logic.{◌≢◌}
use mathlib.Core.Path.{◌≡◌, refl, sym, ap, ◌∙◌}
use borrow.Author.Tests.{eqb-true, ne_eqb}
use lib.Dec.{T, leb, eqb, eqb→eq, le→leb, ltb→lt, lt→ltb, lit≤}
use lib.ListN.{length, get_or, take, drop, length-append}
use lib.Seq.{take_all, take-suc, take_at, get_or_at}
use Rattle.definitions.specs.Bounds.{last_move}
use Rattle.definitions.specs.Codes.{go, call_shared, call_exclusive, set_move, clear_move, relent, hold}
use Rattle.definitions.specs.Forms.{Form, threads, request, note, bad, threads_line, act_text, spelled}
use Rattle.definitions.specs.Forms.{note_fits, note_form, threads_form, target_form, aimed_form, plain_moves, plain_form, act_form, move_form, form_of}
use Rattle.definitions.specs.Moves.{ask, names_thread, target_fits}
use Rattle.definitions.specs.Texts.{bytes, same, starts, is_digit, decimal, NumberRead, number_read}
use Rattle.definitions.specs.Threads.{list_of, gather, among}
use Rattle.definitions.specs.declared.Request.{Request}
use Rattle.forms.specs.Grammar.{number_bound, Spellable, RequestLine, NoteLine, Spells}
use Rattle.basics.proofs.Cases.{or_at, none_of, among_range}
use Rattle.basics.proofs.Digits.{digit_high}
use Rattle.basics.proofs.Tests.{T_true, T_false, and_i, and_both, cond_either}
use Rattle.basics.proofs.Texts.{same_eq}
use Rattle.theory.proofs.PlainMoves.{plain_e, plain_form_lem}
use Rattle.words.proofs.Comparisons.{starts-split}
use Rattle.words.proofs.Numerals.{first_printed, read-printed, number-split}

-- ---- what is spelled reads as what it says

pub threads-read : (n : ℕ) → n < number_bound → form_of (threads_line n) ≡ threads n
unfolding bytes same form_of
threads-read n h = ap threads_form (read-printed n (bytes ")") h refl)

-- a line that begins with a bracket and a digit is no threads line and no note
opened : (xs : List ℕ) → is_digit (get_or xs 0 0) ≡ true → form_of (bytes "(" ++ xs) ≡ move_form (number_read xs)
unfolding bytes same form_of
opened [] e = absurd (false≢true e)
opened (c ∷ cs) e =
    let high = digit_high c e in
    let noThreads : c ≢ 116 = λ q. omega arith in
    let noNote : c ≢ 110 = λ q. omega arith in
    rw (ne_eqb c 116 noThreads, ne_eqb c 110 noNote)

thread-read : (thread : ℕ) (xs : List ℕ) → thread < number_bound → is_digit (get_or xs 0 0) ≡ false → form_of (bytes "(" ++ (decimal thread ++ xs)) ≡ act_form thread xs
thread-read thread xs h e = opened (decimal thread ++ xs) (first_printed thread xs) ∙ ap move_form (read-printed thread xs h e)

-- what stands behind T says the move and its target
record ActRead (thread mv target : ℕ) : Type 0 where
  pub behind : is_digit (get_or (act_text mv target) 0 0) ≡ false
  pub reads : act_form thread (act_text mv target) ≡ request (ask thread mv target)

module _ (thread mv target : ℕ) (fits : T (target_fits number_bound mv target)) where
  -- a move that names no thread: its target is 0
  alone : (k : ℕ) → names_thread k ≡ false → ActRead thread k 0 → mv ≡ k → ActRead thread mv target
  alone k names a e =
      let zero : target ≡ 0 = eqb→eq target 0 (rw (e, names) at fits) in
      rw (e, zero) a

  -- one that does: its target is read
  aimed : (k : ℕ) → names_thread k ≡ true → (target < number_bound → ActRead thread k target) → mv ≡ k → ActRead thread mv target
  aimed k names a e =
      let below : target < number_bound = ltb→lt target number_bound (rw (e, names) at fits) in
      rw e (a below)

  act_read : mv ≤ last_move → ActRead thread mv target
  unfolding act_form plain_form plain_moves gather aimed_form act_text bytes same list_of
  act_read l =
      or_at mv go _ (alone go refl (record { behind = refl; reads = refl }))
      (or_at mv call_shared _ (alone call_shared refl (record { behind = refl; reads = refl }))
      (or_at mv call_exclusive _ (alone call_exclusive refl (record { behind = refl; reads = refl }))
      (or_at mv set_move _ (aimed set_move refl (λ h. record { behind = refl; reads = ap (target_form thread set_move) (read-printed target (bytes "))") h refl) }))
      (or_at mv clear_move _ (aimed clear_move refl (λ h. record { behind = refl; reads = ap (target_form thread clear_move) (read-printed target (bytes "))") h refl) }))
      (or_at mv relent _ (alone relent refl (record { behind = refl; reads = refl }))
      (or_at mv hold _ (alone hold refl (record { behind = refl; reads = refl })) (none_of mv)))))))
      (among_range mv 0 last_move (and_i (leb 0 mv) (leb mv last_move) (le→leb 0 mv (omega arith)) (le→leb mv last_move l)))

pub request-read : (r : Request) → Spellable r → form_of (spelled r) ≡ request r
request-read r s =
    let a = act_read r.thread r.mv r.target s.target_fits_lem s.move-fits in
    thread-read r.thread (act_text r.mv r.target) s.thread-fits a.behind ∙ a.reads

pub note-read : (text : List ℕ) → note_fits text ≡ true → form_of (bytes "(note " ++ (text ++ bytes ")")) ≡ note
unfolding bytes same form_of note_form
note-read text h =
    let k : length (text ++ (41 ∷ [])) - 1 ≡ length text = simp length-append (omega arith) in
    rw (k, get_or_at text 41 [] 0 (length text) refl, take_at text (41 ∷ []) (length text) refl, h)

-- two requests with the same line are equal
pub spelled_once : (r q : Request) → Spellable r → Spellable q → spelled r ≡ spelled q → r ≡ q
spelled_once r q s t e =
    let same : request r ≡ request q = sym (request-read r s) ∙ (ap form_of e ∙ request-read q t) in
    cc

-- ---- and what reads as a form is what spells it

-- a list but for its last entry, and that entry
last_off : (xs : List ℕ) (c : ℕ) → get_or xs (length xs - 1) 0 ≡ c → (c ≡ 0 → ⊥) → xs ≡ take (length xs - 1) xs ++ (c ∷ [])
last_off [] c e h = absurd (h (sym e))
last_off (x ∷ xs) c e h =
    let k : length (x ∷ xs) - 1 ≡ length xs = omega arith in
    let last : get_or (x ∷ xs) (length xs) 0 ≡ c = ap (λ (m : ℕ). get_or (x ∷ xs) m 0) (sym k) ∙ e in
    rw (k, ← last, ← take-suc (x ∷ xs) (length xs) 0 (omega arith)) (sym (take_all (suc (length xs)) (x ∷ xs) (omega arith)))

module _ (line : List ℕ) where
  -- a number, and the text behind it
  number_spelled : (xs tail : List ℕ) (F : ℕ → Form) → ((n : ℕ) → n < number_bound → xs ≡ decimal n ++ tail → Spells line (F n))
      → Spells line (cond ((number_read xs).fits && same (number_read xs).rest tail) (F (number_read xs).value) bad)
  number_spelled xs tail F spells = cond_either (Spells line) (r.fits && same r.rest tail) (F r.value) bad found (λ t. tt)
    where
      r : NumberRead
      r = number_read xs

      found : T (r.fits && same r.rest tail) → Spells line (F r.value)
      found t =
          let both = and_both r.fits (same r.rest tail) (T_true (r.fits && same r.rest tail) t) in
          let n = number-split xs both.0 in
          spells r.value n.0 (n.1 ∙ ap (λ (l : List ℕ). decimal r.value ++ l) (same_eq r.rest tail both.1))

  module _ (thread : ℕ) (h : thread < number_bound) (xs : List ℕ) (e : line ≡ bytes "(" ++ (decimal thread ++ xs)) where
    -- the line, from what follows the thread's number
    behind-thread : (ys : List ℕ) → xs ≡ ys → line ≡ bytes "(" ++ (decimal thread ++ ys)
    behind-thread ys q = e ∙ ap (λ (l : List ℕ). bytes "(" ++ (decimal thread ++ l)) q

    -- a move that names no thread
    plain-spelled : (k : ℕ) → T (among k plain_moves) → xs ≡ act_text k 0 → RequestLine line (ask thread k 0)
    plain-spelled k m q =
        let p = plain_e k m in
        record {
          can_be = record { thread-fits = h; move-fits = p.0; target_fits_lem = rw (T_false (names_thread k) p.1) tt };
          is_spelled = behind-thread (act_text k 0) q;
        }

    -- one that does, by the word that it begins with
    aimed_spelled : (k : ℕ) (word : List ℕ) → k ≤ last_move → names_thread k ≡ true → ((n : ℕ) → act_text k n ≡ word ++ (decimal n ++ bytes "))")) → T (starts word xs)
        → Spells line (target_form thread k (number_read (drop (length word) xs)))
    aimed_spelled k word l names is-text t =
        number_spelled (drop (length word) xs) (bytes "))") (λ n. request (ask thread k n))
        (λ n below q. record {
          can_be = record { thread-fits = h; move-fits = l; target_fits_lem = rw names (lt→ltb n number_bound below) };
          is_spelled = behind-thread (act_text k n) (starts-split word xs (T_true (starts word xs) t) ∙ (ap (λ (ys : List ℕ). word ++ ys) q ∙ sym (is-text n)));
        })

    act_spelled : Spells line (act_form thread xs)
    unfolding act_form aimed_form act_text bytes
    act_spelled =
        plain_form_lem (Spells line) thread xs (aimed_form thread xs)
        (cond_either (Spells line) (starts (bytes " (set ") xs) _ _ (aimed_spelled set_move (bytes " (set ") (lit≤ tt) refl (λ n. refl))
        (λ t1. cond_either (Spells line) (starts (bytes " (clear ") xs) _ _ (aimed_spelled clear_move (bytes " (clear ") (lit≤ tt) refl (λ n. refl))
        (λ t2. tt)))
        plain_moves plain-spelled

  -- a note's text, and its own bracket
  note-spelled : (xs : List ℕ) → line ≡ bytes "(note " ++ xs → Spells line (note_form xs)
  unfolding note_form bytes
  note-spelled xs e = cond_either (Spells line) (closes && fits) note bad found (λ t. tt)
    where
      closes : Bool
      closes = eqb (get_or xs (length xs - 1) 0) 41

      fits : Bool
      fits = note_fits (take (length xs - 1) xs)

      found : T (closes && fits) → NoteLine line
      found t =
          let both = and_both closes fits (T_true (closes && fits) t) in
          record {
            text = take (length xs - 1) xs;
            text-fits = both.1;
            is_spelled = e ∙ ap (λ (l : List ℕ). bytes "(note " ++ l) (last_off xs 41 (eqb-true (get_or xs (length xs - 1) 0) 41 both.0) (λ z. omega arith));
          }

  pub read-spelled : Spells line (form_of line)
  unfolding form_of bytes
  read-spelled =
      cond_either (Spells line) (starts (bytes "(threads ") line) _ _
      (λ t. number_spelled (drop 9 line) (bytes ")") threads
      (λ n l q. record { count_fits_lem = l; is_spelled = begins (bytes "(threads ") t ∙ ap (λ (xs : List ℕ). bytes "(threads " ++ xs) q }))
      (λ t1. cond_either (Spells line) (starts (bytes "(note ") line) _ _ (λ t. note-spelled (drop 6 line) (begins (bytes "(note ") t))
      (λ t2. cond_either (Spells line) (starts (bytes "(") line) _ _
      (λ t. cond_either (Spells line) (number_read (drop 1 line)).fits _ bad
      (λ f. let n = number-split (drop 1 line) (T_true (number_read (drop 1 line)).fits f) in
      act_spelled (number_read (drop 1 line)).value n.0 (number_read (drop 1 line)).rest
      (begins (bytes "(") t ∙ ap (λ (xs : List ℕ). bytes "(" ++ xs) n.1))
      (λ f. tt))
      (λ t3. tt)))
    where
      begins : (p : List ℕ) → T (starts p line) → line ≡ p ++ drop (length p) line
      begins p t = starts-split p line (T_true (starts p line) t)
