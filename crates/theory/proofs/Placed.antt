-- The writes of an accepted move, applied to a table, are the head, the mover and the subject's flag that they make, put back at their places (`writes_placed`);
-- and in every storage that keeps what is written, and whose table tells it, storing these one after the other is storing the writes (`store_law`).
-- How many flags are set then is `count_placed`. For every table, storage and request.
use Prim.Native.Nat.{ℕ, ◌+◌, ◌<◌}
use mathlib.Core.Bool.{cond}
use mathlib.Core.List.{List, [], ◌∷◌}
use mathlib.Core.Logic.{◌⊎◌, inl, inr}
use mathlib.Core.Path.{◌≡◌, refl, sym, subst, ap, ◌∙◌, fun_ext}
use lib.Dec.{T, eqb}
use Rattle.definitions.specs.Moves.{effect, accepts}
use Rattle.definitions.specs.Table.{Table, Write, mutex≔, target≔, phase≔, busy≔, forbidden≔, update, applied_one, applied, Storage}
use Rattle.definitions.specs.Threads.{how_many}
use Rattle.definitions.specs.declared.Head.{Head}
use Rattle.definitions.specs.declared.Request.{Request}
use Rattle.definitions.specs.declared.Task.{Task}
use Rattle.theory.specs.Statements.{subject_of}
use Rattle.theory.specs.Tables.{Keeps, Told, forbidden_count, head_of, task_of, flagged, head_writes, task_writes, put_task, put_back, head_with, mover_with, flag_with, head_after, mover_after, flag_after}
use Rattle.theory.proofs.MoveWrites.{Within, WithinOne, effect-within, writes_fit, subject-thread}
use Rattle.basics.proofs.Quantifiers.{how_many-change}
use Rattle.basics.proofs.Tests.{same?}
use Rattle.theory.proofs.Ways.{accepted_e}
use Rattle.basics.proofs.Columns.{update_same, update_other}
use Rattle.theory.proofs.Writes.{same-table}

-- ---- columns

-- a column given the value that it has
update-own : (f : ℕ → ℕ) (i v : ℕ) → v ≡ f i → update f i v ≡ f
update-own f i v e = fun_ext (λ j. by j (same? j i))
  where
    by : (j : ℕ) → (j ≡ i) ⊎ (j ≡ i → ⊥) → update f i v j ≡ f j
    by j (inl q) = update_same f i v j q ∙ (e ∙ sym (ap f q))
    by j (inr q) = update_other f i v j q

-- what is written again need not be written
update_again : (f : ℕ → ℕ) (i u v : ℕ) → update (update f i u) i v ≡ update f i v
update_again f i u v = fun_ext (λ j. by j (same? j i))
  where
    by : (j : ℕ) → (j ≡ i) ⊎ (j ≡ i → ⊥) → update (update f i u) i v j ≡ update f i v j
    by j (inl q) = update_same (update f i u) i v j q ∙ sym (update_same f i v j q)
    by j (inr q) = update_other (update f i u) i v j q ∙ (update_other f i u j q ∙ sym (update_other f i v j q))

-- ---- a head, a mover and a flag put back

abbrev pub placed : Table → ℕ → ℕ → Head → Task → ℕ → Table
placed s i t h m f =
    record {
      threads = s.threads;
      mutex = h.mutex;
      target = h.target;
      phase = update s.phase i m.phase;
      busy = update s.busy i m.busy;
      forbidden = update s.forbidden t f;
    }

-- one write of mover i with subject t is written again
again : (s : Table) (i t : ℕ) (h : Head) (m : Task) (f : ℕ) (w : Write) → WithinOne i t w → placed (applied_one s w) i t h m f ≡ placed s i t h m f
again s i t h m f (mutex≔ v) e = refl
again s i t h m f (target≔ v) e = refl
again s i t h m f (phase≔ j v) e =
    same-table _ _ refl refl refl (ap (λ (x : ℕ). update (update s.phase x v) i m.phase) e ∙ update_again s.phase i v m.phase) refl refl
again s i t h m f (busy≔ j v) e =
    same-table _ _ refl refl refl refl (ap (λ (x : ℕ). update (update s.busy x v) i m.busy) e ∙ update_again s.busy i v m.busy) refl
again s i t h m f (forbidden≔ j v) e =
    same-table _ _ refl refl refl refl refl (ap (λ (x : ℕ). update (update s.forbidden x v) t f) e ∙ update_again s.forbidden t v f)

-- a head, a mover and a flag as they stand in a table
pub record Stand (s : Table) (i t : ℕ) (h : Head) (m : Task) (f : ℕ) : Type 0 where
  pub head : h ≡ head_of s
  pub phase : m.phase ≡ s.phase i
  pub busy : m.busy ≡ s.busy i
  pub flag : f ≡ s.forbidden t

-- they follow a write
stand_one : (s : Table) (i t : ℕ) (h : Head) (m : Task) (f : ℕ) (w : Write) → WithinOne i t w → Stand s i t h m f
    → Stand (applied_one s w) i t (head_with h w) (mover_with m w) (flag_with f w)
stand_one s i t h m f (mutex≔ v) e z =
    record { head = ap (λ (x : Head). head_with x (mutex≔ v)) z.head; phase = z.phase; busy = z.busy; flag = z.flag }
stand_one s i t h m f (target≔ v) e z =
    record { head = ap (λ (x : Head). head_with x (target≔ v)) z.head; phase = z.phase; busy = z.busy; flag = z.flag }
stand_one s i t h m f (phase≔ j v) e z =
    record { head = z.head; phase = sym (update_same s.phase j v i (sym e)); busy = z.busy; flag = z.flag }
stand_one s i t h m f (busy≔ j v) e z =
    record { head = z.head; phase = z.phase; busy = sym (update_same s.busy j v i (sym e)); flag = z.flag }
stand_one s i t h m f (forbidden≔ j v) e z =
    record { head = z.head; phase = z.phase; busy = z.busy; flag = sym (update_same s.forbidden j v t (sym e)) }

pub writes_placed : (s : Table) (i t : ℕ) (h : Head) (m : Task) (f : ℕ) (ws : List Write) → Within i t ws → Stand s i t h m f
    → applied s ws ≡ placed s i t (head_after h ws) (mover_after m ws) (flag_after f ws)
writes_placed s i t h m f [] x z =
    same-table _ _ refl (sym (ap (λ (k : Head). k.mutex) z.head)) (sym (ap (λ (k : Head). k.target) z.head))
    (sym (update-own s.phase i m.phase z.phase)) (sym (update-own s.busy i m.busy z.busy)) (sym (update-own s.forbidden t f z.flag))
writes_placed s i t h m f (w ∷ ws) x z =
    writes_placed (applied_one s w) i t (head_with h w) (mover_with m w) (flag_with f w) ws x.1 (stand_one s i t h m f w x.0 z)
    ∙ again s i t (head_after (head_with h w) ws) (mover_after (mover_with m w) ws) (flag_after (flag_with f w) ws) w x.0

-- no write is to the mover's own flag but as the subject's
pub own-flag : (m : Task) (ws : List Write) → (mover_after m ws).forbidden ≡ m.forbidden
own-flag m [] = refl
own-flag m (mutex≔ v ∷ ws) = own-flag m ws
own-flag m (target≔ v ∷ ws) = own-flag m ws
own-flag m (phase≔ i v ∷ ws) = own-flag (mover_with m (phase≔ i v)) ws
own-flag m (busy≔ i v ∷ ws) = own-flag (mover_with m (busy≔ i v)) ws
own-flag m (forbidden≔ i v ∷ ws) = own-flag m ws

-- ---- the mover, then the subject with its flag, then the head

abbrev after_mover : Table → ℕ → Task → Table
after_mover s i m = applied s (task_writes i m)

abbrev after_both : Table → ℕ → ℕ → Task → ℕ → Table
after_both s i t m f = applied (after_mover s i m) (task_writes t (flagged (task_of (after_mover s i m) t) f))

put_back_lem : (s : Table) (i t : ℕ) (h : Head) (m : Task) (f : ℕ) → m.forbidden ≡ s.forbidden i → applied (after_both s i t m f) (head_writes h) ≡ placed s i t h m f
put_back_lem s i t h m f own =
    same-table _ _ refl refl refl
    (update-own (update s.phase i m.phase) t _ refl)
    (update-own (update s.busy i m.busy) t _ refl)
    (ap (λ (g : ℕ → ℕ). update g t f) (update-own s.forbidden i m.forbidden own))

-- ---- an accepted request

-- what its writes make of the head, the mover and the subject's flag
pub record MadeBy (s : Table) (r : Request) (h : Head) (m : Task) (f : ℕ) : Type 0 where
  pub head : h ≡ head_after (head_of s) (effect s r).writes
  pub mover : m ≡ mover_after (task_of s r.thread) (effect s r).writes
  pub flag : f ≡ flag_after (s.forbidden (subject_of s r)) (effect s r).writes

module _ (s : Table) (r : Request) (a : T (accepts s r)) (h : Head) (m : Task) (f : ℕ) (made : MadeBy s r h m f) where
  abbrev ws : List Write
  ws = (effect s r).writes

  abbrev t : ℕ
  t = subject_of s r

  pub move_placed : applied s ws ≡ placed s r.thread t h m f
  move_placed =
      writes_placed s r.thread t (head_of s) (task_of s r.thread) (s.forbidden t) ws (effect-within s r a) (record { head = refl; phase = refl; busy = refl; flag = refl })
      ∙ (ap (λ (x : Head). placed s r.thread t x (mover_after (task_of s r.thread) ws) (flag_after (s.forbidden t) ws)) (sym made.head)
      ∙ (ap (λ (x : Task). placed s r.thread t h x (flag_after (s.forbidden t) ws)) (sym made.mover)
      ∙ ap (λ (x : ℕ). placed s r.thread t h m x) (sym made.flag)))

  own : m.forbidden ≡ s.forbidden r.thread
  own = ap (λ (x : Task). x.forbidden) made.mover ∙ own-flag (task_of s r.thread) ws

  pub count_placed : forbidden_count (applied s ws) + cond (eqb (s.forbidden t) 1) 1 0 ≡ forbidden_count s + cond (eqb f 1) 1 0
  unfolding forbidden_count
  count_placed =
      ap (λ (x : Table). how_many x.threads (λ j. eqb (x.forbidden j) 1) + cond (eqb (s.forbidden t) 1) 1 0) move_placed
      ∙ (how_many-change (λ j. eqb (s.forbidden j) 1) (λ j. eqb (update s.forbidden t f j) 1) s.threads t (subject-thread s r a)
      (λ j ne. ap (λ (x : ℕ). eqb x 1) (sym (update_other s.forbidden t f j ne)))
      ∙ ap (λ (x : ℕ). how_many s.threads (λ j. eqb (s.forbidden j) 1) + cond (eqb x 1) 1 0) (update_same s.forbidden t f t refl))

-- the same through a storage
module _ {B : Type 0} (S : Storage B) (keeps : Keeps S) (told : Told S) (b : B) (fits : T (S.fits b)) where
  module _ (r : Request) (a : T (accepts (S.table b) r)) (h : Head) (m : Task) (f : ℕ) (made : MadeBy (S.table b) r h m f) where
    abbrev s : Table
    s = S.table b

    abbrev i : ℕ
    i = r.thread

    abbrev u : ℕ
    u = subject_of s r

    -- a task's writes are to a thread
    here : i < s.threads
    here = (accepted_e s r a).thread-fits

    there : u < s.threads
    there = subject-thread s r a

    abbrev one : B
    one = put_task S b i m

    one_table : S.table one ≡ after_mover s i m
    one_table = keeps.writes b (task_writes i m) fits (here, (here, (here, tt)))

    one_fits : T (S.fits one)
    one_fits = keeps.fits b (task_writes i m) fits (here, (here, (here, tt)))

    abbrev subject : Task
    subject = flagged (task_of (S.table one) u) f

    same-threads : (S.table one).threads ≡ s.threads
    same-threads = ap (λ (x : Table). x.threads) one_table

    there_too : u < (S.table one).threads
    there_too = subst (λ (n : ℕ). u < n) (sym same-threads) there

    abbrev two : B
    two = put_task S one u subject

    two_table : S.table two ≡ after_both s i u m f
    two_table =
        keeps.writes one (task_writes u subject) one_fits (there_too, (there_too, (there_too, tt)))
        ∙ ap (λ (x : Table). applied x (task_writes u (flagged (task_of x u) f))) one_table

    two_fits : T (S.fits two)
    two_fits = keeps.fits one (task_writes u subject) one_fits (there_too, (there_too, (there_too, tt)))

    -- the mover, then the subject with its flag, then the head: what the writes store
    pub store_law : put_back S b i u h m f ≡ S.store b (effect s r).writes
    store_law =
        told _ _ (keeps.fits two (head_writes h) two_fits (tt, (tt, tt))) (keeps.fits b (effect s r).writes fits (writes_fit s r a))
        (keeps.writes two (head_writes h) two_fits (tt, (tt, tt))
        ∙ (ap (λ (x : Table). applied x (head_writes h)) two_table
        ∙ (put_back_lem s i u h m f (own s r a h m f made)
        ∙ (sym (move_placed s r a h m f made) ∙ sym (keeps.writes b (effect s r).writes fits (writes_fit s r a))))))
