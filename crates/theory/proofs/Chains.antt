-- Lists of requests to the record `Table` that are accepted throughout (`Leads`), one behind the other; lists from the fresh table's bytes as lists from its record;
-- one request by its effect (`makes`); and the numbers of accepted requests.
use Prim.Native.Nat.{ℕ, ◌+◌, ◌≤◌, ◌<◌, ◌^◌}
use native.Mathlib.Omega.{arith}
use mathlib.Core.Bool.{true, not}
use mathlib.Core.List.{List, [], ◌∷◌, ◌++◌, append_assoc, append-nil}
use mathlib.Core.Path.{◌≡◌, refl, sym, subst, ap, ◌∙◌}
use lib.Dec.{T}
use Rattle.definitions.specs.Answers.{accepted}
use Rattle.definitions.specs.Bounds.{most_threads, last_move}
use Rattle.definitions.specs.Chains.{pair_seen, pair_for, history_in, after_in, retries_in, accepts_all_in, history, retries, table_after, accepts_all, AllFit16}
use Rattle.definitions.specs.Codes.{go}
use Rattle.definitions.specs.Moves.{ask, Effect, go_effect, effect, target_fits, must_wait, move_answer, accepts, reply_in, step_in, accepts_in}
use Rattle.definitions.specs.Phases.{has_move}
use Rattle.definitions.specs.PlainLock.{Pair}
use Rattle.definitions.specs.Sound.{sound}
use Rattle.definitions.specs.Table.{Table, fresh_table, table_of, applied, itself, byte_table, fresh}
use Rattle.definitions.specs.declared.Request.{Request}
use Rattle.theory.proofs.Bytes.{byte_keeps, fresh-table, fresh-sized}
use Rattle.theory.proofs.RequestNumbers.{NumbersFit, AllNumbersFit, target_below}
use Rattle.theory.proofs.SoundSteps.{kept-sound}
use Rattle.theory.proofs.Storages.{accepts_e, accepts_i, accepted-reply, accepted_stores, history-same, after_same, retries-same, accepts-all-same}
use Rattle.basics.proofs.Tests.{and_l, and_r, and_i}
use Rattle.theory.proofs.Ways.{Accepted, accepted_e, accepted_i}
use Rattle.theory.proofs.Writes.{applied-keeps}

-- ---- from the fresh table

module _ (n : ℕ) (least : 1 ≤ n) (most : n ≤ most_threads) (rs : List Request) where
  pub history-fresh : history (fresh n) rs ≡ history_in itself (fresh_table n) rs
  history-fresh = history-same byte_table byte_keeps (fresh n) rs (fresh-sized n least most) ∙ ap (λ (s : Table). history_in itself s rs) (fresh-table n)

  pub after_fresh : table_of (table_after (fresh n) rs) ≡ after_in itself (fresh_table n) rs
  after_fresh = after_same byte_table byte_keeps (fresh n) rs (fresh-sized n least most) ∙ ap (λ (s : Table). after_in itself s rs) (fresh-table n)

  pub retries-fresh : retries (fresh n) rs ≡ retries_in itself (fresh_table n) rs
  retries-fresh = retries-same byte_table byte_keeps (fresh n) rs (fresh-sized n least most) ∙ ap (λ (s : Table). retries_in itself s rs) (fresh-table n)

  pub accepts-fresh : accepts_all (fresh n) rs ≡ accepts_all_in itself (fresh_table n) rs
  accepts-fresh = accepts-all-same byte_table byte_keeps (fresh n) rs (fresh-sized n least most) ∙ ap (λ (s : Table). accepts_all_in itself s rs) (fresh-table n)

-- ---- one request

-- an accepted request: its effect is what it shows and what it writes
module _ (s : Table) (r : Request) (t : T (accepts s r)) where
  pub own-reply : reply_in itself s r ≡ accepted (move_answer s r)
  own-reply = accepted-reply itself s r (accepts_i itself s r tt t)

  pub own-step : step_in itself s r ≡ applied s (effect s r).writes
  own-step = accepted_stores itself s r (accepts_i itself s r tt t)

-- ---- chains that are accepted throughout

-- from table s the requests rs are all accepted, show h and leave table t, which is sound
pub record Leads (s : Table) (rs : List Request) (h : List Pair) (t : Table) : Type 0 where
  pub all-accepted : T (accepts_all_in itself s rs)
  pub shows : history_in itself s rs ≡ h
  pub ends : after_in itself s rs ≡ t
  pub sound_after : T (sound t)

pub stays : (s : Table) → T (sound s) → Leads s [] [] s
unfolding accepts_all_in history_in after_in
stays s g = record { all-accepted = tt; shows = refl; ends = refl; sound_after = g }

-- one accepted request
pub one : (s : Table) (r : Request) → Accepted s r → Leads s (r ∷ []) (pair_seen r.thread (effect s r).shows) (applied s (effect s r).writes)
unfolding accepts_all_in history_in after_in
one s r a =
    let t = accepted_i s r a in
    record {
      all-accepted = and_i (accepts_in itself s r) true (accepts_i itself s r tt t) tt;
      shows = append-nil (pair_for r.thread (reply_in itself s r)) ∙ ap (pair_for r.thread) (own-reply s r t);
      ends = own-step s r t;
      sound_after = kept-sound s r t;
    }

accepts_append : (s : Table) (rs qs : List Request) → T (accepts_all_in itself s rs) → T (accepts_all_in itself (after_in itself s rs) qs) → T (accepts_all_in itself s (rs ++ qs))
unfolding accepts_all_in after_in
accepts_append s [] qs a b = b
accepts_append s (r ∷ rs) qs a b =
    let here = accepts_in itself s r in
    let next = step_in itself s r in
    and_i here (accepts_all_in itself next (rs ++ qs)) (and_l here (accepts_all_in itself next rs) a)
    (accepts_append next rs qs (and_r here (accepts_all_in itself next rs) a) b)

shows_append : (s : Table) (rs qs : List Request) → history_in itself s (rs ++ qs) ≡ history_in itself s rs ++ history_in itself (after_in itself s rs) qs
unfolding history_in after_in
shows_append s [] qs = refl
shows_append s (r ∷ rs) qs =
    let here = pair_for r.thread (reply_in itself s r) in
    let next = step_in itself s r in
    ap (λ (l : List Pair). here ++ l) (shows_append next rs qs)
    ∙ sym (append_assoc here (history_in itself next rs) (history_in itself (after_in itself next rs) qs))

after_append : (s : Table) (rs qs : List Request) → after_in itself s (rs ++ qs) ≡ after_in itself (after_in itself s rs) qs
unfolding after_in
after_append s [] qs = refl
after_append s (r ∷ rs) qs = after_append (step_in itself s r) rs qs

pub retries_append : (s : Table) (rs qs : List Request) → retries_in itself s (rs ++ qs) ≡ retries_in itself s rs + retries_in itself (after_in itself s rs) qs
unfolding retries_in after_in
retries_append s [] qs = omega arith
retries_append s (r ∷ rs) qs = omega (arith, retries_append (step_in itself s r) rs qs)

-- one list of requests behind another
pub both : {s t u : Table} {rs qs : List Request} {h k : List Pair} → Leads s rs h t → Leads t qs k u → Leads s (rs ++ qs) (h ++ k) u
both {s} {t} {u} {rs} {qs} {h} {k} a b =
    record {
      all-accepted = accepts_append s rs qs a.all-accepted (subst (λ (x : Table). T (accepts_all_in itself x qs)) (sym a.ends) b.all-accepted);
      shows = shows_append s rs qs
          ∙ (ap (λ (l : List Pair). l ++ history_in itself (after_in itself s rs) qs) a.shows
          ∙ ap (λ (l : List Pair). h ++ l) (ap (λ (x : Table). history_in itself x qs) a.ends ∙ b.shows));
      ends = after_append s rs qs ∙ (ap (λ (x : Table). after_in itself x qs) a.ends ∙ b.ends);
      sound_after = b.sound_after;
    }

-- the same by another word for the table that is left
pub arrives : {s t u : Table} {rs : List Request} {h : List Pair} → Leads s rs h t → t ≡ u → Leads s rs h u
arrives {s} {t} {u} {rs} {h} a e = subst (λ (x : Table). Leads s rs h x) e a

module _ (s : Table) (i : ℕ) (g : T (sound s)) (fits : i < s.threads) where
  -- a request that passes its tests, by its effect
  pub makes : (mv t : ℕ) (e : Effect) → mv ≤ last_move → T (target_fits s.threads mv t) → T (has_move mv (s.phase i)) → T (not (must_wait (s.phase i) s.mutex mv)) → effect s (ask i mv t) ≡ e
      → Leads s (ask i mv t ∷ []) (pair_seen i e.shows) (applied s e.writes)
  makes mv t e a b c d to =
      subst (λ (x : Effect). Leads s (ask i mv t ∷ []) (pair_seen i x.shows) (applied s x.writes)) to
      (one s (ask i mv t) (record { is_sound = g; thread-fits = fits; move-fits = a; target_fits_lem = b; has_move_lem = c; may_go_lem = d }))

  -- go in phase k
  pub makes-go : (k : ℕ) (e : Effect) → s.phase i ≡ k → T (has_move go k) → T (not (must_wait k s.mutex go)) → go_effect s i ≡ e
      → Leads s (ask i go 0 ∷ []) (pair_seen i e.shows) (applied s e.writes)
  unfolding effect
  makes-go k e at has free to =
      makes go 0 e (omega arith) tt (subst (λ (x : ℕ). T (has_move go x)) (sym at) has)
      (subst (λ (x : ℕ). T (not (must_wait x s.mutex go))) (sym at) free) to

-- ---- the numbers of accepted requests

-- the numbers of every accepted request fit the table's threads
pub accepted-numbers : (s : Table) (r : Request) → Accepted s r → NumbersFit s.threads r
accepted-numbers s r a = record { thread-fits = a.thread-fits; move-fits = a.move-fits; target_fits_lem = a.target_fits_lem }

pub all-numbers : (s : Table) (rs : List Request) → T (accepts_all_in itself s rs) → AllNumbersFit s.threads rs
unfolding accepts_all_in
all-numbers s [] a = tt
all-numbers s (r ∷ rs) a =
    let here = accepts_in itself s r in
    let rest = accepts_all_in itself (step_in itself s r) rs in
    let t = (accepts_e itself s r (and_l here rest a)).1 in
    let n : (step_in itself s r).threads ≡ s.threads = ap (λ (x : Table). x.threads) (own-step s r t) ∙ applied-keeps s (effect s r).writes in
    (accepted-numbers s r (accepted_e s r t), subst (λ (m : ℕ). AllNumbersFit m rs) n (all-numbers (step_in itself s r) rs (and_r here rest a)))

-- so they have 16 bits
numbers_16 : (n : ℕ) (rs : List Request) → n ≤ most_threads → AllNumbersFit n rs → AllFit16 rs
numbers_16 n [] most f = tt
numbers_16 n (r ∷ rs) most f =
    let a = f.0 in (
      record {
        thread = omega (arith, a.thread-fits);
        mv = omega (arith, a.move-fits);
        target = target_below n (2 ^ 16) r.mv r.target (omega arith) (omega arith) a.target_fits_lem;
      },
      numbers_16 n rs most f.1,
    )

pub all_16 : (s : Table) (rs : List Request) → s.threads ≤ most_threads → T (accepts_all_in itself s rs) → AllFit16 rs
all_16 s rs most a = numbers_16 s.threads rs most (all-numbers s rs a)
