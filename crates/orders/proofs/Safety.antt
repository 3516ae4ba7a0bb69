-- What a list of requests shows is permitted by the plain lock (`shown-permitted`) and leads to the places of the table that is left (`shown_places`): a table's phases give every
-- thread's place in its round; a quiet move keeps the places, and a shown event is permitted at them and advances them.
use Prim.Native.Nat.{ℕ, suc, ◌<◌}
use native.Mathlib.Omega.{arith}
use mathlib.Core.Bool.{Bool, not, ◌&&◌}
use mathlib.Core.List.{List, [], ◌∷◌, ◌++◌}
use mathlib.Core.Logic.{◌⊎◌, inl, inr}
use mathlib.Core.Path.{◌≡◌, refl, sym, subst, ap, ◌∙◌}
use lib.Dec.{T, eqb, eqb→eq}
use Rattle.definitions.specs.Answers.{Reply, accepted, refused, is_accepted, MoveAnswer}
use Rattle.definitions.specs.Bounds.{first_event, last_event, last_phase}
use Rattle.definitions.specs.Chains.{pair_seen, pair_for, history_in, after_in}
use Rattle.definitions.specs.Moves.{Effect, quietly, showing, effect, reply_in, step_in, accepts_in}
use Rattle.definitions.specs.Phases.{rows, holds, reading}
use Rattle.definitions.specs.PlainLock.{Pair, Places, place_after, advanced, places_after, is_next, any_in_shared, any_in_exclusive, need_met}
use Rattle.definitions.specs.Sound.{sound}
use Rattle.definitions.specs.Table.{Table, Write, phase≔, update, applied, itself}
use Rattle.definitions.specs.Threads.{every, some, between, implies}
use Rattle.definitions.specs.declared.Request.{Request}
use Rattle.orders.specs.Rounds.{place_of, places_of}
use Rattle.orders.specs.Histories.{pair_of}
use Rattle.plain_lock.specs.Permitted.{pair_fits, permitted_from}
use Rattle.basics.proofs.Quantifiers.{every_at, none_i}
use Rattle.basics.proofs.Tests.{and_i, implies_e, decided, not_i}
use Rattle.basics.proofs.Columns.{along, kept, through}
use Rattle.theory.proofs.SoundSteps.{kept-sound}
use Rattle.theory.proofs.Soundness.{All, Sound, sound_e}
use Rattle.theory.proofs.Storages.{accepts_e, refused-stays}
use Rattle.theory.proofs.Ways.{Way, accepted_e, way}
use Rattle.theory.proofs.Ways.{call_shared_lem, raise_busy, find_open, find-forbidden, back_off, try_again, hold-mutex, give_back, enter-shared, leave_shared, lower_busy, return_shared}
use Rattle.theory.proofs.Ways.{call_exclusive_lem, take-mutex, set-flag, find-busy, last-flag, next-flag, relents, give_up, enter-exclusive, leave_exclusive}
use Rattle.theory.proofs.Ways.{set_again, clear_flag, clear_last, release_mutex, return_exclusive}
use Rattle.theory.proofs.Writes.{applied-keeps}
use Rattle.theory.proofs.Chains.{own-reply, own-step}
use Rattle.orders.proofs.PairTests.{permits_i}

-- ---- what a way does to the places

-- how an effect is seen from outside: it is quiet and keeps the places, or shows an event that is permitted at the places and advances them
data View (s : Table) (i : ℕ) : Effect → Type 0 where
  unseen : (ws : List Write) → places_of (applied s ws) ≡ places_of s → View s i (quietly ws)
  seen : (e : ℕ) (ws : List Write) → T (pair_fits s.threads (places_of s) (pair_of i e)) → places_of (applied s ws) ≡ advanced (places_of s) (pair_of i e) → View s i (showing e ws)

-- a place has one phase alone, by a test of all phases
abbrev only_phase : ℕ → ℕ → ℕ → Bool
only_phase place phase k = implies (eqb (place_of k) place) (eqb k phase)

module _ (s : Table) (rules : Sound s) where
  -- nobody is in that phase, so nobody is at the place
  nobody_at : (place phase : ℕ) → T (every (suc last_phase) (only_phase place phase)) → All s (λ j. s.phase j ≡ phase → ⊥)
      → T (not (some s.threads (λ j. eqb (places_of s j) place)))
  nobody_at place phase all h =
      none_i (λ j. eqb (places_of s j) place) s.threads (λ j l. not_i (eqb (places_of s j) place) (λ u. h j l (is_phase j l u)))
    where
      is_phase : (j : ℕ) → j < s.threads → T (eqb (places_of s j) place) → s.phase j ≡ phase
      is_phase j l u =
          let k = s.phase j in
          let most = rules.phases j l in
          eqb→eq k phase (implies_e (eqb (place_of k) place) (eqb k phase) (every_at (only_phase place phase) (suc last_phase) all k (omega arith)) u)

  -- what a column says of thread j, in phase k
  in_phase_lem : (column : ℕ → Bool) (j k : ℕ) → s.phase j ≡ k → T (column k) → T (column (s.phase j))
  in_phase_lem column j k e u = subst (λ (x : ℕ). T (column x)) (sym e) u

  -- a thread in 5: nobody is in exclusive
  no_writer : (i : ℕ) → i < s.threads → s.phase i ≡ 5 → T (not (any_in_exclusive s.threads (places_of s)))
  unfolding every place_of rows
  no_writer i l at = nobody_at 6 14 tt (λ j m e. rules.no_reader j m (in_phase_lem (between 13 14) j 14 e tt) i l (in_phase_lem reading i 5 at tt))

  -- a thread in 13: nobody is in either section
  nobody : (i : ℕ) → i < s.threads → s.phase i ≡ 13 → T (not (any_in_shared s.threads (places_of s)) && not (any_in_exclusive s.threads (places_of s)))
  unfolding every place_of rows
  nobody i l at =
      and_i (not (any_in_shared s.threads (places_of s))) _
      (nobody_at 2 6 tt (λ j m e. rules.no_reader i l (in_phase_lem (between 13 14) i 13 at tt) j m (in_phase_lem reading j 6 e tt)))
      (nobody_at 6 14 tt (λ j m e. other j e (rules.one_holder i l j m (in_phase_lem holds i 13 at tt) (in_phase_lem holds j 14 e tt))))
    where
      other : (j : ℕ) → s.phase j ≡ 14 → i ≡ j → ⊥
      other j e same = let z : ◌≡◌ {A = ℕ} 13 14 = sym at ∙ (ap s.phase same ∙ e) in omega arith

module _ (s : Table) (i mv t : ℕ) (rules : Sound s) (fits : i < s.threads) where
  -- thread i shows event e and goes from phase a to phase b
  event : (a b e : ℕ) → s.phase i ≡ a → T (between first_event last_event e) → T (is_next (place_of a) e) → T (need_met s.threads (places_of s) e) → place_of b ≡ place_after e
      → View s i (showing e (phase≔ i b ∷ []))
  event a b e at known next met to =
      seen e _
      (permits_i s.threads (places_of s) (pair_of i e)
      (record { known = known; fits = fits; next = subst (λ (k : ℕ). T (is_next (place_of k) e)) (sym at) next; met = met }))
      (through s.phase i place_of b ∙ ap (update (along place_of s.phase) i) to)

  -- thread i goes from phase a to phase b of the same place
  same_place : (a b : ℕ) → s.phase i ≡ a → place_of a ≡ place_of b → along place_of (update s.phase i b) ≡ places_of s
  same_place a b at e = kept s.phase i place_of b (ap place_of at ∙ e)

  -- "event 1", "event 5", .. as the moves have them; the others keep the place
  view : (e : Effect) → Way s i mv t e → View s i e
  unfolding place_of rows
  view e (call_shared_lem at) = event _ _ 1 at tt tt tt refl
  view e (call_exclusive_lem at) = event _ _ 5 at tt tt tt refl
  view e (raise_busy at) = unseen _ (same_place _ _ at refl)
  view e (find_open at f) = unseen _ (same_place _ _ at refl)
  view e (find-forbidden at f) = unseen _ (same_place _ _ at refl)
  view e (back_off at) = unseen _ (same_place _ _ at refl)
  view e (try_again at) = unseen _ (same_place _ _ at refl)
  view e (hold-mutex m at f) = unseen _ (same_place _ _ at refl)
  view e (give_back m at) = unseen _ (same_place _ _ at refl)
  view e (enter-shared at) = event _ _ 2 at tt tt (no_writer s rules i fits at) refl
  view e (leave_shared at) = event _ _ 3 at tt tt tt refl
  view e (lower_busy at) = unseen _ (same_place _ _ at refl)
  view e (return_shared at) = event _ _ 4 at tt tt tt refl
  view e (take-mutex m at f) = unseen _ (same_place _ _ at refl)
  view e (find-busy at f) = unseen _ (same_place _ _ at refl)
  view e (last-flag at f g) = unseen _ (same_place _ _ at refl)
  view e (next-flag at f g) = unseen _ (same_place _ _ at refl)
  view e (give_up at) = unseen _ (same_place _ _ at refl)
  view e (enter-exclusive at) = event _ _ 6 at tt tt (nobody s rules i fits at) refl
  view e (leave_exclusive at) = event _ _ 7 at tt tt tt refl
  view e (release_mutex m at) = unseen _ (same_place _ _ at refl)
  view e (return_exclusive at) = event _ _ 8 at tt tt tt refl
  view e (set-flag at l) = unseen _ (same_place _ _ at refl)
  view e (set_again at l) = unseen _ refl
  view e (clear_last at l f) = unseen _ (same_place _ _ at refl)
  view e (clear_flag at l f) = unseen _ refl
  view e (relents at) = unseen _ (same_place _ _ at refl)

-- ---- a list of requests

-- at places p a history is permitted, and leads to places q
abbrev LeadsTo : ℕ → Places → List Pair → Places → Type 0
LeadsTo n p h q = T (permitted_from n p h) × (places_after p h ≡ q)

-- an effect, then a history that leads on from it
view_then : (s : Table) (i : ℕ) (e : Effect) (h : List Pair) (q : Places) → View s i e → LeadsTo s.threads (places_of (applied s e.writes)) h q
    → LeadsTo s.threads (places_of s) (pair_seen i e.shows ++ h) q
unfolding permitted_from places_after
view_then s i e h q (unseen ws same) p = subst (λ (r : Places). LeadsTo s.threads r h q) same p
view_then s i e h q (seen k ws permits same) p =
    let rest = subst (λ (r : Places). LeadsTo s.threads r h q) same p in
    (and_i (pair_fits s.threads (places_of s) (pair_of i k)) _ permits rest.0, rest.1)

-- a refused request shows nothing
nothing_seen : (i : ℕ) (x : Reply MoveAnswer) → T (not (is_accepted x)) → pair_for i x ≡ []
nothing_seen i (accepted a) t = absurd t
nothing_seen i (refused number place) t = refl

-- from any sound table: at the places that its phases give, what is shown is permitted, and leads to those of the table that is left
shown_leads : (s : Table) (rs : List Request) → T (sound s) → LeadsTo s.threads (places_of s) (history_in itself s rs) (places_of (after_in itself s rs))
unfolding permitted_from places_after history_in after_in
shown_leads s [] g = (tt, refl)
shown_leads s (r ∷ rs) g = choose (λ t k. shown_leads t rs k) (decided (accepts_in itself s r))
  where
    choose : ((t : Table) → T (sound t) → LeadsTo t.threads (places_of t) (history_in itself t rs) (places_of (after_in itself t rs)))
        → T (accepts_in itself s r) ⊎ T (not (accepts_in itself s r))
        → LeadsTo s.threads (places_of s) (pair_for r.thread (reply_in itself s r) ++ history_in itself (step_in itself s r) rs) (places_of (after_in itself (step_in itself s r) rs))
    choose rec (inr t) = rw (nothing_seen r.thread (reply_in itself s r) t, refused-stays itself s r t) (rec s g)
    choose rec (inl t) =
        let ok = (accepts_e itself s r t).1 in
        let a = accepted_e s r ok in
        let u = applied s (effect s r).writes in
        rw (own-reply s r ok, own-step s r ok)
        (view_then s r.thread (effect s r) (history_in itself u rs) (places_of (after_in itself u rs))
        (view s r.thread r.mv r.target (sound_e s g) a.thread-fits (effect s r) (way s r a))
        (subst (λ (n : ℕ). LeadsTo n (places_of u) (history_in itself u rs) (places_of (after_in itself u rs))) (applied-keeps s (effect s r).writes) (rec u (kept-sound s r ok))))

pub shown-permitted : (s : Table) (rs : List Request) → T (sound s) → T (permitted_from s.threads (places_of s) (history_in itself s rs))
shown-permitted s rs g = (shown_leads s rs g).0

pub shown_places : (s : Table) (rs : List Request) → T (sound s) → places_after (places_of s) (history_in itself s rs) ≡ places_of (after_in itself s rs)
shown_places s rs g = (shown_leads s rs g).1
