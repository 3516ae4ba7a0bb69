-- The open moves of a thread are the pairs that where it stands gives: `open_moves` by N, phase and mutex. For every N.
use Prim.Native.Nat.{ℕ, zero, suc, ◌≤◌, ◌<◌}
use native.Mathlib.Nat.{not-suc-le-zero}
use native.Mathlib.Omega.{arith}
use mathlib.Core.Bool.{Bool, true, false, cond, not, ◌&&◌, and-true}
use mathlib.Core.List.{List, [], ◌∷◌, ◌++◌, append-nil}
use mathlib.Core.Path.{◌≡◌, refl, ap, ◌∙◌}
use borrow.Author.Tests.{lt-ltb, le-leb, ne_eqb}
use lib.Dec.{T, ltb, eqb}
use Rattle.definitions.specs.Answers.{passes_all}
use Rattle.definitions.specs.Bounds.{last_move}
use Rattle.definitions.specs.Moves.{ask, names_thread, target_fits, must_wait, move_tests, move_answer, step_reply, accepts}
use Rattle.definitions.specs.OpenMoves.{open_moves}
use Rattle.definitions.specs.Phases.{has_move}
use Rattle.definitions.specs.Sound.{sound}
use Rattle.definitions.specs.Table.{Table}
use Rattle.definitions.specs.Threads.{gather}
use Rattle.listing.specs.Pairs.{open_targets, pairs, pairs_below, open_pairs}
use Rattle.listing.specs.declared.mover.Mover.{Mover}
use Rattle.basics.proofs.Replies.{accepted_is}
use Rattle.basics.proofs.Tests.{T_true}

-- ---- gathered lists

gather-same : (n : ℕ) (f g : ℕ → List ℕ) → ((j : ℕ) → j < n → f j ≡ g j) → gather n f ≡ gather n g
unfolding gather
gather-same zero f g h = refl
gather-same (suc n) f g h =
    ap (λ (l : List ℕ). l ++ f n) (gather-same n f g (λ j l. h j (omega arith))) ∙ ap (λ (l : List ℕ). gather n g ++ l) (h n (omega arith))

none : (n : ℕ) → ◌≡◌ {A = List ℕ} (gather n (λ t. [])) []
unfolding gather
none zero = refl
none (suc n) = append-nil (gather n (λ t. [])) ∙ none n

-- all or none
all_or_none : (w : Bool) (n : ℕ) (g : ℕ → List ℕ) → gather n (λ t. cond w (g t) []) ≡ gather (cond w n 0) g
unfolding gather
all_or_none true n g = refl
all_or_none false n g = none n

-- the first alone, or none
first_or_none : (w : Bool) (n : ℕ) (g : ℕ → List ℕ) → gather (suc n) (λ t. cond (eqb t 0 && w) (g t) []) ≡ gather (cond w 1 0) g
unfolding gather
first_or_none true zero g = refl
first_or_none false zero g = refl
first_or_none w (suc n) g =
    ap (λ (b : Bool). gather (suc n) (λ t. cond (eqb t 0 && w) (g t) []) ++ cond (b && w) (g (suc n)) []) (ne_eqb (suc n) 0 (λ e. omega arith))
    ∙ (append-nil (gather (suc n) (λ t. cond (eqb t 0 && w) (g t) [])) ∙ first_or_none w n g)

-- ---- one move

-- its targets that pass are all, or 0 alone, or none
by_names : (names w : Bool) (n m : ℕ)
    → gather (suc n) (λ t. cond (cond names (ltb t (suc n)) (eqb t 0) && w) (m ∷ t ∷ []) []) ≡ gather (cond w (cond names (suc n) 1) 0) (λ t. m ∷ t ∷ [])
by_names true w n m =
    gather-same (suc n) _ (λ t. cond w (m ∷ t ∷ []) []) (λ t l. ap (λ (b : Bool). cond (b && w) (m ∷ t ∷ []) []) (lt-ltb t (suc n) l))
    ∙ all_or_none w (suc n) (λ t. m ∷ t ∷ [])
by_names false w n m = first_or_none w n (λ t. m ∷ t ∷ [])

one_move : (n m : ℕ) (w : Bool) → 1 ≤ n
    → gather n (λ t. cond (target_fits n m t && w) (m ∷ t ∷ []) []) ≡ gather (cond w (cond (names_thread m) n 1) 0) (λ t. m ∷ t ∷ [])
one_move zero m w h = absurd (not-suc-le-zero h)
one_move (suc n) m w h = by_names (names_thread m) w n m

module _ (s : Table) (i : ℕ) (h : T (sound s)) (l : i < s.threads) where
  -- a request is accepted by the tests 5 to 7
  accepts-by : (m t : ℕ) → m ≤ last_move
      → accepts s (ask i m t) ≡ (target_fits s.threads m t && (has_move m (s.phase i) && not (must_wait (s.phase i) s.mutex m)))
  unfolding step_reply passes_all
  accepts-by m t k =
      accepted_is (move_answer s (ask i m t)) (move_tests s (ask i m t))
      ∙ simp (T_true (sound s) h, lt-ltb i s.threads l, le-leb m last_move k, and-true)

  -- ---- all moves

  pub open_list : (at : Mover) → at.threads ≡ s.threads → at.phase ≡ s.phase i → at.mutex ≡ s.mutex → 1 ≤ s.threads
      → open_moves s i ≡ open_pairs at
  unfolding open_moves pairs_below pairs open_targets
  open_list at a b c e =
      gather-same (suc last_move) _ _ (λ m k.
      let w = has_move m (s.phase i) && not (must_wait (s.phase i) s.mutex m) in
      gather-same s.threads _ _ (λ t j. ap (λ (x : Bool). cond x (m ∷ t ∷ []) []) (accepts-by m t (omega arith)))
      ∙ one_move s.threads m w e
      ∙ simp (a, b, c))
