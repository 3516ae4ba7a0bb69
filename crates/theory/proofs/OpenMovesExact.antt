-- The theorem on open moves: the list holds exactly the moves that a request would have accepted.
-- It is a list of pairs, move then target, and a pair stands in it if and only if the move accepts that request; it has at most 4N bytes.
-- For every table, and every thread, move and target (any numbers).
use Prim.Native.Nat.{ℕ, zero, suc, ◌+◌, ◌*◌, ◌≤◌, ◌<◌}
use native.Mathlib.Nat.{not-suc-le-zero, mul-le-mul_left}
use native.Mathlib.Omega.{arith}
use mathlib.Core.Bool.{Bool, true, false, cond, not}
use mathlib.Core.List.Memᴰ
use mathlib.Core.List.{List, [], ◌∷◌, ◌++◌, Memᴰ}
use mathlib.Core.Logic.{◌⊎◌, inl, inr, ⊎_elim, ◌↔◌}
use mathlib.Core.Path.{◌≡◌, refl, sym, subst, ap, ◌∙◌, fun_ext}
use lib.Dec.{T, leb, eqb, ltb, leb→le, eqb→eq, ltb→lt}
use lib.ListN.{length, get_or}
use Rattle.definitions.specs.Bounds.{last_phase, last_move}
use Rattle.definitions.specs.Moves.{ask, names_thread, accepts}
use Rattle.definitions.specs.OpenMoves.{open_moves}
use Rattle.definitions.specs.Phases.{Row, rows, has_move}
use Rattle.definitions.specs.Table.{Table}
use Rattle.definitions.specs.Threads.{every, how_many, gather, among}
use Rattle.definitions.specs.declared.Request.{Request}
use Rattle.theory.specs.Statements.{StandsAt, Stands}
use Rattle.theory.proofs.PhaseCases.{no_row_lem}
use Rattle.basics.proofs.Gathering.{gather-most, gather-counted}
use Rattle.basics.proofs.Quantifiers.{below_suc, every_at}
use Rattle.basics.proofs.Tests.{T_true, T_false, decided, no_both, cond_either, below?}
use Rattle.theory.proofs.Ways.{Accepted, accepted_e}

-- ---- lists of pairs and their bytes

pub record Choice : Type 0 where
  pub move : ℕ
  pub target : ℕ

abbrev flat : List Choice → List ℕ
flat [] = []
flat (c ∷ cs) = c.move ∷ c.target ∷ flat cs

flat_append : (cs ds : List Choice) → flat (cs ++ ds) ≡ flat cs ++ flat ds
flat_append [] ds = refl
flat_append (c ∷ cs) ds = ap (λ (l : List ℕ). c.move ∷ c.target ∷ l) (flat_append cs ds)

flat_gather : (n : ℕ) (f : ℕ → List Choice) → flat (gather n f) ≡ gather n (λ j. flat (f j))
unfolding gather
flat_gather zero f = refl
flat_gather (suc n) f = flat_append (gather n f) (f n) ∙ ap (λ (l : List ℕ). l ++ flat (f n)) (flat_gather n f)

flat_length : (cs : List Choice) → length (flat cs) ≡ 2 * length cs
flat_length [] = refl
flat_length (c ∷ cs) = let h = flat_length cs in omega arith

abbrev choice : ℕ → ℕ → Choice
choice m t = record { move = m; target = t }

stands_member : (cs : List Choice) (m t k : ℕ) → StandsAt (flat cs) m t k → Memᴰ (choice m t) cs
stands_member [] m t k h = absurd (not-suc-le-zero h.within)
stands_member (c ∷ cs) m t zero h = Memᴰ.head (λ x. choice (sym h.move_is x) (sym h.target_is x))
stands_member (c ∷ cs) m t (suc k) h =
    let even : 2 * suc k ≡ suc (suc (2 * k)) = omega arith in
    let odd : 2 * suc k + 1 ≡ suc (suc (2 * k + 1)) = omega arith in
    Memᴰ.tail (stands_member cs m t k
    record {
      within = let w = h.within in omega arith;
      move_is = subst (λ (x : ℕ). get_or (flat (c ∷ cs)) x 0 ≡ m) even h.move_is;
      target_is = subst (λ (x : ℕ). get_or (flat (c ∷ cs)) x 0 ≡ t) odd h.target_is;
    })

member_stands : (m t : ℕ) {cs : List Choice} → Memᴰ (choice m t) cs → Stands (flat cs) m t
member_stands m t (Memᴰ.head {xs = xs} e) =
    (0, record { within = omega arith; move_is = sym (ap (λ (c : Choice). c.move) e); target_is = sym (ap (λ (c : Choice). c.target) e) })
member_stands m t (Memᴰ.tail {x = c} {xs = cs} i) =
    let r = member_stands m t i in
    let k = r.0 in
    let even : suc (suc (2 * k)) ≡ 2 * suc k = omega arith in
    let odd : suc (suc (2 * k + 1)) ≡ 2 * suc k + 1 = omega arith in (
      suc k,
      record {
        within = let w = r.1.within in omega arith;
        move_is = subst (λ (x : ℕ). get_or (flat (c ∷ cs)) x 0 ≡ m) even r.1.move_is;
        target_is = subst (λ (x : ℕ). get_or (flat (c ∷ cs)) x 0 ≡ t) odd r.1.target_is;
      },
    )

-- ---- membership in gathered lists

module _ (c : Choice) (f : ℕ → List Choice) where
  gather_member : (n : ℕ) → Memᴰ c (gather n f) → (j : ℕ) × (j < n) × Memᴰ c (f j)
  unfolding gather
  gather_member zero h = absurd (Memᴰ.not-nil h)
  gather_member (suc n) h =
      ⊎_elim (λ u. let r = gather_member n u in (r.0, omega arith, r.2)) (λ u. (n, omega arith, u)) (Memᴰ.append_cases (gather n f) h)

  member_gather : (n j : ℕ) → j < n → Memᴰ c (f j) → Memᴰ c (gather n f)
  unfolding gather
  member_gather zero j l h = absurd (not-suc-le-zero l)
  member_gather (suc n) j l h =
      ⊎_elim (λ e. Memᴰ.append_right (gather n f) (subst (λ (k : ℕ). Memᴰ c (f k)) e h)) (λ k. Memᴰ.append_left (f n) (member_gather n j k h)) (below_suc j n l)

-- one choice or none
cond_member : (b : Bool) (c d : Choice) → Memᴰ c (cond b (d ∷ []) []) → T b × (c ≡ d)
cond_member true c d h = (tt, Memᴰ.eq_of_singleton h)
cond_member false c d h = absurd (Memᴰ.not-nil h)

member_cond : (b : Bool) (c : Choice) → T b → Memᴰ c (cond b (c ∷ []) [])
member_cond true c t = Memᴰ.head refl
member_cond false c t = absurd t

flat_cond : (b : Bool) (c : Choice) → flat (cond b (c ∷ []) []) ≡ cond b (c.move ∷ c.target ∷ []) []
flat_cond true c = refl
flat_cond false c = refl

-- the target of an accepted request is below N
target_below : (s : Table) (r : Request) → Accepted s r → r.target < s.threads
target_below s r a = by (names_thread r.mv) a.target_fits_lem
  where
    by : (b : Bool) → T (cond b (ltb r.target s.threads) (eqb r.target 0)) → r.target < s.threads
    by true t = ltb→lt r.target s.threads t
    by false t = let e = eqb→eq r.target 0 t in let l = a.thread-fits in omega arith

-- ---- the open moves as choices

module _ (s : Table) (thread : ℕ) where
  abbrev choices_at : ℕ → ℕ → List Choice
  choices_at m t = cond (accepts s (ask thread m t)) (choice m t ∷ []) []

  abbrev choices_of : ℕ → List Choice
  choices_of m = gather s.threads (choices_at m)

  abbrev choices : List Choice
  choices = gather (suc last_move) choices_of

  open_flat : open_moves s thread ≡ flat choices
  unfolding open_moves
  open_flat =
      sym (flat_gather (suc last_move) choices_of
      ∙ ap (gather (suc last_move)) (fun_ext (λ m. flat_gather s.threads (choices_at m)
      ∙ ap (gather s.threads) (fun_ext (λ t. flat_cond (accepts s (ask thread m t)) (choice m t))))))

  -- ---- the theorem

  pub open_exact : (mv target : ℕ) → Stands (open_moves s thread) mv target ↔ T (accepts s (ask thread mv target))
  open_exact m t = (only, complete)
    where
      found : (j : ℕ) × (j < suc last_move) × Memᴰ (choice m t) (choices_of j) → T (accepts s (ask thread m t))
      found h =
          let g = gather_member (choice m t) (choices_at h.0) s.threads h.2 in
          let c = cond_member (accepts s (ask thread h.0 g.0)) (choice m t) (choice h.0 g.0) g.2 in
          subst (λ (x : Choice). T (accepts s (ask thread x.move x.target))) (sym c.1) c.0

      only : Stands (open_moves s thread) m t → T (accepts s (ask thread m t))
      only h =
          let k : Stands (flat choices) m t = subst (λ (l : List ℕ). Stands l m t) open_flat h in
          found (gather_member (choice m t) choices_of (suc last_move) (stands_member choices m t k.0 k.1))

      complete : T (accepts s (ask thread m t)) → Stands (open_moves s thread) m t
      complete u =
          let a = accepted_e s (ask thread m t) u in
          let below : m < suc last_move = let f = a.move-fits in omega arith in
          subst (λ (l : List ℕ). Stands l m t) (sym open_flat)
          (member_stands m t (member_gather (choice m t) choices_of (suc last_move) m below
          (member_gather (choice m t) (choices_at m) s.threads t (target_below s (ask thread m t) a) (member_cond (accepts s (ask thread m t)) (choice m t) u))))

  -- the list is made of pairs
  pub open_paired : (n : ℕ) × (length (open_moves s thread) ≡ 2 * n)
  open_paired = (length choices, ap length open_flat ∙ flat_length choices)

  -- ---- how long it is

  -- no phase has more than two moves, by trying the phases; another number has none
  two_moves : how_many (suc last_move) (λ mv. has_move mv (s.phase thread)) ≤ 2
  unfolding rows every how_many among
  two_moves =
      ⊎_elim
      (λ l. leb→le (how_many (suc last_move) (λ mv. has_move mv (s.phase thread))) 2
      (every_at (λ p. leb (how_many (suc last_move) (λ mv. has_move mv p)) 2) (suc last_phase) tt (s.phase thread) l))
      (λ l. subst (λ (row : Row). how_many (suc last_move) (λ mv. among mv row.moves) ≤ 2) (sym (no_row_lem (s.phase thread) l)) (omega arith))
      (below? (suc last_phase) (s.phase thread))

  -- the pairs of one move
  abbrev pairs_of : ℕ → List ℕ
  pairs_of mv = gather s.threads (λ t. cond (accepts s (ask thread mv t)) (mv ∷ t ∷ []) [])

  -- a move that the phase has is open with at most every thread, another with none
  move-short : (mv : ℕ) → length (pairs_of mv) ≤ cond (has_move mv (s.phase thread)) (2 * s.threads) 0
  move-short mv = by (decided (has_move mv (s.phase thread)))
    where
      pair : ℕ → List ℕ
      pair t = cond (accepts s (ask thread mv t)) (mv ∷ t ∷ []) []

      two : (t : ℕ) → length (pair t) ≤ 2
      two t = cond_either (λ (l : List ℕ). length l ≤ 2) (accepts s (ask thread mv t)) (mv ∷ t ∷ []) [] (λ u. omega arith) (λ u. omega arith)

      none : T (not (has_move mv (s.phase thread))) → (t : ℕ) → length (pair t) ≤ 0
      none h t =
          cond_either (λ (l : List ℕ). length l ≤ 0) (accepts s (ask thread mv t)) (mv ∷ t ∷ []) []
          (λ u. absurd (no_both (has_move mv (s.phase thread)) (accepted_e s (ask thread mv t) u).has_move_lem h)) (λ u. omega arith)

      by : T (has_move mv (s.phase thread)) ⊎ T (not (has_move mv (s.phase thread))) → length (gather s.threads pair) ≤ cond (has_move mv (s.phase thread)) (2 * s.threads) 0
      by (inl t) = rw (T_true (has_move mv (s.phase thread)) t) (omega (arith, gather-most pair 2 s.threads two))
      by (inr t) = rw (T_false (has_move mv (s.phase thread)) t) (omega (arith, gather-most pair 0 s.threads (none t)))

  -- 4N bytes suffice for the open moves of a thread
  pub open_short : length (open_moves s thread) ≤ 4 * s.threads
  unfolding open_moves
  open_short =
      omega (arith, gather-counted pairs_of (2 * s.threads) (λ mv. has_move mv (s.phase thread)) (suc last_move) move-short, mul-le-mul_left (2 * s.threads) two_moves)
